-- The turns of an update: what is still to be taken in gives the same. A byte goes into the open block; behind a full block
-- a byte or a whole block goes into the next one, after the full one is enciphered.
-- Assumes nothing.
use mathlib.Core.Path.{◌≡◌, refl, sym, subst, ap, ap₂, ◌∙◌}
use mathlib.Core.List.{List, [], ◌∷◌, ◌++◌, append-nil, append_assoc}
use Prim.Native.Nat.{ℕ, zero, suc, ◌+◌, ◌-◌, ◌*◌, ◌≤◌, ◌<◌, min}
use native.Mathlib.Nat.{not-suc-le-zero}
use native.Mathlib.Numerals.{add-one}
use native.Mathlib.Omega.{arith}
use lib.ListN.{length, get_or, take, drop, length-append, length-drop, take-append-drop}
use lib.Seq.{drop-cons, drop-drop, length-take-le}
use borrow.Author.Tests.{lt-ltb, le-ltb}
use Rattle.base.specs.Bytes.{at, part, xor_lists}
use Rattle.std.specs.Simd.{first_chunks}
use Rattle.base.proofs.Cases.{by_order}
use Rattle.base.proofs.Xor.{xor_lists_nil}
use Rattle.cmac.specs.LastBlock.{mixed}
use Rattle.aes.specs.Fips197.{cipher}
use Rattle.aes.proofs.CipherLaws.{cipher_long}
use Rattle.cmac.specs.declared.Cmac.{Cmac}
use Rattle.cmac.specs.Running.{running, pushed, absorbed}
use Rattle.cmac.proofs.CmacLaws.{mixed_snoc}

pub push_open : (ks x : List ℕ) (n b : ℕ) → n < 16 → pushed (running ks x n) b ≡ running ks (mixed x n b) (n + 1)
unfolding pushed
push_open ks x n b h = simp (lt-ltb n 16 h)

pub push_full : (ks x : List ℕ) (n b : ℕ) → 16 ≤ n → pushed (running ks x n) b ≡ running ks (mixed (cipher ks x) 0 b) 1
unfolding pushed
push_full ks x n b h = simp (le-ltb n 16 h)

-- a byte of the message, taken in
pub taken : (s s' : Cmac) (p : List ℕ) (i : ℕ) → i < length p → pushed s (at p i) ≡ s'
    → absorbed s' (drop (i + 1) p) ≡ absorbed s (drop i p)
unfolding absorbed
taken s s' p i h e =
    ap₂ absorbed (sym e) (ap (λ (n : ℕ). drop n p) (add-one i))
    ∙ ap (absorbed s) (sym (drop-cons p i 0 h))

-- ---- a whole block

pub absorb_append : (s : Cmac) (p q : List ℕ) → absorbed s (p ++ q) ≡ absorbed (absorbed s p) q
unfolding absorbed
absorb_append s [] q = refl
absorb_append s (b ∷ p) q = absorb_append (pushed s b) p q

-- bytes that have room in the open block
fill : (ks x d q : List ℕ) (n : ℕ) → length x ≡ 16 → length d ≡ n → n + length q ≤ 16
    → absorbed (running ks (xor_lists x d) n) q ≡ running ks (xor_lists x (d ++ q)) (n + length q)
unfolding absorbed
fill ks x d [] n lx ld h = ap₂ (running ks) (ap (xor_lists x) (sym (append-nil d))) (omega arith)
fill ks x d (b ∷ q) n lx ld h =
    ap (λ (s : Cmac). absorbed s q)
    (push_open ks (xor_lists x d) n b (omega arith)
    ∙ ap (λ (l : List ℕ). running ks l (n + 1)) (mixed_snoc x d n b ld (omega arith)))
    ∙ fill ks x (d ++ b ∷ []) q (n + 1) lx (omega (arith, length-append d (b ∷ []))) (omega arith)
    ∙ ap₂ (running ks) (ap (xor_lists x) (append_assoc d (b ∷ []) q)) (omega arith)

-- a full block is enciphered when a byte comes
absorb_full : (ks x q : List ℕ) (n : ℕ) → 16 ≤ n → 0 < length q
    → absorbed (running ks x n) q ≡ absorbed (running ks (cipher ks x) 0) q
unfolding absorbed
absorb_full ks x [] n h k = let none : ⊥ = omega arith in absurd none
absorb_full ks x (b ∷ q) n h k =
    ap (λ (s : Cmac). absorbed s q)
    (push_full ks x n b h ∙ sym (push_open ks (cipher ks x) 0 b (omega arith)))

pub block_next : (ks x p : List ℕ) (n i : ℕ) → 16 ≤ n → i + 16 ≤ length p
    → absorbed (running ks (xor_lists (cipher ks x) (part i 16 p)) 16) (drop (i + 16) p) ≡ absorbed (running ks x n) (drop i p)
block_next ks x p n i h k =
    let rest : 16 ≤ length (drop i p) = omega (arith, length-drop i p) in
    let block : length (part i 16 p) ≡ 16 = length-take-le 16 (drop i p) rest in
    let whole : absorbed (running ks x n) (part i 16 p) ≡ running ks (xor_lists (cipher ks x) (part i 16 p)) 16 =
    absorb_full ks x (part i 16 p) n h (omega arith)
    ∙ ap (λ (l : List ℕ). absorbed (running ks l 0) (part i 16 p)) (sym (xor_lists_nil (cipher ks x)))
    ∙ fill ks (cipher ks x) [] (part i 16 p) 0 (cipher_long ks x) refl (omega arith)
    ∙ ap (running ks (xor_lists (cipher ks x) (part i 16 p))) (omega arith) in
    ap₂ absorbed (sym whole) (sym (drop-drop 16 i p))
    ∙ sym (absorb_append (running ks x n) (part i 16 p) (drop 16 (drop i p)))
    ∙ ap (absorbed (running ks x n)) (take-append-drop 16 (drop i p))

-- the chunk i of a string that is cut into blocks
pub nth_chunk : (k i : ℕ) (p d : List ℕ) → i < k → get_or (first_chunks 16 k p) i d ≡ part (16 * i) 16 p
nth_chunk zero i p d h = absurd (not-suc-le-zero h)
nth_chunk (suc k) zero p d h = refl
nth_chunk (suc k) (suc i) p d h =
    let place : 16 + 16 * i ≡ 16 * suc i = omega arith in
    nth_chunk k i (drop 16 p) d (omega arith)
    ∙ ap (take 16) (drop-drop (16 * i) 16 p ∙ ap (λ (n : ℕ). drop n p) place)

-- ---- what the open block has room for

filled_by : (s : Cmac) (p : List ℕ) → s.filled + length p ≤ 16 → (absorbed s p).filled ≡ s.filled + length p
unfolding absorbed
filled_by s [] h = omega arith
filled_by s (b ∷ p) h =
    let one : (pushed s b).filled ≡ s.filled + 1 = ap (λ (t : Cmac). t.filled) (push_open s.schedule s.chain s.filled b (omega arith)) in
    filled_by (pushed s b) p (omega (arith, one)) ∙ omega (arith, one)

-- where more comes than that, the block is full
pub full_then : (s : Cmac) (p : List ℕ) (n : ℕ) → n ≡ min (16 - s.filled) (length p) → 0 < length (drop n p)
    → 16 ≤ (absorbed s (take n p)).filled
unfolding absorbed
full_then s p n e h =
    let more : n < length p = omega (arith, length-drop n p) in
    by_order s.filled 16
    (λ k. omega (arith, filled_by s (take n p) (omega (arith, length-take-le n p (omega arith))), length-take-le n p (omega arith)))
    (λ k.
    let none : n ≡ 0 = omega arith in
    subst (λ (m : ℕ). 16 ≤ (absorbed s (take m p)).filled) (sym none) (omega arith))
