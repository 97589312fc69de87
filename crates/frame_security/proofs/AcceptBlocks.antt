-- Block by block: one more block, done where it lies; lengths; and that one function block by block undoes another which
-- it undoes on each block. So decrypting a join-accept gives back what was encrypted; the length and byte 0 stay.
-- Assumes nothing.
use denote.Ref.{Bor}
use mathlib.Core.Path.{◌≡◌, refl, sym, ap, ap₂, ◌∙◌}
use mathlib.Core.List.{List, [], ◌∷◌, ◌++◌}
use Prim.Native.Nat.{ℕ, zero, suc, ◌+◌, ◌-◌, ◌*◌, ◌/◌, ◌≤◌, ◌<◌}
use native.Mathlib.Nat.{not-suc-le-zero}
use native.Mathlib.Numerals.{add-one}
use native.Mathlib.Omega.{arith}
use lib.ListN.{length, take, drop, set, length-append, length-drop, take-append-drop}
use lib.Seq.{sets, sets-eq, length-take-le, take_at, drop_at, drop-append-add}
use Rattle.base.specs.Bytes.{at, part, AreBytes}
use Rattle.base.specs.Storing.{run_at}
use Rattle.base.proofs.Parts.{bytes_take, bytes_drop}
use Rattle.base.proofs.StoringLaws.{run_inside}
use Rattle.aes.specs.KeyExpansion.{key_expansion_of}
use Rattle.aes.specs.Fips197.{cipher, inv_cipher}
use Rattle.aes.proofs.ExpansionLaws.{schedule_byte}
use Rattle.aes.proofs.CipherLaws.{cipher_long, inv_cipher_long, cipher-inv_cipher}
use Rattle.frame_security.specs.JoinAcceptCipher.{Computes, each_block_of, from_one, accept_encrypted, accept_decrypted}

-- ---- stores past a first string

set_past : (xs ys : List ℕ) (n a : ℕ) → set (xs ++ ys) (length xs + n) a ≡ xs ++ set ys n a
set_past [] ys n a = ap (λ (m : ℕ). set ys m a) (omega arith)
set_past (x ∷ xs) ys n a =
    let e : suc (length xs) + n ≡ suc (length xs + n) = omega arith in
    ap (λ (m : ℕ). set (x ∷ (xs ++ ys)) m a) e ∙ ap (λ (l : List ℕ). x ∷ l) (set_past xs ys n a)

sets_past : (xs ys : List ℕ) (n : ℕ) (vs : List ℕ) → sets (xs ++ ys) (length xs + n) vs ≡ xs ++ sets ys n vs
sets_past xs ys n [] = refl
sets_past xs ys n (a ∷ vs) =
    let e : suc (length xs + n) ≡ length xs + suc n = omega arith in
    ap₂ (λ (l : List ℕ) (m : ℕ). sets l m vs) (set_past xs ys n a) e ∙ sets_past xs (set ys n a) (suc n) vs

-- ---- block by block

module _ (f : List ℕ → List ℕ) (long : (s : List ℕ) → length (f s) ≡ 16) where
  pub blocks_long : (n : ℕ) (s : List ℕ) → 16 * n ≤ length s → length (each_block_of f n s) ≡ length s
  unfolding each_block_of
  blocks_long zero s h = refl
  blocks_long (suc n) s h =
      let d : length (drop 16 s) ≡ length s - 16 = length-drop 16 s in
      let r : length (each_block_of f n (drop 16 s)) ≡ length (drop 16 s) = blocks_long n (drop 16 s) (omega arith) in
      length-append (f (take 16 s)) (each_block_of f n (drop 16 s)) ∙ omega (arith, long (take 16 s))

  -- the next block, done where it lies
  pub blocks_step : (n : ℕ) (s : List ℕ) → n * 16 + 16 ≤ length s
      → sets (each_block_of f n s) (n * 16) (f (part (n * 16) 16 (each_block_of f n s))) ≡ each_block_of f (n + 1) s
  unfolding each_block_of
  blocks_step zero s h =
      let l : length (f (take 16 s)) ≡ 16 = long (take 16 s) in
      let e : 0 + length (f (take 16 s)) ≡ 16 = omega arith in
      sets-eq (f (take 16 s)) s 0 (omega arith) ∙ ap (λ (m : ℕ). f (take 16 s) ++ drop m s) e
  blocks_step (suc n) s h =
      let a = f (take 16 s) in
      let b = each_block_of f n (drop 16 s) in
      let l : length a ≡ 16 = long (take 16 s) in
      let e : suc n * 16 ≡ length a + n * 16 = omega arith in
      let d : length (drop 16 s) ≡ length s - 16 = length-drop 16 s in
      let p : drop (suc n * 16) (a ++ b) ≡ drop (n * 16) b =
      ap (λ (m : ℕ). drop m (a ++ b)) e ∙ drop-append-add a b (n * 16) in
      ap₂ (λ (m : ℕ) (t : List ℕ). sets (a ++ b) m (f (take 16 t))) e p
      ∙ sets_past a b (n * 16) (f (part (n * 16) 16 b))
      ∙ ap (λ (t : List ℕ). a ++ t) (blocks_step n (drop 16 s) (omega arith))
      ∙ ap (λ (m : ℕ). each_block_of f m s) (sym (ap (λ (m : ℕ). m + 1) refl ∙ add-one (suc n) ∙ ap suc (sym (add-one n))))

-- ---- undone

module _
    (f g : List ℕ → List ℕ) (long : (s : List ℕ) → length (f s) ≡ 16) (undoes : (s : List ℕ) → length s ≡ 16 → AreBytes s → g (f s) ≡ s) where
  pub blocks_undone : (n : ℕ) (s : List ℕ) → 16 * n ≤ length s → AreBytes s → each_block_of g n (each_block_of f n s) ≡ s
  unfolding each_block_of
  blocks_undone zero s h b = refl
  blocks_undone (suc n) s h b =
      let d : length (drop 16 s) ≡ length s - 16 = length-drop 16 s in
      let r = each_block_of f n (drop 16 s) in
      ap₂ (λ (x y : List ℕ). g x ++ each_block_of g n y) (take_at (f (take 16 s)) r 16 (long (take 16 s)))
      (drop_at (f (take 16 s)) r 16 (long (take 16 s)))
      ∙ ap₂ (λ (x y : List ℕ). x ++ y)
      (undoes (take 16 s) (length-take-le 16 s (omega arith)) (bytes_take 16 s b))
      (blocks_undone n (drop 16 s) (omega arith) (bytes_drop 16 s b))
      ∙ take-append-drop 16 s

-- ---- a join-accept

abbrev whole_blocks : List ℕ → ℕ
whole_blocks s = length (drop 1 s) / 16

from_one_long : (g : List ℕ → List ℕ) → ((x : List ℕ) → length (g x) ≡ 16) → (s : List ℕ) → length (from_one g s) ≡ length s
from_one_long g long s =
    let l : length (each_block_of g (whole_blocks s) (drop 1 s)) ≡ length (drop 1 s) =
    blocks_long g long (whole_blocks s) (drop 1 s) (omega arith) in
    length-append (take 1 s) (each_block_of g (whole_blocks s) (drop 1 s))
    ∙ ap (λ (m : ℕ). length (take 1 s) + m) l
    ∙ sym (length-append (take 1 s) (drop 1 s))
    ∙ ap length (take-append-drop 1 s)

pub accept_long : (key s : List ℕ) → length (accept_encrypted key s) ≡ length s
unfolding accept_encrypted
accept_long key s = from_one_long (inv_cipher (key_expansion_of key)) (inv_cipher_long (key_expansion_of key)) s

pub clear_long : (key f : List ℕ) → length (accept_decrypted key f) ≡ length f
unfolding accept_decrypted
clear_long key f = from_one_long (cipher (key_expansion_of key)) (cipher_long (key_expansion_of key)) f

-- what a device does gives back what the network encrypted
pub accept_undone : (key s : List ℕ) → AreBytes key → AreBytes s → 1 ≤ length s → accept_decrypted key (accept_encrypted key s) ≡ s
unfolding accept_encrypted accept_decrypted
accept_undone key s hk hs h =
    let w = key_expansion_of key in
    let e = each_block_of (inv_cipher w) (whole_blocks s) (drop 1 s) in
    let l : length e ≡ length (drop 1 s) =
    blocks_long (inv_cipher w) (inv_cipher_long w) (whole_blocks s) (drop 1 s) (omega arith) in
    let one : length (take 1 s) ≡ 1 = length-take-le 1 s h in
    let front : take 1 (take 1 s ++ e) ≡ take 1 s = take_at (take 1 s) e 1 one in
    let back : drop 1 (take 1 s ++ e) ≡ e = drop_at (take 1 s) e 1 one in
    ap₂ (λ (x y : List ℕ). x ++ each_block_of (cipher w) (length y / 16) y) front back
    ∙ ap (λ (n : ℕ). take 1 s ++ each_block_of (cipher w) (n / 16) e) l
    ∙ ap (λ (y : List ℕ). take 1 s ++ y)
    (blocks_undone (inv_cipher w) (cipher w) (inv_cipher_long w) (λ t. cipher-inv_cipher w t (schedule_byte key hk)) (whole_blocks s)
    (drop 1 s) (omega arith) (bytes_drop 1 s hs))
    ∙ take-append-drop 1 s

pub accept_first : (key s : List ℕ) → 1 ≤ length s → at (accept_encrypted key s) 0 ≡ at s 0
unfolding accept_encrypted
accept_first key [] h = absurd (not-suc-le-zero h)
accept_first key (a ∷ s) h = refl

pub clear_first : (key f : List ℕ) → 1 ≤ length f → at (accept_decrypted key f) 0 ≡ at f 0
unfolding accept_decrypted
clear_first key [] h = absurd (not-suc-le-zero h)
clear_first key (a ∷ f) h = refl

-- ---- the loop: r is s with f on its first k blocks

pub record Blocking (f : List ℕ → List ℕ) (s r : List ℕ) (k : ℕ) : Type 0 where
  pub upto : k ≤ length s / 16
  pub long : length r ≡ length s
  pub so_far : r ≡ each_block_of f k s

pub start : (f : List ℕ → List ℕ) (s : List ℕ) → Blocking f s s 0
unfolding each_block_of
start f s = record { upto = omega arith; long = refl; so_far = refl }

-- the next block b was taken out, and what the step gives for it stored in its place
pub step : {gives : Bor (List ℕ) → List ℕ → List ℕ → Type 0} {g : List ℕ → List ℕ → List ℕ} {s r b d e : List ℕ} {k : ℕ} (ks : Bor (List ℕ))
    → Computes gives g → Blocking (g ks.now) s r k → k < length s / 16 → b ≡ run_at 16 r (k * 16) → gives ks b d
    → e ≡ sets r (k * 16) d → Blocking (g ks.now) s e (k + 1)
step {gives} {g} {s} {r} {b} {d} {e} {k} ks h w l hb hd q =
    let f = g ks.now in
    let room : k * 16 + 16 ≤ length r = omega (arith, w.long) in
    let so : e ≡ each_block_of f (k + 1) s =
    q
    ∙ ap (sets r (k * 16)) (h.same ks b d hd ∙ ap f (hb ∙ run_inside 16 r (k * 16) room))
    ∙ ap (λ (t : List ℕ). sets t (k * 16) (f (part (k * 16) 16 t))) w.so_far
    ∙ blocks_step f (h.long ks.now) k s (omega arith) in
    record {
      upto = omega arith;
      long = ap length so ∙ blocks_long f (h.long ks.now) (k + 1) s (omega arith);
      so_far = so;
    }

pub done : {f : List ℕ → List ℕ} {s r : List ℕ} {k : ℕ} → Blocking f s r k → length s / 16 ≤ k → r ≡ each_block_of f (length s / 16) s
done {f} {s} {r} {k} b h =
    let e : k ≡ length s / 16 = omega (arith, b.upto) in
    b.so_far ∙ ap (λ (n : ℕ). each_block_of f n s) e
