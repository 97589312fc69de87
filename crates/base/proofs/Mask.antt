-- A string under a mask: its length, that the same mask takes itself off again, how it goes over parts and
-- over one byte that is changed, and the loop that lays it on from the front.
-- Assumes nothing.
use mathlib.Core.Path.{◌≡◌, refl, sym, ap, ap₂, ◌∙◌, subst}
use mathlib.Core.List.{List, [], ◌∷◌, ◌++◌, append-nil}
use Prim.Native.Nat.{ℕ, zero, suc, ◌+◌, ◌-◌, ◌≤◌, ◌<◌}
use native.Mathlib.Nat.{le_of_suc-le-suc, suc-add, add-zero, zero-add}
use native.Mathlib.Numerals.{add-one}
use native.Mathlib.Omega.{arith}
use lib.ListN.{length, take, drop, set, length-append, length-take, length-drop, drop_of_length-le}
use lib.Seq.{drop-cons, take_all, take-add, take_at, drop_at, append_snoc, set_split, drop-drop, length-take-le}
use Rattle.base.specs.Bytes.{at, part, ◌⊕◌}
use Rattle.base.specs.Mask.{masked}
use Rattle.base.proofs.Lent.{part-long, put_back}
use Rattle.base.proofs.Tab.{length-tab, at-tab, tab-ext}
use Rattle.base.proofs.Xor.{xor-twice}

pub masked-long : (p : List ℕ) (f : ℕ → ℕ) → length (masked p f) ≡ length p
unfolding masked
masked-long p f = length-tab (length p) (λ j. at p j ⊕ f j)

pub masked-at : (p : List ℕ) (f : ℕ → ℕ) (i : ℕ) → i < length p → at (masked p f) i ≡ at p i ⊕ f i
unfolding masked
masked-at p f i h = at-tab (length p) (λ j. at p j ⊕ f j) i h

-- masks that agree wherever there is a byte
pub masked_same : (p : List ℕ) (f g : ℕ → ℕ) → ((i : ℕ) → i < length p → f i ≡ g i) → masked p f ≡ masked p g
unfolding masked
masked_same p f g h =
    tab-ext (length p) (λ j. at p j ⊕ f j) (λ j. at p j ⊕ g j) (λ i l. ap (λ (n : ℕ). at p i ⊕ n) (h i l))

-- what lays the mask on takes it off
pub masked-twice : (p : List ℕ) (f : ℕ → ℕ) → masked (masked p f) f ≡ p
unfolding masked
masked-twice [] f = refl
masked-twice (a ∷ p) f =
    ap₂ (λ (x : ℕ) (l : List ℕ). x ∷ l) (xor-twice a (f 0)) (masked-twice p (λ i. f (suc i)))

-- one byte changed under the mask
pub masked-set : (p : List ℕ) (f : ℕ → ℕ) (i v : ℕ) → i < length p → masked (set p i v) f ≡ set (masked p f) i (v ⊕ f i)
unfolding masked
masked-set [] f i v h = refl
masked-set (a ∷ p) f zero v h = refl
masked-set (a ∷ p) f (suc i) v h =
    ap (λ (l : List ℕ). (a ⊕ f 0) ∷ l) (masked-set p (λ k. f (suc k)) i v (le_of_suc-le-suc h))

pub masked-append : (p q : List ℕ) (f : ℕ → ℕ) → masked (p ++ q) f ≡ masked p f ++ masked q (λ k. f (length p + k))
unfolding masked
masked-append [] q f = masked_same q f (λ k. f (0 + k)) (λ i l. ap f (sym (zero-add i)))
masked-append (a ∷ p) q f =
    ap (λ (l : List ℕ). (a ⊕ f 0) ∷ l)
    (masked-append p q (λ k. f (suc k))
    ∙ ap (λ (l : List ℕ). masked p (λ k. f (suc k)) ++ l)
    (masked_same q (λ k. f (suc (length p + k))) (λ k. f (suc (length p) + k)) (λ i l. ap f (sym (suc-add (length p) i)))))

-- r is p with the mask laid on its first i bytes
pub record Masking (p : List ℕ) (f : ℕ → ℕ) (r : List ℕ) (i : ℕ) : Type 0 where
  pub upto : i ≤ length p
  pub long : length r ≡ length p
  pub so_far : r ≡ masked (take i p) f ++ drop i p

pub start : (p : List ℕ) (f : ℕ → ℕ) → Masking p f p 0
unfolding masked
start p f = record { upto = omega arith; long = refl; so_far = refl }

pub done : {p : List ℕ} {f : ℕ → ℕ} {r : List ℕ} {i : ℕ} → Masking p f r i → length p ≤ i → r ≡ masked p f
done {p} {f} {r} {i} m h =
    m.so_far
    ∙ ap₂ (λ (s t : List ℕ). masked s f ++ t) (take_all i p h) (drop_of_length-le p h)
    ∙ append-nil (masked p f)

-- the mask over the n bytes after the first i
over-next : (p : List ℕ) (f : ℕ → ℕ) (i n : ℕ) → i ≤ length p
    → masked (take (i + n) p) f ≡ masked (take i p) f ++ masked (part i n p) (λ k. f (i + k))
over-next p f i n h =
    ap (λ (l : List ℕ). masked l f) (take-add i n p)
    ∙ masked-append (take i p) (part i n p) f
    ∙ ap (λ (m : ℕ). masked (take i p) f ++ masked (part i n p) (λ k. f (m + k))) (length-take-le i p h)

-- a part of n bytes from i on is masked where it lies
pub step : {p : List ℕ} {f : ℕ → ℕ} {r : List ℕ} {i : ℕ} (n : ℕ) → Masking p f r i → i + n ≤ length p
    → Masking p f (take i r ++ masked (part i n r) (λ k. f (i + k)) ++ drop (i + n) r) (i + n)
step {p} {f} {r} {i} n m h =
    let front : length (masked (take i p) f) ≡ i = masked-long (take i p) f ∙ length-take-le i p m.upto in
    let before : take i r ≡ masked (take i p) f =
    ap (take i) m.so_far ∙ take_at (masked (take i p) f) (drop i p) i front in
    let after : drop i r ≡ drop i p =
    ap (drop i) m.so_far ∙ drop_at (masked (take i p) f) (drop i p) i front in
    let rest : drop (i + n) r ≡ drop (i + n) p =
    sym (drop-drop n i r) ∙ ap (drop n) after ∙ drop-drop n i p in
    let now-so : take i r ++ masked (part i n r) (λ k. f (i + k)) ++ drop (i + n) r
    ≡ masked (take (i + n) p) f ++ drop (i + n) p =
    ap (λ (l : List ℕ). l ++ masked (part i n r) (λ k. f (i + k)) ++ drop (i + n) r) before
    ∙ ap₂ (λ (s t : List ℕ). masked (take i p) f ++ masked (take n s) (λ k. f (i + k)) ++ t) after rest
    ∙ ap (λ (l : List ℕ). l ++ drop (i + n) p) (sym (over-next p f i n m.upto)) in
    record {
      upto = h;
      long = ap length now-so ∙ simp (length-append, masked-long, length-take, length-drop) (omega arith);
      so_far = now-so;
    }

-- the bytes i..e were lent, exclusive-or'd with a block that holds the mask there, and put back
pub step_part : {p : List ℕ} {f : ℕ → ℕ} {r t : List ℕ} {i : ℕ} (e : ℕ) (s : List ℕ) → Masking p f r i → i ≤ e → e ≤ length p
    → ((k : ℕ) → k < e - i → f (i + k) ≡ at s k) → t ≡ masked (part i (e - i) r) (at s)
    → Masking p f (take i r ++ (t ++ drop (e - i) (drop i r))) e
step_part {p} {f} {r} {t} {i} e s m h inside same he =
    let whole : i + (e - i) ≡ e = omega arith in
    let long : length (part i (e - i) r) ≡ e - i = part-long i (e - i) r (omega (arith, m.long)) in
    let under : masked (part i (e - i) r) (λ k. f (i + k)) ≡ t =
    masked_same (part i (e - i) r) (λ k. f (i + k)) (at s) (λ k l. same k (omega arith)) ∙ sym he in
    let turned : Masking p f (take i r ++ t ++ drop e r) e =
    subst (λ (k : ℕ). Masking p f (take i r ++ t ++ drop k r) k) whole
    (subst (λ (l : List ℕ). Masking p f (take i r ++ l ++ drop (i + (e - i)) r) (i + (e - i))) under
    (step (e - i) m (omega arith))) in
    subst (λ (l : List ℕ). Masking p f l e) (sym (put_back i e r t h)) turned

masked-one : (a : ℕ) (f : ℕ → ℕ) → masked (a ∷ []) f ≡ (a ⊕ f 0) ∷ []
unfolding masked
masked-one a f = refl

-- one byte is masked where it lies
pub step-one : {p : List ℕ} {f : ℕ → ℕ} {r : List ℕ} {i : ℕ} → Masking p f r i → i < length p
    → Masking p f (set r i (at r i ⊕ f i)) (i + 1)
step-one {p} {f} {r} {i} m h =
    let inside : i < length r = omega (arith, m.long) in
    let one : part i 1 r ≡ at r i ∷ [] = ap (take 1) (drop-cons r i 0 inside) in
    let same : take i r ++ masked (part i 1 r) (λ k. f (i + k)) ++ drop (i + 1) r ≡ set r i (at r i ⊕ f i) =
    ap₂ (λ (l : List ℕ) (n : ℕ). take i r ++ l ++ drop n r)
    (ap (λ (l : List ℕ). masked l (λ k. f (i + k))) one
    ∙ masked-one (at r i) (λ k. f (i + k))
    ∙ ap (λ (n : ℕ). (at r i ⊕ f n) ∷ []) (add-zero i))
    (add-one i)
    ∙ append_snoc (take i r) (at r i ⊕ f i) (drop (suc i) r)
    ∙ sym (set_split r i (at r i ⊕ f i) inside) in
    subst (λ (l : List ℕ). Masking p f l (i + 1)) same (step 1 m (omega arith))
