-- A run of bytes stored into a lent list: one run after another is one longer run, and the bytes outside it stay.
-- Assumes nothing.
use mathlib.Core.Path.{◌≡◌, refl, sym, ap, ap₂, ◌∙◌}
use mathlib.Core.List.{List, [], ◌∷◌, ◌++◌}
use Prim.Native.Nat.{ℕ, suc, ◌+◌, ◌≤◌, ◌<◌}
use native.Mathlib.Nat.{add-zero}
use native.Mathlib.Numerals.{add-one}
use native.Mathlib.Omega.{arith}
use lib.ListN.{length, take, drop, set, length-append, length-set}
use lib.Seq.{sets, sets-eq, length-sets, take-suc, length-take-le, take_all}
use Rattle.base.specs.Bytes.{at}
use Rattle.base.specs.Storing.{Put}

-- one run after another
pub sets-append : (l : List ℕ) (i : ℕ) (s t : List ℕ) → sets l i (s ++ t) ≡ sets (sets l i s) (i + length s) t
sets-append l i [] t = ap (λ (n : ℕ). sets l n t) (omega arith)
sets-append l i (a ∷ s) t =
    sets-append (set l i a) (suc i) s t
    ∙ ap (λ (n : ℕ). sets (sets (set l i a) (suc i) s) n t) (omega arith)

pub then : {l d e : List ℕ} {i j r : ℕ} {s t : List ℕ} → Put l i s j d → Put d j t r e → Put l i (s ++ t) r e
then {l} {d} {e} {i} {j} {r} {s} {t} p q =
    record {
      next = omega (arith, p.next, q.next, length-append s t);
      list =
          q.list
          ∙ ap₂ (λ (m : List ℕ) (n : ℕ). sets m n t) p.list p.next
          ∙ sym (sets-append l i s t);
    }

-- the same run, said otherwise
pub renamed : {l e : List ℕ} {i r : ℕ} {s t : List ℕ} → Put l i s r e → s ≡ t → Put l i t r e
renamed {l} {e} {i} {r} {s} {t} p q =
    record { next = p.next ∙ ap (λ (m : List ℕ). i + length m) q; list = p.list ∙ ap (λ (m : List ℕ). sets l i m) q }

-- one byte more of a string
pub sets_more : (l : List ℕ) (i : ℕ) (s : List ℕ) (n : ℕ) → n < length s
    → set (sets l i (take n s)) (i + n) (at s n) ≡ sets l i (take (n + 1) s)
sets_more l i s n h =
    let e : take (n + 1) s ≡ take n s ++ at s n ∷ [] = ap (λ (m : ℕ). take m s) (add-one n) ∙ take-suc s n 0 h in
    let k : length (take n s) ≡ n = length-take-le n s (omega arith) in
    sym
    (ap (λ (t : List ℕ). sets l i t) e
    ∙ sets-append l i (take n s) (at s n ∷ [])
    ∙ ap (λ (m : ℕ). set (sets l i (take n s)) (i + m) (at s n)) k)

-- a list keeps its length
pub put_length : {l e : List ℕ} {i r : ℕ} {t : List ℕ} → Put l i t r e → length e ≡ length l
put_length {l} {e} {i} {r} {t} p = ap length p.list ∙ length-sets l i t

-- from the start of a list: the string, then the rest as it was
pub put_front : {l e : List ℕ} {r : ℕ} {t : List ℕ} → Put l 0 t r e → length t ≤ length l → e ≡ t ++ drop (length t) l
put_front {l} {e} {r} {t} p h =
    let e : 0 + length t ≡ length t = omega arith in
    p.list ∙ sets-eq t l 0 (omega arith) ∙ ap (λ (n : ℕ). t ++ drop n l) e

-- ---- a loop that stores byte by byte: after n turns the first n bytes of s stand in e

pub record Putting (l : List ℕ) (i : ℕ) (s e : List ℕ) (n : ℕ) : Type 0 where
  pub upto : n ≤ length s
  pub long : length e ≡ length l
  pub so_far : e ≡ sets l i (take n s)

pub start : (l : List ℕ) (i : ℕ) (s : List ℕ) → Putting l i s l 0
start l i s = record { upto = omega arith; long = refl; so_far = refl }

pub step : {l s e : List ℕ} {i n : ℕ} → Putting l i s e n → n < length s → Putting l i s (set e (i + n) (at s n)) (n + 1)
step {l} {s} {e} {i} {n} h k =
    record {
      upto = omega arith;
      long = length-set e (i + n) (at s n) ∙ h.long;
      so_far = ap (λ (m : List ℕ). set m (i + n) (at s n)) h.so_far ∙ sets_more l i s n k;
    }

pub done : {l s e : List ℕ} {i n : ℕ} → Putting l i s e n → length s ≤ n → Put l i s (i + n) e
done {l} {s} {e} {i} {n} h k =
    record { next = omega (arith, h.upto); list = h.so_far ∙ ap (λ (m : List ℕ). sets l i m) (take_all n s k) }

-- ---- what a writer of short pieces wants: nothing yet, two bytes, a run said otherwise

-- nothing is written
pub none : (l : List ℕ) (at : ℕ) → Put l at [] at l
none l at = record { next = sym (add-zero at); list = refl }

-- two bytes
pub two : (l : List ℕ) (at v w : ℕ) → Put l at (v ∷ w ∷ []) (at + 2) (set (set l at v) (at + 1) w)
two l at v w = record { next = refl; list = ap (λ (i : ℕ). set (set l at v) i w) (add-one at) }

-- the same run, with the reason first
pub same : {l : List ℕ} {at : ℕ} {s t : List ℕ} {r : ℕ} {e : List ℕ} → s ≡ t → Put l at s r e → Put l at t r e
same h p = renamed p h
