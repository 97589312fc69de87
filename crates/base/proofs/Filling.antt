-- A loop that fills an array from the front: after i turns the first i bytes are those of the table.
-- Assumes nothing.
use mathlib.Core.Path.{◌≡◌, refl, sym, ap, ap₂, ◌∙◌}
use mathlib.Core.List.{List, [], ◌∷◌, ◌++◌}
use Prim.Native.Nat.{ℕ, ◌+◌, ◌≤◌, ◌<◌}
use native.Mathlib.Numerals.{add-one}
use native.Mathlib.Omega.{arith}
use lib.ListN.{length, take, set, length-set}
use lib.Seq.{take-suc-set, take_all}
use Rattle.base.specs.Bytes.{tab}
use Rattle.base.proofs.Tab.{tab-snoc}

-- r has n bytes, of which the first i are f 0, .., f (i - 1)
pub record Filling (n : ℕ) (f : ℕ → ℕ) (r : List ℕ) (i : ℕ) : Type 0 where
  pub upto : i ≤ n
  pub long : length r ≡ n
  pub so_far : take i r ≡ tab i f

pub start : (n : ℕ) (f : ℕ → ℕ) (r : List ℕ) → length r ≡ n → Filling n f r 0
start n f r e = record { upto = omega arith; long = e; so_far = refl }

pub step : {n : ℕ} {f : ℕ → ℕ} {r : List ℕ} {i v : ℕ} → Filling n f r i → i < n → v ≡ f i → Filling n f (set r i v) (i + 1)
step {n} {f} {r} {i} {v} h k e =
    let inside : i < length r = omega (arith, h.long) in
    record {
      upto = omega arith;
      long = length-set r i v ∙ h.long;
      so_far =
          ap (λ (m : ℕ). take m (set r i v)) (add-one i)
          ∙ take-suc-set r i v inside
          ∙ ap₂ (λ (l : List ℕ) (x : ℕ). l ++ x ∷ []) h.so_far e
          ∙ sym (tab-snoc i f)
          ∙ ap (λ (m : ℕ). tab m f) (sym (add-one i));
    }

pub done : {n : ℕ} {f : ℕ → ℕ} {r : List ℕ} {i : ℕ} → Filling n f r i → n ≤ i → r ≡ tab n f
done {n} {f} {r} {i} h k =
    let whole : i ≡ n = omega (arith, h.upto) in
    sym (take_all i r (omega (arith, h.long))) ∙ h.so_far ∙ ap (λ (m : ℕ). tab m f) whole
