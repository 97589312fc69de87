-- A list of tests, each with its number, gives 0 only where none of them holds. No number may be 0, which is computed for a
-- list that is written out.
-- Assumes nothing.
use mathlib.Core.Path.{◌≡◌, refl, ap}
use mathlib.Core.Bool.{Bool, true, false, not}
use mathlib.Core.List.{List, [], ◌∷◌}
use Prim.Native.Nat.{ℕ}
use native.Mathlib.Omega.{arith}
use lib.Dec.{T, eqb}
use borrow.Author.Tests.{eq-eqb}
use Rattle.base.proofs.Tested.{both, both_left, both_right}
use Rattle.frame_build.specs.DataBuilding.{first_of}

-- none of the tests holds
abbrev pub AllFail : List (Bool × ℕ) → Type 0
AllFail [] = Unit
AllFail (t ∷ ts) = (t.0 ≡ false) × AllFail ts

-- no number is 0
abbrev pub without-0 : List (Bool × ℕ) → Bool
without-0 [] = true
without-0 (t ∷ ts) = both (not (eqb t.1 0)) (without-0 ts)

refuted : (b : Bool) → b ≡ false → T b → ⊥
refuted true e t = let z : ◌≡◌ {A = ℕ} 0 1 = cc in omega arith
refuted false e t = t

not-0 : (n : ℕ) → T (not (eqb n 0)) → n ≡ 0 → ⊥
not-0 n t e = refuted (not (eqb n 0)) (ap not (eq-eqb n 0 e)) t

pub none-fails : (ts : List (Bool × ℕ)) → T (without-0 ts) → first_of ts ≡ 0 → AllFail ts
none-fails [] d e = tt
none-fails ((true, n) ∷ ts) d e = absurd (not-0 n (both_left (not (eqb n 0)) (without-0 ts) d) e)
none-fails ((false, n) ∷ ts) d e = (refl, none-fails ts (both_right (not (eqb n 0)) (without-0 ts) d) e)
