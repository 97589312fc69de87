-- That a promise fixes the outcome of its call: two outcomes that satisfy it at the same arguments are equal. Said once,
-- of a contract as it is generated; the crate `theorems` has an instance for each public call.
-- Assumes nothing.
use mathlib.Core.Path.{◌≡◌}
use mathlib.Core.List.{List}
use Prim.Native.Nat.{ℕ}

-- post is what a call ensures, of its arguments, its answer and what it was lent as it returns
abbrev pub Determined : {K : Type 0} {D R S : K → Type 0} → ((κs : K) → D κs → R κs → S κs → Type 0) → Type 0
Determined {K} {D} {R} {S} post =
    (κs : K) (a : D κs) (x y : R κs) (s t : S κs) → post κs a x s → post κs a y t → x ≡ y

-- the same, and of the bytes that `lent` takes out of what was lent
abbrev pub DeterminedLent : {K : Type 0} {D R S : K → Type 0} → ((κs : K) → S κs → List ℕ)
    → ((κs : K) → D κs → R κs → S κs → Type 0)
    → Type 0
DeterminedLent {K} {D} {R} {S} lent post =
    (κs : K) (a : D κs) (x y : R κs) (s t : S κs) → post κs a x s → post κs a y t → (x ≡ y) × (lent κs s ≡ lent κs t)
