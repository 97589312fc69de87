-- A list that is written out is one of bytes where each of its elements is.
-- Assumes nothing.
use mathlib.Core.List.{List, [], ◌∷◌}
use Prim.Native.Nat.{ℕ, zero, suc, ◌<◌}
use native.Mathlib.Omega.{arith}
use Rattle.base.specs.Bytes.{AreBytes}

abbrev pub Each : List ℕ → Type 0
Each [] = Unit
Each (b ∷ s) = (b < 256) × Each s

pub each : (s : List ℕ) → Each s → AreBytes s
each [] h i = omega arith
each (b ∷ s) h zero = h.0
each (b ∷ s) h (suc i) = each s h.1 i
