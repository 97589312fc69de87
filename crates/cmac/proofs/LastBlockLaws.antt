-- The two ways in which the last block ends.
-- Assumes nothing.
use mathlib.Core.Path.{◌≡◌}
use mathlib.Core.List.{List}
use Prim.Native.Nat.{ℕ, ◌≤◌, ◌<◌}
use borrow.Author.Tests.{lt-ltb, le-ltb}
use Rattle.base.specs.Bytes.{xor_lists}
use Rattle.cmac.specs.Doubling.{doubled}
use Rattle.cmac.specs.LastBlock.{mixed, ended}

pub ended_open : (l x : List ℕ) (n : ℕ) → n < 16 → xor_lists (mixed x n 0x80) (doubled (doubled l)) ≡ ended l x n
ended_open l x n h = simp (lt-ltb n 16 h)

pub ended_full : (l x : List ℕ) (n : ℕ) → 16 ≤ n → xor_lists x (doubled l) ≡ ended l x n
ended_full l x n h = simp (le-ltb n 16 h)
