-- Strings of bytes that a test chooses, or that a table gives.
-- Assumes nothing.
use mathlib.Core.Bool.{Bool, true, false}
use mathlib.Core.List.{List}
use Prim.Native.Nat.{ℕ, ◌<◌}
use native.Mathlib.Omega.{arith}
use Rattle.base.specs.Bytes.{pick, tab, AreBytes}
use Rattle.base.proofs.Tab.{tab-all}

pub pick-bytes : (b : Bool) (s t : List ℕ) → AreBytes s → AreBytes t → AreBytes (pick b s t)
pick-bytes true s t hs ht = hs
pick-bytes false s t hs ht = ht

pub tab-bytes : (n : ℕ) (f : ℕ → ℕ) → ((i : ℕ) → i < n → f i < 256) → AreBytes (tab n f)
tab-bytes n f h = tab-all (λ (k : ℕ). k < 256) n f (omega arith) h
