use mathlib.Core.Path.{◌≡◌}
use Prim.Native.Nat.{◌-◌}
use Rattle.aes.specs.Fips197.{inv_rounds}
use Rattle.aes.proofs.decrypt_under.Given as goal

abbrev pub invariant-loop-r : goal.invariant-loop-r
invariant-loop-r l = inv_rounds l.schedule (l.r - 1) l.s ≡ inv_rounds l.schedule 9 l.initial.s
