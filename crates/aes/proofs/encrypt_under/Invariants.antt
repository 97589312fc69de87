use mathlib.Core.Path.{◌≡◌}
use Prim.Native.Nat.{◌-◌}
use Rattle.aes.specs.Fips197.{rounds}
use Rattle.aes.proofs.encrypt_under.Given as goal

abbrev pub invariant-loop-r : goal.invariant-loop-r
invariant-loop-r l = l.s ≡ rounds l.schedule (l.r - 1) l.initial.s
