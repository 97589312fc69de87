use Prim.Native.Nat.{◌-◌}
use mathlib.Core.Path.{◌≡◌}
use lib.ListN.{length}
use Rattle.amend.specs.Amending.{chained}
use Rattle.amend.proofs.amending.carry_on.Given as goal

abbrev pub invariant-loop-i : goal.invariant-loop-i
invariant-loop-i l = (length l.chains ≡ length l.initial.chains)
    × (chained l.schedule l.frame (l.to - l.i) l.i l.chains ≡ chained l.schedule l.frame (l.to - l.from) l.from l.initial.chains)
