use Rattle.base.proofs.Put.{Putting}
use Rattle.base.proofs.storing.put.Given as goal

abbrev pub invariant-loop-i : goal.invariant-loop-i
invariant-loop-i l = Putting l.initial.out l.at l.src l.out l.i
