use Rattle.aes.proofs.ScheduleGrowing.{Growing}
use Rattle.aes.proofs.key_expansion.expand.Given as goal

abbrev pub invariant-loop-n : goal.invariant-loop-n
invariant-loop-n l = Growing l.fn.key l.w l.n
