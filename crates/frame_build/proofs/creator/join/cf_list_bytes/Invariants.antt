use mathlib.Core.Path.{◌≡◌}
use Rattle.frame_build.proofs.JoinBodies.{listed_to}
use Rattle.frame_build.proofs.creator.join.cf_list_bytes.Given as goal

abbrev pub invariant-loop-i : goal.invariant-loop-i
invariant-loop-i l = l.list ≡ listed_to l.channels l.i
