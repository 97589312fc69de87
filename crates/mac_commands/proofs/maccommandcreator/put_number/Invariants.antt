use Rattle.mac_commands.proofs.WriteLaws.{Storing}
use Rattle.mac_commands.proofs.maccommandcreator.put_number.Given as goal

abbrev pub invariant-loop-place : goal.invariant-loop-place
invariant-loop-place l = Storing l.initial.out l.from l.n l.v l.out l.rest l.place
