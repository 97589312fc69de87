use Rattle.mac_commands.proofs.Packing.{Packing}
use Rattle.mac_commands.proofs.maccommandcreator.pack.Given as goal

abbrev pub invariant-loop-k : goal.invariant-loop-k
invariant-loop-k l = Packing l.r l.x l.v l.k
