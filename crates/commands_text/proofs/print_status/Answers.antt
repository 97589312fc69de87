-- The margin is formatted as the number that its byte stands for, which is the margin.
-- Assumes nothing.
use Rattle.std.proofs.Common.{w8}
use Rattle.std.proofs.lemmas.Int.{to_z-of_z}
use Rattle.commands_text.proofs.print_status.Goals as goal

pub returns : goal.returns
returns g c = rw (← to_z-of_z w8 c.args.margin c.ranges.margin) c.writeln.ensures.bytes
