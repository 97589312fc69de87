-- Each command that was found ends behind the place where it was sought.
-- Assumes nothing.
use Rattle.std.proofs.Common.{◌-◌, length}
use Rattle.commands_text.proofs.print_list.Given as goal

abbrev pub decreases-loop-command : goal.decreases-loop-command
decreases-loop-command g l = length l.list - l.at
