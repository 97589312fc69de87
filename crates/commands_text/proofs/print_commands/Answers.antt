-- The lists that are printed lie within the frame.
-- Assumes nothing.
use Rattle.std.proofs.Common.{sym}
use Rattle.commands_text.proofs.Lists.{within}
use Rattle.commands_text.proofs.print_commands.Goals as goal

pub print_data-requires : goal.print_data-requires
print_data-requires g c = within _ _ (sym c.in-Ok.ensures)
