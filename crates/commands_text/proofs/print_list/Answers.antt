-- What a found command read as says that it ends behind its place, within the list.
-- Assumes nothing.
use Rattle.std.proofs.Common.{Ok, arith, sym, ap, ◌∙◌}
use Rattle.mac_commands.proofs.ReadBack.{read_as}
use Rattle.commands_text.proofs.print_list.Goals as goal

pub loop-command-smaller : goal.loop-command-smaller
loop-command-smaller g c =
    let found = read_as _ _ _ _ _ (sym c.read_step.ensures ∙ c.in-Ok-Some.is ∙ ap Ok c.in-Ok-Some.field-0-is) in
    omega (arith, found.next, found.room, c.in-Ok-Some.next-is)
