-- `write_command` meets its contract: a command is written as its row and values.
-- Assumes nothing.
use Rattle.mac_commands.proofs.CommandLaws.{shaped}
use Rattle.mac_commands.proofs.maccommandcreator.write_command.Goals as goal

pub write_row-requires : goal.write_row-requires
write_row-requires c =
    rw c.fields_of-fields.ensures (shaped c.args.command).known
