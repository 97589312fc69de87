-- `add_payload_line` adds the line of the payload, by its case. Assumes nothing.
use mathlib.Core.Path.{sym, ap}
use Rattle.show_text.specs.Text.{payload_line}
use Rattle.show_text.proofs.Writing.{same}
use Rattle.show_text.proofs.add_payload_line.Goals as goal

pub returns-in-Nothing : goal.returns-in-Nothing
unfolding payload_line
returns-in-Nothing c = same (ap payload_line (sym c.in-Nothing.is)) c.add.ensures

pub returns-in-Data : goal.returns-in-Data
unfolding payload_line
returns-in-Data c = same (ap payload_line (sym c.in-Data.is)) c.add_place_line.ensures

pub returns-in-MacCommands : goal.returns-in-MacCommands
unfolding payload_line
returns-in-MacCommands c = same (ap payload_line (sym c.in-MacCommands.is)) c.add_place_line-in-MacCommands.ensures
