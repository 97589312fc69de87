-- `add_port_line` adds the line of the port, by its case. Assumes nothing.
use mathlib.Core.Path.{sym, ap, ◌∙◌}
use Rattle.show_text.specs.Text.{port_word, number_line, port_line}
use Rattle.show_text.proofs.Writing.{same}
use Rattle.show_text.proofs.add_port_line.Goals as goal

pub returns-in-None : goal.returns-in-None
unfolding port_line
returns-in-None c = same (ap port_line (sym c.in-None.is)) c.add.ensures

pub returns-in-Some : goal.returns-in-Some
unfolding port_line
returns-in-Some c =
    same (ap (number_line port_word) c.from.ensures ∙ ap port_line (sym c.in-Some.is)) c.add_number_line.ensures
