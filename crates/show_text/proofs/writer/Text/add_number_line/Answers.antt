-- `add_number_line` adds its three pieces. Assumes nothing.
use Rattle.show_text.specs.Text.{number_line}
use Rattle.show_text.proofs.Writing.{then}
use Rattle.show_text.proofs.writer.Text.add_number_line.Goals as goal

pub returns : goal.returns
unfolding number_line
returns c = then (then c.add.ensures c.add_decimal.ensures) c.push.ensures
