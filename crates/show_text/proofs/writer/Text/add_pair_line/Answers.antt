-- `add_pair_line` adds the first word and number, then the others as a line. Assumes nothing.
use Rattle.show_text.specs.Text.{pair_line}
use Rattle.show_text.proofs.Writing.{then}
use Rattle.show_text.proofs.writer.Text.add_pair_line.Goals as goal

pub returns : goal.returns
unfolding pair_line
returns c = then (then c.add.ensures c.add_decimal.ensures) c.add_number_line.ensures
