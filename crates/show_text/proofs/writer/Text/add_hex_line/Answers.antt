-- `add_hex_line` adds its three pieces. Assumes nothing.
use Rattle.show_text.specs.Text.{hex_line_of}
use Rattle.show_text.proofs.Writing.{then}
use Rattle.show_text.proofs.writer.Text.add_hex_line.Goals as goal

pub returns : goal.returns
unfolding hex_line_of
returns c = then (then c.add.ensures c.add_hex.ensures) c.push.ensures
