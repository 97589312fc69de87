-- `add_join_accept` adds its two lines, one after the other. Assumes nothing.
use Rattle.show_text.specs.Text.{join_accept_text}
use Rattle.show_text.proofs.Writing.{then}
use Rattle.show_text.proofs.add_join_accept.Goals as goal

pub returns : goal.returns
unfolding join_accept_text
returns c = then c.add_number_line.ensures c.add_number_line-2.ensures
