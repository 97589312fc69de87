-- `add_place_line` adds the line of the place and the length. Assumes nothing.
use Rattle.show_text.specs.Text.{place_line}
use Rattle.show_text.proofs.add_place_line.Goals as goal

pub returns : goal.returns
unfolding place_line
returns c = c.add_pair_line.ensures
