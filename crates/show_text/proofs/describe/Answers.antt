-- `show_text::describe` meets its contract: the whole frame is the start of itself.
-- Assumes nothing.
use Rattle.show_text.proofs.Described.{whole_text}
use Rattle.show_text.proofs.describe.Goals as goal

pub returns : goal.returns
returns c = rw (← whole_text) c.describe_input.ensures
