-- `frame::numbers::plain_values` meets its contract. Each field is a literal or an argument.
-- Assumes nothing.
use mathlib.Core.Path.{refl}
use Rattle.frame.specs.ReadingNumbers.{plain_values_of}
use Rattle.frame.proofs.numbers.plain_values.Goals as goal

pub returns : goal.returns
unfolding plain_values_of
returns c = refl
