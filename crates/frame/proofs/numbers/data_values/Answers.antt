-- `frame::numbers::data_values` meets its contract. Each field is one of the data or what its own function ensures.
-- Assumes nothing.
use Rattle.frame.specs.ReadingNumbers.{data_values_of}
use Rattle.frame.proofs.numbers.data_values.Goals as goal

pub returns : goal.returns
unfolding data_values_of
returns c =
    rw (
      c.is_some.ensures,
      c.unwrap_or.ensures,
      c.payload_kind.ensures,
      c.payload_from.ensures,
      c.payload_to.ensures,
    )
