-- `frame::packed::numbered_bits` meets its contract; nothing overflows, since the value counts below 2 ^ 56.
-- Assumes nothing.
use borrow.Author.Rules.{rules}
use Rattle.frame.specs.PackedReading.{numbered}
use Rattle.frame.proofs.packed.numbered_bits.Goals as goal

pub returns : goal.returns
unfolding numbered
returns c = search rules
