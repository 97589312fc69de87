-- `accept_parts` makes the record of the definition.
-- Assumes nothing.
use mathlib.Core.Path.{refl}
use Rattle.frame_c.specs.CGiven.{accept_parts_of}
use Rattle.frame_c.proofs.conversions.building.accept_parts.Goals as goal

pub returns : goal.returns
unfolding accept_parts_of
returns c = refl
