-- `id_of` meets its contract: what is below 256 is a byte.
-- Assumes nothing.
use mathlib.Core.Path.{ap, ◌∙◌}
use mir.Facts.{to_z-of_z}
use Rattle.command_numbers.specs.Numbers.{unsigned_of}
use Rattle.command_numbers.proofs.NumberLaws.{a_byte, no_byte}
use Rattle.command_numbers.proofs.id_of.Goals as goal

pub returns-then-x-lt256 : goal.returns-then-x-lt256
returns-then-x-lt256 c =
    a_byte c.args.z (c.unsigned_of-x.ensures ∙ ap unsigned_of (to_z-of_z c.ranges.z)) c.if-x-lt256.true

pub returns : goal.returns
returns c =
    no_byte c.args.z (c.unsigned_of-x.ensures ∙ ap unsigned_of (to_z-of_z c.ranges.z)) c.if-x-lt256.false
