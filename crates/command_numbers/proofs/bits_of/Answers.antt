-- `bits_of` meets its contract: up, the second value of identifier 06 is a margin.
-- Assumes nothing.
use mathlib.Core.Path.{ap, ◌∙◌}
use mir.Facts.{to_z-of_z}
use Rattle.mac_commands.specs.Commands.{raw_of}
use Rattle.command_numbers.specs.Numbers.{unsigned_of}
use Rattle.command_numbers.proofs.NumberLaws.{status_bits, other_bits, down_bits}
use Rattle.command_numbers.proofs.bits_of.Goals as goal

pub returns-then-id-eq-STATUS_ID : goal.returns-then-id-eq-STATUS_ID
returns-then-id-eq-STATUS_ID c =
    c.raw_of.ensures
    ∙ ap raw_of (to_z-of_z c.ranges.z)
    ∙ status_bits c.args.uplink c.args.id c.args.z c.if-uplink.true c.if-id-eq-STATUS_ID.true

pub returns-then-uplink : goal.returns-then-uplink
returns-then-uplink c =
    c.unsigned_of.ensures
    ∙ ap unsigned_of (to_z-of_z c.ranges.z)
    ∙ other_bits c.args.uplink c.args.id c.args.z c.if-id-eq-STATUS_ID.false

pub returns : goal.returns
returns c =
    c.unsigned_of-2.ensures
    ∙ ap unsigned_of (to_z-of_z c.ranges.z)
    ∙ down_bits c.args.uplink c.args.id c.args.z c.if-uplink.false
