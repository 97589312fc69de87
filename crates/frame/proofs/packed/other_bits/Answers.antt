-- `frame::packed::other_bits` meets its contract. Each arm knows the reading by its variant; it is not one of data.
-- Assumes nothing.
use Rattle.std.proofs.Common.{Ok}
use mathlib.Core.Path.{sym, ap, ◌∙◌}
use native.Mathlib.Omega.{arith}
use Rattle.frame.specs.PackedReading.{packed_of}
use Rattle.frame.proofs.ReadingLaws.{data_read}
use Rattle.frame.proofs.PackedLaws.{flat_refused, request_is, accept_is, accept_within}
use Rattle.frame.proofs.packed.other_bits.Goals as goal

pub join_bits-requires-in-Ok-JoinAccept : goal.join_bits-requires-in-Ok-JoinAccept
join_bits-requires-in-Ok-JoinAccept c =
    let within = accept_within _ (sym c.read.ensures ∙ c.in-Ok-JoinAccept.is ∙ ap Ok c.in-Ok-JoinAccept.field-0-is) in
    record { mtype_bound = omega arith; le_n = within.0; n_bound = within.1 }

pub returns-in-Ok-JoinRequest : goal.returns-in-Ok-JoinRequest
returns-in-Ok-JoinRequest c =
    let read = c.read.ensures in
    request_is (sym read ∙ c.in-Ok-JoinRequest.is ∙ ap Ok c.in-Ok-JoinRequest.field-0-is) c.join_bits.ensures

pub returns-in-Ok-JoinAccept : goal.returns-in-Ok-JoinAccept
returns-in-Ok-JoinAccept c =
    let read = c.read.ensures in
    accept_is (sym read ∙ c.in-Ok-JoinAccept.is ∙ ap Ok c.in-Ok-JoinAccept.field-0-is) c.join_bits-in-Ok-JoinAccept.ensures

pub returns-in-Ok-Data : goal.returns-in-Ok-Data
returns-in-Ok-Data c =
    let read = c.read.ensures in
    absurd (c.requires (data_read _ (sym read ∙ c.in-Ok-Data.is ∙ ap Ok c.in-Ok-Data.field-0-is)))

pub returns-in-Err : goal.returns-in-Err
returns-in-Err c =
    let read = c.read.ensures in
    c.numbered_bits.ensures ∙ flat_refused _ ∙ ap packed_of (sym c.in-Err.is ∙ read)
