-- `add_text` goes by the case of the reading. What each text asks of the frame is what the reading says of it. Assumes nothing.
use Rattle.std.specs.Prelude.{Ok}
use mathlib.Core.Path.{sym, ap, ◌∙◌}
use Rattle.frame.proofs.ReadingLaws.{request_read, data_read, data_fields}
use Rattle.show_text.proofs.add_text.Goals as goal

pub add_join_request-requires : goal.add_join_request-requires
add_join_request-requires c =
    (request_read _ (sym c.read.ensures ∙ c.in-Ok-JoinRequest.is ∙ ap Ok c.in-Ok-JoinRequest.field-0-is)).long

pub add_data-requires : goal.add_data-requires
add_data-requires c =
    let read = sym c.read.ensures ∙ c.in-Ok-Data.is ∙ ap Ok c.in-Ok-Data.field-0-is in
    record { fact = data_read _ read; d_value = data_fields _ read }
