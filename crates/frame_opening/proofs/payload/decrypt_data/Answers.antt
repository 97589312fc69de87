-- `decrypt_data` decrypts a data frame under the selected key, and hands on the refusal of any other.
-- Assumes nothing.
use Rattle.std.proofs.Common.{ap, ◌∙◌}
use Rattle.std.proofs.lemmas.Result.{err_from_is_err_and}
use Rattle.frame.specs.Refusals.{by_result}
use Rattle.frame.proofs.Others.{data_there}
use Rattle.frame.proofs.ReadingLaws.{data_read, data_fields}
use Rattle.frame_security.specs.Security.{frame_key}
use Rattle.frame_opening.specs.FrameOpening.{unopened, opened_under, data_opened}
use Rattle.frame_opening.proofs.payload.decrypt_data.Goals as goal

pub returns-in_err-fields : goal.returns-in_err-fields
unfolding data_opened
returns-in_err-fields c =
    let a = c.args in
    let f = a.frame.now in
    let p = err_from_is_err_and c.from_residual.result c.from_residual.ensures.1 in
    rw (p.1, p.2) (ap (by_result (λ d. opened_under (frame_key f a.nwk_skey a.app_skey) a.counter f) (unopened f)) c.in_err-fields.ensures)

-- what the reading says of the frame
pub key_of-key-requires : goal.key_of-key-requires
key_of-key-requires c =
    let f = c.args.frame.now in
    let q = data_there _ c.in_ok-fields.ensures in
    (data_read f q, data_fields f q)

pub decrypt_under-requires : goal.decrypt_under-requires
decrypt_under-requires c =
    let f = c.args.frame.now in
    let q = data_there _ c.in_ok-fields.ensures in
    (data_read f q, data_fields f q)

pub returns : goal.returns
unfolding data_opened
returns c =
    let a = c.args in
    let f = a.frame.now in
    c.decrypt_under.ensures
    ∙ ap (λ m. opened_under m a.counter f) c.key_of-key.ensures
    ∙ ap (by_result (λ d. opened_under (frame_key f a.nwk_skey a.app_skey) a.counter f) (unopened f)) c.in_ok-fields.ensures
