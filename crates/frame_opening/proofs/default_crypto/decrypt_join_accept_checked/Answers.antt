-- `decrypt_join_accept_checked` tests and decrypts a join-accept, and hands on the refusal of any other frame.
-- Assumes nothing.
use Rattle.std.proofs.Common.{ap, ◌∙◌}
use Rattle.std.proofs.lemmas.Result.{err_from_is_err_and}
use Rattle.frame.specs.Refusals.{by_result}
use Rattle.frame.proofs.Others.{accept_there}
use Rattle.frame_opening.specs.FrameOpening.{unopened}
use Rattle.frame_opening.specs.CheckedOpening.{accept_tested, accept_opened_checked}
use Rattle.frame_opening.proofs.CheckedLaws.{accept_read_long}
use Rattle.frame_opening.proofs.default_crypto.decrypt_join_accept_checked.Goals as goal

pub returns-in_err-read_as_join_accept : goal.returns-in_err-read_as_join_accept
unfolding accept_opened_checked
returns-in_err-read_as_join_accept c =
    let f = c.args.frame.now in
    let p = err_from_is_err_and c.from_residual.result c.from_residual.ensures.1 in
    rw (p.1, p.2) (ap (by_result (λ n. accept_tested c.args.app_key f) (unopened f)) c.in_err-read_as_join_accept.ensures)

pub open_accept_tested-requires : goal.open_accept_tested-requires
open_accept_tested-requires c = accept_read_long c.args.frame.now (accept_there _ c.in_ok-read_as_join_accept.ensures)

pub returns : goal.returns
unfolding accept_opened_checked
returns c =
    let f = c.args.frame.now in
    c.open_accept_tested.ensures
    ∙ ap (by_result (λ n. accept_tested c.args.app_key f) (unopened f)) c.in_ok-read_as_join_accept.ensures
