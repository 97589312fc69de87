-- `decrypt_join_accept` decrypts a join-accept, and hands on the refusal of any other frame.
-- Assumes nothing.
use Rattle.std.proofs.Common.{Ok, ap, ◌∙◌, arith}
use Rattle.std.proofs.lemmas.Result.{err_from_is_err_and}
use Rattle.frame.specs.Refusals.{by_result}
use Rattle.frame.proofs.Others.{accept_there}
use Rattle.frame_security.specs.JoinAcceptCipher.{accept_decrypted}
use Rattle.frame_opening.specs.FrameOpening.{outcome, unopened}
use Rattle.frame_opening.specs.JoinAcceptOpening.{accept_opened}
use Rattle.frame_opening.proofs.OpeningLaws.{accept_length}
use Rattle.frame_opening.proofs.join_accept.decrypt_join_accept.Goals as goal

pub returns-in_err-read_as_join_accept : goal.returns-in_err-read_as_join_accept
unfolding accept_opened
returns-in_err-read_as_join_accept c =
    let f = c.args.frame.now in
    let p = err_from_is_err_and c.from_residual.result c.from_residual.ensures.1 in
    rw (p.1, p.2) (ap (by_result (λ n. outcome (Ok tt) (accept_decrypted c.args.app_key f)) (unopened f)) c.in_err-read_as_join_accept.ensures)

pub decrypt_accept-requires : goal.decrypt_accept-requires
decrypt_accept-requires c =
    omega (arith, accept_length c.args.frame.now (accept_there _ c.in_ok-read_as_join_accept.ensures))

pub returns : goal.returns
unfolding accept_opened
returns c =
    let f = c.args.frame.now in
    ap (outcome (Ok tt)) c.decrypt_accept.ensures
    ∙ ap (by_result (λ n. outcome (Ok tt) (accept_decrypted c.args.app_key f)) (unopened f)) c.in_ok-read_as_join_accept.ensures
