-- `join_accept_mic` tests the MIC of a frame of the type that it needs, and hands on the refusal of any other.
-- Assumes nothing.
use Rattle.std.proofs.Common.{Ok, Err, ap, ◌∙◌, arith}
use Rattle.std.proofs.lemmas.Result.{err_from_is_err_and}
use Rattle.frame.specs.Refusals.{by_result}
use Rattle.frame.proofs.Others.{accept_there}
use Rattle.frame_opening.specs.FrameOpening.{join_passes, join_accept_test}
use Rattle.frame_opening.proofs.OpeningLaws.{accept_length}
use Rattle.frame_opening.proofs.mic_tests.join_accept_mic.Goals as goal

pub returns-in_err-read_as_join_accept : goal.returns-in_err-read_as_join_accept
unfolding join_accept_test
returns-in_err-read_as_join_accept c =
    let a = c.args in
    let p = err_from_is_err_and c.from_residual.result c.from_residual.ensures.1 in
    rw (p.1, p.2) (ap (by_result (λ n. Ok (join_passes a.app_key a.frame.now)) Err) c.in_err-read_as_join_accept.ensures)

pub join_test-requires : goal.join_test-requires
join_test-requires c = omega (arith, accept_length c.args.frame.now (accept_there _ c.in_ok-read_as_join_accept.ensures))

pub returns : goal.returns
unfolding join_accept_test
returns c =
    let a = c.args in
    ap Ok c.join_test.ensures ∙ ap (by_result (λ n. Ok (join_passes a.app_key a.frame.now)) Err) c.in_ok-read_as_join_accept.ensures
