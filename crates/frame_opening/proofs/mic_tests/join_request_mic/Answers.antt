-- `join_request_mic` tests the MIC of a frame of the type that it needs, and hands on the refusal of any other.
-- Assumes nothing.
use Rattle.std.proofs.Common.{Ok, Err, ap, ◌∙◌, arith}
use Rattle.std.proofs.lemmas.Result.{err_from_is_err_and}
use Rattle.frame.specs.Refusals.{by_result}
use Rattle.frame.proofs.Others.{request_there}
use Rattle.frame_opening.specs.FrameOpening.{join_passes, join_request_test}
use Rattle.frame_opening.proofs.OpeningLaws.{request_length}
use Rattle.frame_opening.proofs.mic_tests.join_request_mic.Goals as goal

pub returns-in_err-read_as_join_request : goal.returns-in_err-read_as_join_request
unfolding join_request_test
returns-in_err-read_as_join_request c =
    let a = c.args in
    let p = err_from_is_err_and c.from_residual.result c.from_residual.ensures.1 in
    rw (p.1, p.2) (ap (by_result (λ u. Ok (join_passes a.app_key a.frame.now)) Err) c.in_err-read_as_join_request.ensures)

pub join_test-requires : goal.join_test-requires
join_test-requires c = omega (arith, request_length c.args.frame.now (request_there _ c.in_ok-read_as_join_request.ensures))

pub returns : goal.returns
unfolding join_request_test
returns c =
    let a = c.args in
    ap Ok c.join_test.ensures ∙ ap (by_result (λ u. Ok (join_passes a.app_key a.frame.now)) Err) c.in_ok-read_as_join_request.ensures
