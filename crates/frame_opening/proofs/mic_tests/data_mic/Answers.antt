-- `data_mic` tests the MIC of a frame of the type that it needs, and hands on the refusal of any other.
-- Assumes nothing.
use Rattle.std.proofs.Common.{Ok, Err, ap, ◌∙◌, arith}
use Rattle.std.proofs.lemmas.Result.{err_from_is_err_and}
use Rattle.frame.specs.Refusals.{by_result}
use Rattle.frame.proofs.Others.{data_there}
use Rattle.frame_opening.specs.FrameOpening.{data_passes, data_test_of}
use Rattle.frame_opening.proofs.OpeningLaws.{data_length}
use Rattle.frame_opening.proofs.mic_tests.data_mic.Goals as goal

pub returns-in_err-read_as_data : goal.returns-in_err-read_as_data
unfolding data_test_of
returns-in_err-read_as_data c =
    let a = c.args in
    let p = err_from_is_err_and c.from_residual.result c.from_residual.ensures.1 in
    rw (p.1, p.2) (ap (by_result (λ d. Ok (data_passes a.nwk_skey a.counter a.frame.now)) Err) c.in_err-read_as_data.ensures)

pub data_test-requires : goal.data_test-requires
data_test-requires c = omega (arith, data_length c.args.frame.now (data_there _ c.in_ok-read_as_data.ensures))

pub returns : goal.returns
unfolding data_test_of
returns c =
    let a = c.args in
    ap Ok c.data_test.ensures ∙ ap (by_result (λ d. Ok (data_passes a.nwk_skey a.counter a.frame.now)) Err) c.in_ok-read_as_data.ensures
