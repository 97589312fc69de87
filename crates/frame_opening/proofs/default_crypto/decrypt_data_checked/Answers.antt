-- `decrypt_data_checked` answers by the test where it is not passed, and opens the frame where it is.
-- Assumes nothing.
use Rattle.std.proofs.Common.{Ok, sym, ap, ◌∙◌}
use Rattle.std.proofs.lemmas.Result.{err_from_is_err_and}
use Rattle.frame_opening.specs.FrameOpening.{unopened}
use Rattle.frame_opening.proofs.CheckedLaws.{checked, by_test}
use Rattle.frame_opening.proofs.default_crypto.decrypt_data_checked.Goals as goal

pub returns-in_err-passes : goal.returns-in_err-passes
returns-in_err-passes c =
    let a = c.args in
    let f = a.frame.now in
    let p = err_from_is_err_and c.from_residual.result c.from_residual.ensures.1 in
    rw (p.1, p.2)
    (ap (by_test a.nwk_skey a.app_skey a.counter f) c.in_err-passes.ensures
    ∙ checked a.nwk_skey a.app_skey a.counter f)

pub returns-then-passes : goal.returns-then-passes
returns-then-passes c =
    let a = c.args in
    let f = a.frame.now in
    c.decrypt_data.ensures
    ∙ ap (by_test a.nwk_skey a.app_skey a.counter f) (ap Ok (sym c.if-passes.true) ∙ c.in_ok-passes.ensures)
    ∙ checked a.nwk_skey a.app_skey a.counter f

pub returns : goal.returns
returns c =
    let a = c.args in
    let f = a.frame.now in
    ap (unopened f) c.of.ensures
    ∙ ap (by_test a.nwk_skey a.app_skey a.counter f) (ap Ok (sym c.if-passes.false) ∙ c.in_ok-passes.ensures)
    ∙ checked a.nwk_skey a.app_skey a.counter f
