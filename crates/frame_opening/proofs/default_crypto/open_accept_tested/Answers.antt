-- `open_accept_tested` stores the clear copy where its MIC is right, and writes nothing where it is not.
-- Assumes nothing.
use Rattle.std.proofs.Common.{Ok, sym, ap, ◌∙◌, arith}
use lib.ListN.{length, length-take}
use Rattle.frame_security.proofs.AcceptBlocks.{clear_long}
use Rattle.frame_opening.specs.FrameOpening.{outcome, unopened}
use Rattle.frame_opening.specs.CheckedOpening.{accept_tested}
use Rattle.frame_opening.proofs.CheckedLaws.{accept_long, copy_test, stored_back}
use Rattle.frame_opening.proofs.OpeningLaws.{pick_true, pick_false}
use Rattle.frame_opening.proofs.default_crypto.open_accept_tested.Goals as goal

pub slice_bounds-join_test-end : goal.slice_bounds-join_test-end
slice_bounds-join_test-end c =
    omega (arith, (accept_long c.args.app_key c.args.frame.now c.requires).1)

-- as many bytes of the copy as the frame has
pub slice_bounds-copy-end : goal.slice_bounds-copy-end
slice_bounds-copy-end c =
    omega (arith, (accept_long c.args.app_key c.args.frame.now c.requires).1)

pub slice_bounds-put-end : goal.slice_bounds-put-end
slice_bounds-put-end c =
    simp length-take (omega (arith, (accept_long c.args.app_key c.args.frame.now c.requires).1))

pub returns-then-right : goal.returns-then-right
unfolding accept_tested
returns-then-right c =
    let f = c.args.frame.now in
    let t = c.join_test-right.ensures ∙ copy_test c.args.app_key f c.requires c.clear_copy-copy.result c.clear_copy-copy.ensures in
    ap (outcome (Ok tt))
    (stored_back f _ c.put.ensures (ap length c.clear_copy-copy.ensures ∙ clear_long c.args.app_key f)
    ∙ c.clear_copy-copy.ensures)
    ∙ sym (pick_true _ _ _ (sym t ∙ c.if-right.true))

pub returns : goal.returns
unfolding accept_tested
returns c =
    let f = c.args.frame.now in
    let t = c.join_test-right.ensures ∙ copy_test c.args.app_key f c.requires c.clear_copy-copy.result c.clear_copy-copy.ensures in
    ap (unopened f) c.of.ensures ∙ sym (pick_false _ _ _ (sym t ∙ c.if-right.false))
