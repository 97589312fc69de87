-- `build_join_accept` meets its contract: the clear bytes and their MIC are stored, and the blocks from byte 1 deciphered
-- where they lie.
-- Assumes nothing.
use Rattle.std.proofs.lemmas.Result.{err_from_is_err_and}
use Rattle.frame.proofs.Others.{passed_by}
use mathlib.Core.Path.{refl}
use native.Mathlib.Omega.{arith}
use borrow.Author.Rules.{rules}
use Rattle.base.proofs.Put.{put_length}
use Rattle.frame_build.proofs.DataBuiltLaws.{not_built, built}
use Rattle.frame_build.proofs.GivenBytes.{array_given, field_given}
use Rattle.frame_build.proofs.JoinBuiltLaws.{mic_next, accept_built}
use Rattle.frame_build.proofs.JoinBodies.{accept_room, accept_sizes}
use Rattle.frame_build.proofs.creator.join.build_join_accept.Goals as goal

pub returns-in_err-join_accept_refusal-clause-builds : goal.returns-in_err-join_accept_refusal-clause-builds
returns-in_err-join_accept_refusal-clause-builds c =
    let p = err_from_is_err_and c.from_residual.result c.from_residual.ensures.1 in
    rw (p.1, p.2) (not_built c.in_err-join_accept_refusal.ensures)

pub fill_accept-n-requires : goal.fill_accept-n-requires
fill_accept-n-requires c = accept_room _ _ _ (passed_by _ c.in_ok-join_accept_refusal.ensures)

pub sign-end-requires : goal.sign-end-requires
sign-end-requires c =
    let none = passed_by _ c.in_ok-join_accept_refusal.ensures in
    omega
    (arith, accept_sizes _ (search rules) (search rules) (search rules) _ _ none, c.fill_accept-n.ensures.next, put_length c.fill_accept-n.ensures)

-- the frame has a byte 1
pub slice_bounds-blocks-count : goal.slice_bounds-blocks-count
slice_bounds-blocks-count c = omega (arith, mic_next _ _ c.sign-end.ensures)

pub slice_bounds-blocks-start : goal.slice_bounds-blocks-start
slice_bounds-blocks-start c = omega (arith, mic_next _ _ c.sign-end.ensures)

pub slice_bounds-blocks-end : goal.slice_bounds-blocks-end
slice_bounds-blocks-end c =
    let none = passed_by _ c.in_ok-join_accept_refusal.ensures in
    omega
    (arith, accept_sizes _ (search rules) (search rules) (search rules) _ _ none, c.fill_accept-n.ensures.next, put_length c.fill_accept-n.ensures, mic_next _ _ c.sign-end.ensures, put_length c.sign-end.ensures)

pub returns-clause-builds : goal.returns-clause-builds
returns-clause-builds c =
    let none = passed_by _ c.in_ok-join_accept_refusal.ensures in
    let room = accept_sizes _ (search rules) (search rules) (search rules) _ _ none in
    built c.in_ok-join_accept_refusal.ensures
    (accept_built _ _ _ _ _ _ _ _ c.fill_accept-n.ensures c.sign-end.ensures room.1 c.decrypt_blocks.ensures refl)

-- what the types of the arguments give
pub returns-in_err-join_accept_refusal-clause-accept_given : goal.returns-in_err-join_accept_refusal-clause-accept_given
returns-in_err-join_accept_refusal-clause-accept_given c =
    let fields = c.well_formed.0.1.1 in
    record {
      key = array_given 16 c.args.app_key _ c.well_formed.1.1.0;
      nonce = field_given 3 c.args.j.app_nonce _ fields.0;
      net = field_given 3 c.args.j.net_id _ fields.1.0;
      address = field_given 4 c.args.j.dev_addr _ fields.1.1.0;
      settings = fields.1.1.1.0.1;
      delay = fields.1.1.1.1.0.1;
    }

pub returns-clause-accept_given : goal.returns-clause-accept_given
returns-clause-accept_given c =
    let fields = c.well_formed.0.1.1 in
    record {
      key = array_given 16 c.args.app_key _ c.well_formed.1.1.0;
      nonce = field_given 3 c.args.j.app_nonce _ fields.0;
      net = field_given 3 c.args.j.net_id _ fields.1.0;
      address = field_given 4 c.args.j.dev_addr _ fields.1.1.0;
      settings = fields.1.1.1.0.1;
      delay = fields.1.1.1.1.0.1;
    }
