-- `build_data` meets its contract: a frame that nothing refuses is filled, and sealed where it lies.
-- Assumes nothing.
use Rattle.std.proofs.lemmas.Result.{err_from_is_err_and}
use Rattle.frame.proofs.Others.{passed_by}
use mathlib.Core.Path.{ap, ◌∙◌}
use Prim.Native.Nat.{ℕ, ◌-◌}
use native.Mathlib.Omega.{arith}
use borrow.Author.Rules.{rules}
use lib.ListN.{length}
use Rattle.frame_build.specs.GivenParts.{DataGiven}
use Rattle.frame_build.proofs.DataRefusals.{Roomy, roomy}
use Rattle.frame_security.proofs.SealingLaws.{seal_inside}
use Rattle.frame_build.proofs.DataBuiltLaws.{not_built, built, sealed_built}
use Rattle.frame_build.proofs.creator.data_frame.build_data.Goals as goal

pub returns-in_err-data_refusal : goal.returns-in_err-data_refusal
returns-in_err-data_refusal c =
    let p = err_from_is_err_and c.from_residual.result c.from_residual.ensures.1 in
    let sizes : DataGiven c.args.d = record { address = search rules } in
    record {
      builds = rw (p.1, p.2) (not_built c.in_err-data_refusal.ensures);
      data_given = sizes;
    }

pub fill-end-requires : goal.fill-end-requires
fill-end-requires c = passed_by _ c.in_ok-data_refusal.ensures

pub overflow_sub-start : goal.overflow_sub-start
overflow_sub-start c =
    let sizes : DataGiven c.args.d = record { address = search rules } in
    let room : Roomy c.args.d c.args.commands.now
    c.args.payload.now (length c.args.out.now) = roomy c.args.d sizes.address _ _ _ (passed_by _ c.in_ok-data_refusal.ensures) in
    omega (arith, room, c.fill-end.ensures.next, c.body_length.ensures)

pub overflow_add-result : goal.overflow_add-result
overflow_add-result c =
    let sizes : DataGiven c.args.d = record { address = search rules } in
    let room : Roomy c.args.d c.args.commands.now
    c.args.payload.now (length c.args.out.now) = roomy c.args.d sizes.address _ _ _ (passed_by _ c.in_ok-data_refusal.ensures) in
    omega (arith, room, c.fill-end.ensures.next)

pub returns : goal.returns
returns c =
    let sizes : DataGiven c.args.d = record { address = search rules } in
    let room : Roomy c.args.d c.args.commands.now
    c.args.payload.now (length c.args.out.now) = roomy c.args.d sizes.address _ _ _ (passed_by _ c.in_ok-data_refusal.ensures) in
    let k = room in
    let end = c.fill-end.result in record {
      builds = built c.in_ok-data_refusal.ensures
          (sealed_built _ _ _ _ _ _ _ _ _ _ c.fill-end.ensures (ap (λ (n : ℕ). end - n) c.body_length.ensures) k.within
          (c.seal.ensures
          ∙ seal_inside _ _ _ _ _ _ (omega (arith, k, c.fill-end.ensures.next, c.body_length.ensures))
          (omega (arith, c.body_length.ensures)) (omega (arith, k, c.fill-end.ensures.next, c.fill-end.auto))));
      data_given = sizes;
    }
