-- `zinovoky_build_data` refuses a kind that is none, and else answers what `build_data` does, of the parts given.
-- Assumes nothing.
use mathlib.Core.Path.{refl, ap, sym, ◌∙◌}
use lib.ListN.{length}
use Rattle.frame_build.specs.DataBuilding.{data_refusal_of}
use Rattle.frame_build.specs.DataFrames.{data_frame_of}
use Rattle.frame_build.specs.declared.creator.data_frame.DataParts.{DataParts}
use Rattle.frame_c.proofs.Buildings.{made, refused_kind, below_data, above_data, of_data}
use Rattle.frame_c.proofs.building.zinovoky_build_data.Goals as goal

pub returns-then-kind-lt2 : goal.returns-then-kind-lt2
returns-then-kind-lt2 c = refused_kind 4 refl (below_data _ _ _ _ _ c.if-kind-lt2.true) c.numbered_bits.ensures

pub returns-then-kind-gt5 : goal.returns-then-kind-gt5
returns-then-kind-gt5 c = refused_kind 3 refl (above_data _ _ _ _ _ c.if-kind-lt2.false c.if-kind-gt5.true) c.numbered_bits-then-kind-gt5.ensures

pub returns : goal.returns
returns c =
    let a = c.args in
    let parts = c.data_parts-parts.ensures in
    made c.build_data-built.ensures.builds
    (ap (λ (d : DataParts). data_refusal_of d a.commands.now a.payload.now (length a.out.now)) parts
    ∙ sym (of_data _ _ _ _ _ c.if-kind-lt2.false c.if-kind-gt5.false))
    (ap (λ (d : DataParts). data_frame_of a.nwk_skey.now a.app_skey.now d a.commands.now a.payload.now) parts)
    c.value_answer.ensures
