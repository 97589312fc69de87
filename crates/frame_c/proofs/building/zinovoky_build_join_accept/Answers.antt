-- `zinovoky_build_join_accept` answers what `build_join_accept` does, of the parts that the twelve bytes are.
-- Assumes nothing.
use mathlib.Core.Path.{ap}
use lib.ListN.{length}
use Rattle.frame_build.specs.JoinBuilding.{join_accept_refusal_of}
use Rattle.frame_build.specs.JoinFrames.{join_accept_of}
use Rattle.frame_build.specs.declared.creator.join.JoinAcceptParts.{JoinAcceptParts}
use Rattle.frame_c.proofs.Buildings.{made}
use Rattle.frame_c.proofs.building.zinovoky_build_join_accept.Goals as goal

pub returns : goal.returns
returns c =
    let a = c.args in
    let parts = c.accept_parts-parts.ensures in
    made c.build_join_accept-built.ensures.builds
    (ap (λ (j : JoinAcceptParts). join_accept_refusal_of j a.channels.now (length a.out.now)) parts)
    (ap (λ (j : JoinAcceptParts). join_accept_of a.app_key.now j a.channels.now) parts) c.value_answer.ensures
