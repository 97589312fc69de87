-- `zinovoky_build_join_request` answers what `build_join_request` does.
-- Assumes nothing.
use mathlib.Core.Path.{refl}
use Rattle.frame_c.proofs.Buildings.{made}
use Rattle.frame_c.proofs.building.zinovoky_build_join_request.Goals as goal

pub returns : goal.returns
returns c = made c.build_join_request-built.ensures.builds refl refl c.value_answer.ensures
