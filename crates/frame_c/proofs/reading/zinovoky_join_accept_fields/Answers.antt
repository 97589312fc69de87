-- `zinovoky_join_accept_fields` stores the fields that are found.
-- Assumes nothing.
use Rattle.frame_c.proofs.Fillings.{accept_into}
use Rattle.frame_c.proofs.reading.zinovoky_join_accept_fields.Goals as goal

pub returns : goal.returns
returns c = accept_into c.join_accept_fields-found.ensures c.store_accept.ensures
