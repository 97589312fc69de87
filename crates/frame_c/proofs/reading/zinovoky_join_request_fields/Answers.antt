-- `zinovoky_join_request_fields` stores the fields that are found.
-- Assumes nothing.
use Rattle.frame_c.proofs.Fillings.{request_into}
use Rattle.frame_c.proofs.reading.zinovoky_join_request_fields.Goals as goal

pub returns : goal.returns
returns c = request_into c.join_request_fields-found.ensures c.store_request.ensures
