-- `frame::join_fields::join_request_fields` meets its contract: a join-request that was read has 23 bytes.
-- Assumes nothing.
use Rattle.frame.proofs.Others.{request_there}
use Rattle.frame.proofs.ReadingLaws.{request_read}
use Rattle.frame.proofs.join_fields.join_request_fields.Goals as goal

pub request_fields-requires : goal.request_fields-requires
request_fields-requires c = (request_read _ (request_there _ c.in_ok-read_as_join_request.ensures)).long
