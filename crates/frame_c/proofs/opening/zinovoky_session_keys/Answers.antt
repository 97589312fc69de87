-- `zinovoky_session_keys` stores the keys that `session_keys` derives.
-- Assumes nothing.
use Rattle.frame_c.proofs.Fillings.{keys_into}
use Rattle.frame_c.proofs.opening.zinovoky_session_keys.Goals as goal

pub returns : goal.returns
returns c = keys_into c.session_keys-session.ensures c.store_keys.ensures
