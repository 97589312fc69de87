-- `zinovoky_decrypt_join_accept_checked` answers what `decrypt_join_accept_checked` does.
-- Assumes nothing.
use mathlib.Core.Path.{refl}
use Rattle.frame_c.proofs.Opened.{opened}
use Rattle.frame_c.proofs.opening.zinovoky_decrypt_join_accept_checked.Goals as goal

pub returns : goal.returns
returns c =
    let both = opened c.decrypt_join_accept_checked-opening.ensures (refl) c.done_answer.ensures in
    record { value = both.0; frame_after = both.1 }
