-- `zinovoky_decrypt_data_checked` answers what `decrypt_data_checked` does, of the keys as they are given.
-- Assumes nothing.
use mathlib.Core.Path.{ap}
use Rattle.frame_opening.specs.CheckedOpening.{data_opened_checked}
use Rattle.frame_c.specs.CGiven.{app_given}
use Rattle.frame_c.proofs.Opened.{opened}
use Rattle.frame_c.proofs.opening.zinovoky_decrypt_data_checked.Goals as goal

pub returns : goal.returns
unfolding app_given
returns c =
    let both = opened c.decrypt_data_checked-opening.ensures
    (ap (λ a. data_opened_checked c.args.nwk_skey.now a c.args.counter c.args.frame.now) c.then_some-app.ensures) c.done_answer.ensures in
    record { value = both.0; frame_after = both.1 }
