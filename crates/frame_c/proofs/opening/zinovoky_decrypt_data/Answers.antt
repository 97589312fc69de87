-- `zinovoky_decrypt_data` answers what `decrypt_data` does, of the keys as they are given.
-- Assumes nothing.
use mathlib.Core.Path.{ap₂}
use Rattle.frame_opening.specs.FrameOpening.{data_opened}
use Rattle.frame_c.specs.CGiven.{nwk_given, app_given}
use Rattle.frame_c.proofs.Opened.{opened}
use Rattle.frame_c.proofs.opening.zinovoky_decrypt_data.Goals as goal

pub returns : goal.returns
unfolding nwk_given app_given
returns c =
    let both = opened c.decrypt_data-opening.ensures
    (ap₂ (λ n a. data_opened n a c.args.counter c.args.frame.now) c.then_some-nwk.ensures c.then_some-app.ensures) c.done_answer.ensures in
    record { value = both.0; frame_after = both.1 }
