-- `decrypt_under` decrypts where the key was given, and writes nothing where it was not.
-- Assumes nothing.
use Rattle.std.proofs.Common.{Ok, ap}
use Rattle.frame_opening.specs.FrameOpening.{outcome, unopened, opened_under}
use Rattle.frame_opening.proofs.payload.decrypt_under.Goals as goal

pub returns-in_default : goal.returns-in_default
unfolding opened_under
returns-in_default c = rw c.in_default.is (ap (unopened c.args.frame.now) c.of.ensures)

pub returns : goal.returns
unfolding opened_under
returns c = rw c.in-Some.is (ap (outcome (Ok tt)) c.decrypt_payload.ensures)
