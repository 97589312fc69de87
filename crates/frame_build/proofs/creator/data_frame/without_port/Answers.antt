-- `without_port` meets its contract: each way out is that of its tests.
-- Assumes nothing.
use borrow.Author.Tests.{lt-ltb, le-ltb}
use Rattle.frame_build.proofs.creator.data_frame.without_port.Goals as goal

pub returns-then-commands-gt-FOPTS_MAX_LEN : goal.returns-then-commands-gt-FOPTS_MAX_LEN
returns-then-commands-gt-FOPTS_MAX_LEN c = simp (c.of.ensures, lt-ltb _ _ c.if-commands-gt-FOPTS_MAX_LEN.true)

pub returns-then-payload-gt0 : goal.returns-then-payload-gt0
returns-then-payload-gt0 c = simp (c.of-then-payload-gt0.ensures, le-ltb _ _ c.if-commands-gt-FOPTS_MAX_LEN.false, lt-ltb _ _ c.if-payload-gt0.true)

pub returns : goal.returns
returns c = simp (le-ltb _ _ c.if-commands-gt-FOPTS_MAX_LEN.false, le-ltb _ _ c.if-payload-gt0.false)
