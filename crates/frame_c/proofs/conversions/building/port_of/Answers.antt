-- `port_of` tests what the definition does.
-- Assumes nothing.
use borrow.Author.Tests.{lt-ltb, le-ltb}
use Rattle.frame_c.specs.CGiven.{port_given_by}
use Rattle.frame_c.proofs.conversions.building.port_of.Goals as goal

pub returns-then-port-lt256 : goal.returns-then-port-lt256
unfolding port_given_by
returns-then-port-lt256 c = simp (lt-ltb _ _ c.if-port-lt256.true)

pub returns : goal.returns
unfolding port_given_by
returns c = simp (le-ltb _ _ c.if-port-lt256.false)
