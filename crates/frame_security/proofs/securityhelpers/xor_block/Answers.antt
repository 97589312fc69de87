-- `xor_block` lays the mask on from the front, one byte a turn.
-- Assumes nothing.
use borrow.Author.Rules.{rules}
use Rattle.base.proofs.Mask.{start, step_one}
use Rattle.frame_security.proofs.securityhelpers.xor_block.Goals as goal

pub loop-i-init : goal.loop-i-init
loop-i-init c = start _ _

pub loop-i-preserved : goal.loop-i-preserved
loop-i-preserved c = step_one c.loop-i.invariant (search rules)
