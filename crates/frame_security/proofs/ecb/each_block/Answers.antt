-- `each_block`: after k turns the first k blocks are done.
-- Assumes nothing.
use borrow.Author.Rules.{rules}
use Rattle.frame_security.proofs.AcceptBlocks.{start, step}
use Rattle.frame_security.proofs.ecb.each_block.Goals as goal

pub loop-k-init : goal.loop-k-init
loop-k-init g c = λ f h. start _ _

pub loop-k-preserved : goal.loop-k-preserved
loop-k-preserved g c =
    λ f h. step _ h (c.loop-k.invariant f h) (search rules) c.run_at-block.ensures c.step.ensures c.put.ensures.list
