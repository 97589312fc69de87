-- `frame::join_fields::five_frequencies` meets its contract. After i turns the first i frequencies are there.
-- Assumes nothing.
use native.Mathlib.Omega.{arith}
use Rattle.base.proofs.Filling.{start, step, done}
use borrow.Author.Rules.{rules}
use Rattle.frame.proofs.join_fields.five_frequencies.Goals as goal

pub loop-i-init : goal.loop-i-init
loop-i-init c = start 5 _ _ (search rules)

pub loop-i-preserved : goal.loop-i-preserved
loop-i-preserved c = step c.loop-i.invariant (omega arith) c.frequency-value.ensures

pub returns : goal.returns
returns c = done c.loop-i.invariant (omega arith)
