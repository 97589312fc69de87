-- `aes::key_expansion::expand` meets its contract: the loop writes the schedule a word a turn.
-- Assumes nothing.
use mathlib.Core.Path.{refl}
use borrow.Author.Rules.{rules}
use Rattle.aes.proofs.ScheduleGrowing.{started, more, grown}
use Rattle.aes.proofs.key_expansion.expand.Goals as goal

pub loop-n-init : goal.loop-n-init
loop-n-init c = started c.args.key c.copy_from_slice.new.self _ (search rules) c.copy_from_slice.ensures.after refl

pub loop-n-preserved : goal.loop-n-preserved
loop-n-preserved c = more c.next_word-t.result c.loop-n.invariant c.loop-n-test.true c.next_word-t.ensures

pub returns : goal.returns
returns c = grown c.loop-n.invariant c.loop-n-test.false
