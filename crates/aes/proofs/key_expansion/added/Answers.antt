-- `aes::key_expansion::added` meets its contract, by the law for each of its two cases.
-- Assumes nothing.
use Rattle.aes.proofs.ScheduleGrowing.{temp_turned, temp_kept}
use Rattle.aes.proofs.key_expansion.added.Goals as goal

pub returns-then-n-eq0 : goal.returns-then-n-eq0
returns-then-n-eq0 c =
    temp_turned c.args.q c.args.n c.requires c.if-n-eq0.true
    c.substituted.ensures
    c.substituted-then-n-eq0.ensures
    c.substituted-then-n-eq0-2.ensures
    c.substituted-then-n-eq0-3.ensures

pub returns-else-n-eq0 : goal.returns-else-n-eq0
returns-else-n-eq0 c = temp_kept c.args.q c.args.n c.if-n-eq0.false
