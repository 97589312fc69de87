-- `zinovoky_join_accept_mic` answers and stores what `join_accept_mic` finds.
-- Assumes nothing.
use Rattle.frame_c.proofs.TestedLaws.{tested}
use Rattle.frame_c.proofs.opening.zinovoky_join_accept_mic.Goals as goal

pub returns : goal.returns
returns c =
    let both = tested _ c.join_accept_mic-test.ensures c.test_answer.ensures.value c.test_answer.ensures.passes_after in
    record { value = both.0; passes_after = both.1 }
