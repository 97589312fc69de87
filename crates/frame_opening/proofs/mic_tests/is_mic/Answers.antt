-- `is_mic` compares the last four bytes with the MIC that is right.
-- Assumes nothing.
use mathlib.Core.Path.{sym, ◌∙◌}
use Rattle.frame_opening.proofs.OpeningLaws.{found_right}
use Rattle.frame_opening.proofs.mic_tests.is_mic.Goals as goal

pub returns : goal.returns
returns c =
    c.same_mic.ensures
    ∙ sym (found_right c.args.frame.now c.args.right c.requires c.run_at-found.result c.run_at-found.ensures)
