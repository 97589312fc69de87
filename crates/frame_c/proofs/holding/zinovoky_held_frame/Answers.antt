-- `zinovoky_held_frame` answers what `frame_of` does, and leaves the output so.
-- Assumes nothing.
use mathlib.Core.Path.{ap, ◌∙◌}
use Rattle.frame_c.specs.CAnswers.{value_answer_of}
use Rattle.frame_c.proofs.holding.zinovoky_held_frame.Goals as goal

pub returns : goal.returns
returns c =
    let taken = c.frame_of-taken.ensures in
    record {
      value = c.value_answer.ensures ∙ ap value_answer_of taken.value;
      out_after = taken.out_after;
    }
