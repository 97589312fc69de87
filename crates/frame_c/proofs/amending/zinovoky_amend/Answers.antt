-- `zinovoky_amend` answers what `amend_frame` does, and leaves the frame so.
-- Assumes nothing.
use mathlib.Core.Path.{ap, ◌∙◌}
use Rattle.frame_c.specs.CAnswers.{done_answer_of}
use Rattle.frame_c.proofs.amending.zinovoky_amend.Goals as goal

pub returns : goal.returns
returns c =
    record {
      value = c.done_answer.ensures ∙ ap done_answer_of c.amend_frame-done.ensures.value;
      frame_after = c.amend_frame-done.ensures.frame_after;
    }
