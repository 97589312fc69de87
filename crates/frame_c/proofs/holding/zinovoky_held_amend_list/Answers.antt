-- `zinovoky_held_amend_list` answers what `amend_list_held` does, and leaves the buffer so.
-- Assumes nothing.
use mathlib.Core.Path.{ap, ◌∙◌}
use Rattle.frame_c.specs.CAnswers.{done_answer_of}
use Rattle.frame_c.proofs.holding.zinovoky_held_amend_list.Goals as goal

pub returns : goal.returns
returns c =
    let held = c.amend_list_held-done.ensures in
    record {
      value = c.done_answer.ensures ∙ ap done_answer_of held.value;
      buffer_after = held.buffer_after;
    }
