-- `zinovoky_write_command` answers what `write_numbers` does, and leaves the output so.
-- Assumes nothing.
use mathlib.Core.Path.{ap, ◌∙◌}
use Rattle.frame_c.specs.CAnswers.{value_answer_of}
use Rattle.frame_c.proofs.commands.zinovoky_write_command.Goals as goal

pub returns : goal.returns
returns c =
    let written = c.write_numbers-written.ensures in
    record {
      value = c.value_answer.ensures ∙ ap value_answer_of written.value;
      out_after = written.out_after;
    }
