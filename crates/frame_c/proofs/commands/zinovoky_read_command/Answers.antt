-- `zinovoky_read_command` answers what `read_numbers` does, and leaves the six numbers so.
-- Assumes nothing.
use Rattle.std.proofs.Common.{ap, ◌∙◌}
use Rattle.frame_c.specs.CAnswers.{value_answer_of}
use Rattle.frame_c.proofs.commands.zinovoky_read_command.Goals as goal

pub returns : goal.returns
returns c =
    let next = c.read_numbers-next.ensures in
    record {
      value = c.value_answer.ensures ∙ ap value_answer_of next.value;
      command_after = next.command_after;
    }
