-- What the functions for C answer of MAC commands (docs/RULES.md, MAC commands, From C). A command is six numbers; a step of reading
-- answers the place of the next command above the low byte, and 0 at the end of the list.
-- Assumes nothing.
use Rattle.std.specs.Prelude.{List, ℕ, ℤ, Err, None, Ok, Result, Some}
use Rattle.frame.specs.declared.refusals.Refusal.{Refusal}
use Rattle.mac_commands.specs.Commands.{Step}
use Rattle.command_numbers.specs.Numbers.{numbers_of}
use Rattle.frame_c.specs.CAnswers.{value_answer_of}

-- the place of the next command
abbrev pub step_next : Step → Result ℕ Refusal
step_next (Ok (Some (c, next))) = Ok next
step_next (Ok None) = Ok 0
step_next (Err r) = Err r

abbrev pub step_answer : Step → ℕ
step_answer step = value_answer_of (step_next step)

-- the six numbers of a command that was found; what was there where none was
abbrev pub step_into : Step → List ℤ → List ℤ
step_into (Ok (Some (c, next))) was = numbers_of c
step_into (Ok None) was = was
step_into (Err r) was = was
