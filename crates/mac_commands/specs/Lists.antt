-- A whole list of commands: each with its place, and how the list ends; and a list of commands that is written.
-- Assumes nothing.
use Rattle.std.specs.Prelude.{◌≡◌, Bool, true, List, [], ◌∷◌, ◌++◌, ℕ, zero, suc, ◌+◌, ◌-◌, length, Some, None, Result, Ok, Err}
use Rattle.frame.specs.declared.refusals.Refusal.{Refusal}
use Rattle.mac_commands.specs.Commands.{Step, step_at, bytes_as, fits_all, row_at, up_of, command_written, command_in}
use Rattle.mac_commands.specs.declared.maccommands.Command.{Command}

-- a command and the place of its identifier
pub record Placed : Type 0 where
  pub place : ℕ
  pub command : Command

-- the commands ahead of the end, which is Ok None, or of the refusal of what could not be read
pub record Listed : Type 0 where
  pub commands : List Placed
  pub end : Step

-- a step from place i on, and then what the rest gives
abbrev pub on_step : ℕ → Step → (ℕ → Listed) → Listed
on_step i (Ok (Some (c, n))) rest =
    record { commands = record { place = i; command = c } ∷ (rest n).commands; end = (rest n).end }
on_step i (Ok None) rest = record { commands = []; end = Ok None }
on_step i (Err r) rest = record { commands = []; end = Err r }

-- at most so many steps
unfoldable pub list_from : ℕ → Bool → List ℕ → ℕ → Listed
list_from zero up s i = record { commands = []; end = Ok None }
list_from (suc k) up s i = on_step i (step_at up s i) (list_from k up s)

-- the list from place i on: each step takes a byte, so that these are enough
unfoldable pub list_at : Bool → List ℕ → ℕ → Listed
list_at up s i = list_from (suc (length s) - i) up s i

-- the bytes of commands, one after the other
unfoldable pub bytes_all : List Command → List ℕ
bytes_all [] = []
bytes_all (c ∷ cs) = bytes_as c ++ bytes_all cs

-- each can be written, and goes this way
pub data Sent (up : Bool) : List Command → Type 0 where
  no_more : Sent up []
  one_more : {c : Command} {cs : List Command} → fits_all c ≡ true → up_of (row_at c) ≡ up → Sent up cs → Sent up (c ∷ cs)

-- the places that they have from place i on
unfoldable pub placed : ℕ → List Command → List Placed
placed i [] = []
placed i (c ∷ cs) = record { place = i; command = c } ∷ placed (i + length (bytes_as c)) cs

-- ---- steps that a caller takes one after the other, from place i on: what they find, and how they end

pub data Taken (up : Bool) (s : List ℕ) : ℕ → Listed → Type 0 where
  at_end : {i : ℕ} → step_at up s i ≡ Ok None → Taken up s i (record { commands = []; end = Ok None })
  at_fault : {i : ℕ} {r : Refusal} → step_at up s i ≡ Err r → Taken up s i (record { commands = []; end = Err r })
  at_command : {i n : ℕ} {c : Command} {l : Listed} → step_at up s i ≡ Ok (Some (c, n)) → Taken up s n l
      → Taken up s i (record { commands = record { place = i; command = c } ∷ l.commands; end = l.end })

-- ---- commands that a caller writes one after the other, from place i on: what the last call answers, and the bytes then

pub record Output : Type 0 where
  pub answer : Result ℕ Refusal
  pub bytes : List ℕ

abbrev pub on_written : Result ℕ Refusal → (ℕ → Output) → List ℕ → Output
on_written (Ok n) rest l = rest n
on_written (Err r) rest l = record { answer = Err r; bytes = l }

unfoldable pub write_all : List Command → List ℕ → ℕ → Output
write_all [] l i = record { answer = Ok i; bytes = l }
write_all (c ∷ cs) l i = on_written (command_written c (length l) i) (write_all cs (command_in c l i)) l
