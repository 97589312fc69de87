-- When building refuses, in the words of docs/RULES.md, Refusals: a proposition for each condition, and the order in which each
-- call tests them.
-- Assumes nothing.
use Rattle.std.specs.Prelude.{◌≡◌, Bool, true, false, List, [], ◌∷◌, ℕ, ◌%◌, ◌<◌, length, Err, None, Ok, Option, Result, Some}
use Rattle.base.specs.Bytes.{at}
use Rattle.frame.specs.Refusals.{refused}
use Rattle.frame.specs.declared.refusals.Refusal.{Refusal}
use Rattle.frame_build.specs.DataBuilding.{data_length}
use Rattle.frame_build.specs.declared.creator.data_frame.DataParts.{DataParts}
use Rattle.frame_build.specs.declared.creator.join.JoinAcceptParts.{JoinAcceptParts}
use Rattle.theorems.specs.Exactly.{Exactly, Condition, ◌when◌, ◌unless◌, Due, NotOwn}

-- ---- data frames

-- the port is absent or not 0
pub data NotPort0 (port : Option ℕ) : Type 0 where
  absent : port ≡ None → NotPort0 port
  other : (p : ℕ) → port ≡ Some p → (p ≡ 0 → ⊥) → NotPort0 port

-- 9: there are more than 15 bytes of commands, and the port is absent or not 0
abbrev pub TooManyCommands : Option ℕ → List ℕ → Type 0
TooManyCommands port commands = NotPort0 port × (15 < length commands)

-- 10: the port is 0 and the payload is not empty
abbrev pub PayloadOnPort0 : Option ℕ → List ℕ → Type 0
PayloadOnPort0 port body = (port ≡ Some 0) × (0 < length body)

-- 11: there is no port and the payload is not empty
abbrev pub PayloadWithoutPort : Option ℕ → List ℕ → Type 0
PayloadWithoutPort port body = (port ≡ None) × (0 < length body)

-- 7: the output has fewer than 255 bytes; 13: the low nibble of FCtrl is other than 0; 12: the frame has more than 255 bytes
abbrev pub data_conditions : DataParts → List ℕ → List ℕ → ℕ → List Condition
data_conditions d commands body room =
    7 when (room < 255)
    ∷ 13 unless (d.fctrl % 16 ≡ 0)
    ∷ 9 when TooManyCommands d.port commands
    ∷ 10 when PayloadOnPort0 d.port body
    ∷ 11 when PayloadWithoutPort d.port body
    ∷ 12 when (255 < data_length d commands body)
    ∷ []

-- ---- join messages

abbrev pub request_conditions : ℕ → List Condition
request_conditions room = 7 when (room < 23) ∷ []

-- more than five channels, or a channel above 16,777,215
pub data WrongChannels (channels : List ℕ) : Type 0 where
  many : 5 < length channels → WrongChannels channels
  high : (i : ℕ) → i < length channels → 16777215 < at channels i → WrongChannels channels

-- 8: there is a list, and its channels are wrong
abbrev pub WrongList : Bool → List ℕ → Type 0
WrongList listed channels = (listed ≡ true) × WrongChannels channels

-- 7: fewer than 17 bytes of output without a list, fewer than 33 with one
pub data NoRoom (listed : Bool) (room : ℕ) : Type 0 where
  bare : listed ≡ false → room < 17 → NoRoom listed room
  with_list : listed ≡ true → room < 33 → NoRoom listed room

abbrev pub accept_conditions : JoinAcceptParts → List ℕ → ℕ → List Condition
accept_conditions j channels room =
    8 when WrongList j.with_c_f_list channels
    ∷ 7 when NoRoom j.with_c_f_list room
    ∷ []

-- ---- what a building answers

-- r is what a building answers whose frame has so many bytes, by its conditions
pub record Answers (cs : List Condition) (long : ℕ) (r : Result ℕ Refusal) : Type 0 where
  -- each number exactly where it is due
  pub refuses : (n : ℕ) → 0 < n → Exactly (r ≡ Err (refused n)) (Due cs n)
  -- the frame's length exactly where no condition holds
  pub builds : Exactly (r ≡ Ok long) (Due cs 0)
  -- and no other refusal
  pub no_other : (q : Refusal) → NotOwn cs q → r ≡ Err q → ⊥
