-- The uses of a number that the functions for C add (docs/RULES.md, Refusals, From C), and number and place in an answer to C.
-- Assumes nothing.
use Rattle.std.specs.Prelude.{List, Result, [], ◌∷◌, ℕ, ◌/◌, ◌%◌, ◌<◌}
use Rattle.frame.specs.Refusals.{refusal_in}
use Rattle.frame.specs.declared.refusals.Refusal.{Refusal}
use Rattle.frame_build.specs.declared.creator.data_frame.DataParts.{DataParts}
use Rattle.frame_c.specs.CStored.{stored_in}
use Rattle.theorems.specs.Exactly.{Condition, ◌when◌}
use Rattle.theorems.specs.BuildingConditions.{data_conditions}

-- ahead of every other test of building a data frame: 4 where its type is that of a join message, 0 or 1, and 3 above 5
abbrev pub kind_conditions : ℕ → DataParts → List ℕ → List ℕ → ℕ → List Condition
kind_conditions kind d commands body room = 4 when (kind < 2) ∷ 3 when (5 < kind) ∷ data_conditions d commands body room

-- 7, after the reader's own refusals: there is room for fewer than so many bytes
abbrev pub room_conditions : ℕ → ℕ → List Condition
room_conditions count room = 7 when (room < count) ∷ []

-- the refusal of a call that stores so many bytes of what the proved call found
abbrev pub stored_refusal : {A : Type 0} → Result A Refusal → ℕ → ℕ → Refusal
stored_refusal found count room = refusal_in (stored_in found count room)

-- the number in an answer to C: its low byte
abbrev pub number_in_c : ℕ → ℕ
number_in_c answer = answer % 256

-- and the place: what lies above it
abbrev pub place_in_c : ℕ → ℕ
place_in_c answer = answer / 256
