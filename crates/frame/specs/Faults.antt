-- What reading finds wrong with a frame (docs/RULES.md, Refusals, The place): six faults in the order of the tests, each with the
-- number of its refusal and the index of the byte whose rule failed. In brackets the sections of LoRaWAN 1.0.
-- Assumes nothing.
use Rattle.std.specs.Prelude.{List, ℕ, length}
use Rattle.frame.specs.Refusals.{refusal}
use Rattle.frame.specs.declared.refusals.Refusal.{Refusal}

pub data Fault : Type 0 where
  -- over 255 bytes; under 12, the length of a data frame without FOpts, port and payload (4.3)
  too_long : Fault
  too_short : Fault
  -- byte 0 (4.2): a version other than 0, type 6 or 7
  version : Fault
  type : Fault
  -- a join message of a length that its type does not allow (6.2.4, 6.2.5)
  join_length : Fault
  -- a data frame that has no room for its header (4.3.1) and the MIC
  header : Fault

abbrev pub number_of_fault : Fault → ℕ
number_of_fault too_long = 12
number_of_fault too_short = 1
number_of_fault version = 2
number_of_fault type = 3
number_of_fault join_length = 4
number_of_fault header = 4

-- byte 0 has version and type, byte 5 (FCtrl) says how long the header is; where the length is wrong it is the frame's length
abbrev pub place_of_fault : Fault → List ℕ → ℕ
place_of_fault too_long f = length f
place_of_fault too_short f = length f
place_of_fault version f = 0
place_of_fault type f = 0
place_of_fault join_length f = length f
place_of_fault header f = 5

abbrev pub fault_refusal : Fault → List ℕ → Refusal
fault_refusal x f = refusal (number_of_fault x) (place_of_fault x f)
