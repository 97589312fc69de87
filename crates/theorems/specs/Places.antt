-- Which refusals have a place from the reader (docs/RULES.md, Refusals): every call that can refuse with what it is given, the
-- refusal that it answers, and the frame that it reads first, if it reads one. A step of reading MAC commands is not among them:
-- its refusal is at the place of the step, as `Steps` of `CommandConditions` says.
-- Assumes nothing.
use Rattle.frame.specs.Refusals.{refusal_in}
use Rattle.std.specs.Prelude.{◌≡◌, Bool, List, ℕ, ℤ, length, Err, Option}
use Rattle.frame.specs.Reading.{read_of}
use Rattle.frame.specs.ReadingNumbers.{number_of, place_of, values_of, request_in, accept_in, data_in}
use Rattle.frame.specs.Refusals.{refusal}
use Rattle.frame.specs.JoinFields.{join_request_fields_of, join_accept_fields_of}
use Rattle.frame.specs.declared.refusals.Refusal.{Refusal}
use Rattle.frame_opening.specs.FrameOpening.{join_request_test, join_accept_test, data_test_of, data_opened}
use Rattle.frame_opening.specs.CheckedOpening.{data_opened_checked, accept_opened_checked}
use Rattle.frame_opening.specs.JoinAcceptOpening.{accept_opened}
use Rattle.frame_opening.specs.SessionKeys.{session_keys_of}
use Rattle.frame_build.specs.DataFrames.{built_of, data_frame_of}
use Rattle.frame_build.specs.DataBuilding.{data_refusal_of}
use Rattle.frame_build.specs.JoinBuilding.{join_request_refusal, join_accept_refusal_of}
use Rattle.frame_build.specs.JoinFrames.{join_request_of, join_accept_of}
use Rattle.frame_build.specs.declared.creator.data_frame.DataParts.{DataParts}
use Rattle.frame_build.specs.declared.creator.join.JoinRequestParts.{JoinRequestParts}
use Rattle.frame_build.specs.declared.creator.join.JoinAcceptParts.{JoinAcceptParts}
use Rattle.amend.specs.Amending.{amend_of}
use Rattle.amend.specs.AmendmentLists.{amend_frame_of}
use Rattle.amend.specs.OpenFrame.{open_of}
use Rattle.amend.specs.SignedOnce.{amend_list_of}
use Rattle.amend.specs.declared.amending.Open.{Open}
use Rattle.amend_held.specs.HeldCalls.{taken_of}
use Rattle.mac_commands.specs.Commands.{command_written, fields_written}
use Rattle.mac_commands.specs.InFrame.{in_frame_of}
use Rattle.mac_commands.specs.declared.maccommands.Command.{Command}
use Rattle.show_text.specs.Text.{text_of, text_of_input, described_of}
use Rattle.frame_c.specs.CGiven.{data_refused}
use Rattle.theorems.specs.BridgeConditions.{stored_refusal}
use Rattle.theorems.specs.NumberConditions.{numbers_written}

-- ---- calls that read the frame f first

pub data Reads (f : List ℕ) : Type 0 where
  -- reading, and the view, which shows its number and place
  read : Reads f
  view : Reads f
  -- reading a frame of one type
  as_request : Reads f
  as_accept : Reads f
  as_data : Reads f
  -- the fields of join messages, and session keys; from C into so many bytes
  request_fields : Reads f
  accept_fields : Reads f
  session_keys : (key dev_nonce_of : List ℕ) → Reads f
  request_stored : (room : ℕ) → Reads f
  accept_stored : (room : ℕ) → Reads f
  keys_stored : (key dev_nonce_of : List ℕ) (room : ℕ) → Reads f
  -- MIC tests
  request_mic : (key : List ℕ) → Reads f
  accept_mic : (key : List ℕ) → Reads f
  data_mic : (key : List ℕ) (counter : ℕ) → Reads f
  -- openings, plain and checked
  decrypt_data : (nwk app : Option (List ℕ)) (counter : ℕ) → Reads f
  decrypt_data_checked : (nwk : List ℕ) (app : Option (List ℕ)) (counter : ℕ) → Reads f
  decrypt_accept : (key : List ℕ) → Reads f
  decrypt_accept_checked : (key : List ℕ) → Reads f
  -- opening for amendments, also into a buffer that holds it, and the call on a lent frame
  open_frame : (nwk app : List ℕ) (counter : ℕ) → Reads f
  amend_frame : (nwk app : List ℕ) (counter : ℕ) (list : List ℕ) → Reads f
  -- where its MAC commands lie
  command_lists : Reads f

-- the refusal that the call answers, none where it does what it is to
abbrev pub reads_refusal : (f : List ℕ) → Reads f → Refusal
reads_refusal f read = refusal (number_of (read_of f)) (place_of (read_of f))
reads_refusal f view = refusal (values_of (read_of f)).number (values_of (read_of f)).place
reads_refusal f as_request = refusal_in (request_in (read_of f))
reads_refusal f as_accept = refusal_in (accept_in (read_of f))
reads_refusal f as_data = refusal_in (data_in (read_of f))
reads_refusal f request_fields = refusal_in (join_request_fields_of f)
reads_refusal f accept_fields = refusal_in (join_accept_fields_of f)
reads_refusal f (session_keys key dev_nonce_of) = refusal_in (session_keys_of key dev_nonce_of f)
reads_refusal f (request_stored room) = stored_refusal (join_request_fields_of f) 22 room
reads_refusal f (accept_stored room) = stored_refusal (join_accept_fields_of f) 42 room
reads_refusal f (keys_stored key dev_nonce_of room) = stored_refusal (session_keys_of key dev_nonce_of f) 32 room
reads_refusal f (request_mic key) = refusal_in (join_request_test key f)
reads_refusal f (accept_mic key) = refusal_in (join_accept_test key f)
reads_refusal f (data_mic key counter) = refusal_in (data_test_of key counter f)
reads_refusal f (decrypt_data nwk app counter) = refusal_in (data_opened nwk app counter f).answer
reads_refusal f (decrypt_data_checked nwk app counter) = refusal_in (data_opened_checked nwk app counter f).answer
reads_refusal f (decrypt_accept key) = refusal_in (accept_opened key f).answer
reads_refusal f (decrypt_accept_checked key) = refusal_in (accept_opened_checked key f).answer
reads_refusal f (open_frame nwk app counter) = refusal_in (open_of f nwk app counter)
reads_refusal f (amend_frame nwk app counter list) = refusal_in (amend_frame_of f nwk app counter list)
reads_refusal f command_lists = refusal_in (in_frame_of f)

-- ---- calls that read no frame, or to which a frame that is refused is one more input

pub data Others : Type 0 where
  -- amending what is open, and taking it out
  amend : (s : Open) (offset value : ℕ) → Others
  amend_list : (s : Open) (list : List ℕ) → Others
  take_out : (s : Open) (room : ℕ) → Others
  -- building, from C also by the number of a type
  build_data : (nwk app : List ℕ) (d : DataParts) (commands body : List ℕ) (room : ℕ) → Others
  build_kind : (kind : ℕ) (nwk app : List ℕ) (d : DataParts) (commands body : List ℕ) (room : ℕ) → Others
  build_request : (key : List ℕ) (j : JoinRequestParts) (room : ℕ) → Others
  build_accept : (key : List ℕ) (j : JoinAcceptParts) (channels : List ℕ) (room : ℕ) → Others
  -- writing a MAC command, also by its identifier and values or by six numbers, into so many bytes from a place on
  write_command : (c : Command) (room place : ℕ) → Others
  write_fields : (up : Bool) (id : ℕ) (values : List ℕ) (room place : ℕ) → Others
  write_numbers : (up : Bool) (numbers : List ℤ) (room place : ℕ) → Others
  -- the text of a frame, and of an input of n bytes: what reading refuses is a text, with number and place
  describe : (f out : List ℕ) → Others
  describe_input : (start : List ℕ) (n : ℕ) (out : List ℕ) → Others

abbrev pub others_refusal : Others → Refusal
others_refusal (amend s offset value) = refusal_in (amend_of s offset value).answer
others_refusal (amend_list s list) = refusal_in (amend_list_of s list).answer
others_refusal (take_out s room) = refusal_in (taken_of s room)
others_refusal (build_data nwk app d commands body room) =
    refusal_in (built_of (data_refusal_of d commands body room) (length (data_frame_of nwk app d commands body)))
others_refusal (build_kind kind nwk app d commands body room) =
    refusal_in (built_of (data_refused kind d commands body room) (length (data_frame_of nwk app d commands body)))
others_refusal (build_request key j room) = refusal_in (built_of (join_request_refusal room) (length (join_request_of key j)))
others_refusal (build_accept key j channels room) =
    refusal_in (built_of (join_accept_refusal_of j channels room) (length (join_accept_of key j channels)))
others_refusal (write_command c room place) = refusal_in (command_written c room place)
others_refusal (write_fields up id values room place) = refusal_in (fields_written up id values room place)
others_refusal (write_numbers up numbers room place) = refusal_in (numbers_written up numbers room place)
others_refusal (describe f out) = refusal_in (described_of (text_of f) out)
others_refusal (describe_input start n out) = refusal_in (described_of (text_of_input start n) out)

-- ---- of every call

pub data Call : Type 0 where
  reads : (f : List ℕ) → Reads f → Call
  others : Others → Call

abbrev pub refusal_of : Call → Refusal
refusal_of (reads f c) = reads_refusal f c
refusal_of (others c) = others_refusal c

-- the reader refuses, by r, the frame that the call reads first; never where it reads none
abbrev pub ReaderRefuses : Call → Refusal → Type 0
ReaderRefuses (reads f c) r = read_of f ≡ Err r
ReaderRefuses (others c) r = ⊥

-- the refusal r of a call, where the reader may refuse the call's frame, has its place from the reader
pub record Placed (Reader : Refusal → Type 0) (r : Refusal) : Type 0 where
  -- the reader's refusal is handed on, number and place
  pub handed_on : (s : Refusal) → Reader s → r ≡ s
  -- every other one is at place 0, 4 for an accepted frame of another type among them
  pub else_0 : ((s : Refusal) → Reader s → ⊥) → r.place ≡ 0
