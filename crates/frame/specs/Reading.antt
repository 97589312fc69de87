-- What reading gives, from docs/RULES.md, Reading and Refusals: the refusals in the order 12, 1, 2, 3, 4, each with its place,
-- and the fields of what is accepted.
-- Assumes nothing.
use Rattle.std.specs.Prelude.{List, Result, ℕ, ◌+◌, ◌-◌, ltb, eqb, length, Option, Some, None, Ok, Err}
use Rattle.base.specs.Bytes.{pick}
use Rattle.frame.specs.Faults.{Fault, too_long, too_short, version, type, join_length, header, fault_refusal}
use Rattle.frame.specs.Layout.{mtype, major, fctrl, fcnt, fhdr_length_of, fits_header, has_port_of, fport, payload_start_of, payload_end_of}
use Rattle.frame.specs.declared.parser.FrmPayload.{FrmPayload}
use Rattle.frame.specs.declared.parser.FrmPayload.TheVariants.{Nothing, Data as PlainData, MacCommands}
use Rattle.frame.specs.declared.parser.DataFrame.{DataFrame}
use Rattle.frame.specs.declared.parser.Frame.{Frame}
use Rattle.frame.specs.declared.refusals.Refusal.{Refusal}
use Rattle.frame.specs.declared.parser.Frame.TheVariants.{JoinRequest, JoinAccept, Data}

-- what reading gives: the frame by its kind, with its values, or a refusal
abbrev pub Reading : Type 0
Reading = Result Frame Refusal

-- a frame is refused for a fault, by its number and at its place
abbrev pub refuse : Fault → List ℕ → Reading
refuse x f = Err (fault_refusal x f)

unfoldable pub port_of : List ℕ → Option ℕ
port_of f = pick (has_port_of f) (Some (fport f)) None

-- 4.3.2, 4.3.3 what a port says of the bytes from start to end behind it, of which there may be none: commands on port 0, data
-- on another; nothing without a port
abbrev pub held_by_of : Option ℕ → ℕ → ℕ → FrmPayload
held_by_of None start end = Nothing
held_by_of (Some n) start end = pick (eqb n 0) (MacCommands start end) (PlainData start end)

unfoldable pub payload_of : List ℕ → FrmPayload
payload_of f = held_by_of (port_of f) (payload_start_of f) (payload_end_of f)

unfoldable pub data_of : List ℕ → DataFrame
data_of f =
    record {
      mtype = mtype f;
      fctrl = fctrl f;
      fcnt = fcnt f;
      fopts_end = 1 + fhdr_length_of f;
      port = port_of f;
      payload = payload_of f;
      mic = length f - 4;
    }

-- by the type, of a frame that is long enough and of the right version
unfoldable pub read_join_request_of : List ℕ → Reading
read_join_request_of f = pick (eqb (length f) 23) (Ok JoinRequest) (refuse join_length f)

unfoldable pub read_join_accept_of : List ℕ → Reading
read_join_accept_of f = pick (eqb (length f) 17) (Ok (JoinAccept 17)) (pick (eqb (length f) 33) (Ok (JoinAccept 33)) (refuse join_length f))

unfoldable pub read_data_of : List ℕ → Reading
read_data_of f = pick (fits_header f) (Ok (Data (data_of f))) (refuse header f)

unfoldable pub read_type_of : List ℕ → Reading
read_type_of f =
    pick (eqb (mtype f) 0) (read_join_request_of f)
    (pick (eqb (mtype f) 1) (read_join_accept_of f) (pick (ltb (mtype f) 6) (read_data_of f) (refuse type f)))

unfoldable pub read_of : List ℕ → Reading
read_of f =
    pick (ltb 255 (length f)) (refuse too_long f)
    (pick (ltb (length f) 12) (refuse too_short f) (pick (eqb (major f) 0) (read_type_of f) (refuse version f)))
