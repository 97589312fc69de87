-- The numbers and values of docs/RULES.md for each case of the reader's answers, and what a call gives that needs a frame of
-- another type: a refused reading keeps its number and place, any other answers 4 at place 0.
-- Assumes nothing.
use Rattle.std.specs.Prelude.{Bool, Result, is_some, unwrap_or, false, ℕ, Err, Ok, Option}
use Rattle.frame.specs.Refusals.{refused, by_result}
use Rattle.frame.specs.declared.refusals.Refusal.{Refusal}
use Rattle.frame.specs.declared.parser.FrmPayload.{FrmPayload}
use Rattle.frame.specs.declared.parser.FrmPayload.TheVariants.{Nothing, Data as PlainData, MacCommands}
use Rattle.frame.specs.declared.parser.DataFrame.{DataFrame}
use Rattle.frame.specs.declared.numbers.Values.{Values}
use Rattle.frame.specs.Reading.{Reading}
use Rattle.frame.specs.declared.parser.Frame.TheVariants.{JoinRequest, JoinAccept, Data}

-- ---- the port: whether it is there, and its number

abbrev pub port_given_of : Option ℕ → Bool
port_given_of port = is_some port

abbrev pub port_number_of : Option ℕ → ℕ
port_number_of port = unwrap_or port 0

-- ---- the payload: 0 none, 1 data, 2 commands; its places

abbrev pub payload_kind_of : FrmPayload → ℕ
payload_kind_of Nothing = 0
payload_kind_of (PlainData a b) = 1
payload_kind_of (MacCommands a b) = 2

abbrev pub payload_from_of : FrmPayload → ℕ
payload_from_of Nothing = 0
payload_from_of (PlainData a b) = a
payload_from_of (MacCommands a b) = a

abbrev pub payload_to_of : FrmPayload → ℕ
payload_to_of Nothing = 0
payload_to_of (PlainData a b) = b
payload_to_of (MacCommands a b) = b

-- ---- a reading: its number (0 where it is accepted), and its place

abbrev pub number_of : Reading → ℕ
number_of (Ok JoinRequest) = 0
number_of (Ok (JoinAccept n)) = 0
number_of (Ok (Data d)) = 0
number_of (Err r) = r.number

abbrev pub place_of : Reading → ℕ
place_of (Ok JoinRequest) = 0
place_of (Ok (JoinAccept n)) = 0
place_of (Ok (Data d)) = 0
place_of (Err r) = r.place

-- ---- all its values, after the kind: 0 refused, 1 join-request, 2 join-accept, 3 data

unfoldable pub plain_values_of : ℕ → ℕ → ℕ → ℕ → Values
plain_values_of k n p l =
    record {
      kind = k;
      number = n;
      place = p;
      accept_len = l;
      mtype = 0;
      fctrl = 0;
      fcnt = 0;
      fopts_end = 0;
      port_given = false;
      port = 0;
      payload_kind = 0;
      payload_from = 0;
      payload_to = 0;
      mic = 0;
    }

unfoldable pub data_values_of : DataFrame → Values
data_values_of d =
    record {
      kind = 3;
      number = 0;
      place = 0;
      accept_len = 0;
      mtype = d.mtype;
      fctrl = d.fctrl;
      fcnt = d.fcnt;
      fopts_end = d.fopts_end;
      port_given = port_given_of d.port;
      port = port_number_of d.port;
      payload_kind = payload_kind_of d.payload;
      payload_from = payload_from_of d.payload;
      payload_to = payload_to_of d.payload;
      mic = d.mic;
    }

abbrev pub values_of : Reading → Values
values_of (Ok JoinRequest) = plain_values_of 1 0 0 0
values_of (Ok (JoinAccept n)) = plain_values_of 2 0 0 n
values_of (Ok (Data d)) = data_values_of d
values_of (Err r) = plain_values_of 0 r.number r.place 0

-- ---- for a call that needs a frame of one type

-- the refusal that a reading of another type gives: 4, or its own
abbrev pub other_refusal_of : Reading → Refusal
other_refusal_of (Ok JoinRequest) = refused 4
other_refusal_of (Ok (JoinAccept n)) = refused 4
other_refusal_of (Ok (Data d)) = refused 4
other_refusal_of (Err r) = r

-- the frame of that type, or the refusal of the call
abbrev pub request_in : Reading → Result (Unit {0}) Refusal
request_in (Ok JoinRequest) = Ok tt
request_in (Ok (JoinAccept n)) = Err (refused 4)
request_in (Ok (Data d)) = Err (refused 4)
request_in (Err r) = Err r

abbrev pub accept_in : Reading → Result ℕ Refusal
accept_in (Ok JoinRequest) = Err (refused 4)
accept_in (Ok (JoinAccept n)) = Ok n
accept_in (Ok (Data d)) = Err (refused 4)
accept_in (Err r) = Err r

abbrev pub data_in : Reading → Result DataFrame Refusal
data_in (Ok JoinRequest) = Err (refused 4)
data_in (Ok (JoinAccept n)) = Err (refused 4)
data_in (Ok (Data d)) = Ok d
data_in (Err r) = Err r

-- what the call gives: the first of the type that it needs, the second at the refusal of any other
abbrev pub on_request : {A : Type 0} → A → (Refusal → A) → Reading → A
on_request a e r = by_result (λ u. a) e (request_in r)

abbrev pub on_accept : {A : Type 0} → (ℕ → A) → (Refusal → A) → Reading → A
on_accept a e r = by_result a e (accept_in r)

abbrev pub on_data : {A : Type 0} → (DataFrame → A) → (Refusal → A) → Reading → A
on_data a e r = by_result a e (data_in r)
