-- What it means that a frame reads back which was built (docs/RULES.md, Building): what the other calls answer of it, said by what
-- went in. FCtrl is compared by its high nibble, the counter by its low half, RxDelay modulo 16, a list of channels filled up
-- with zeros to five.
-- Assumes nothing.
use Rattle.std.specs.Prelude.{◌≡◌, Bool, List, ◌++◌, ℕ, ◌+◌, ◌-◌, ◌/◌, ◌%◌, length, take, Ok, true, Option, Some, None}
use Rattle.base.specs.Bytes.{pick, at, tab, part}
use Rattle.frame.specs.JoinFields.{join_request_fields_of, join_accept_fields_of}
use Rattle.frame.specs.Layout.{mtype, dev_addr_of, fctrl, fcnt, fhdr_length_of, header, payload, payload_start_of, payload_end_of, mic_of}
use Rattle.frame.specs.Reading.{port_of, held_by_of, payload_of, data_of, read_of}
use Rattle.frame.specs.declared.join_fields.CfList.{CfList}
use Rattle.frame.specs.declared.join_fields.CfList.TheVariants.{Frequencies}
use Rattle.frame.specs.declared.join_fields.JoinAcceptFields.{JoinAcceptFields}
use Rattle.frame.specs.declared.join_fields.JoinRequestFields.{JoinRequestFields}
use Rattle.frame.specs.declared.parser.Frame.TheVariants.{JoinRequest, JoinAccept, Data}
use Rattle.frame_security.specs.Security.{crypted, frame_key, data_mic_of, join_mic}
use Rattle.frame_opening.specs.CheckedOpening.{data_opened_checked, accept_opened_checked}
use Rattle.frame_opening.specs.FrameOpening.{outcome, data_test_of, data_opened, join_request_test, join_accept_test}
use Rattle.frame_build.specs.DataBuilding.{fopts_of, body_of, data_header}
use Rattle.frame_build.specs.JoinBuilding.{join_accept_body, join_accept_length, join_request_body}
use Rattle.frame_build.specs.JoinFrames.{signed}
use Rattle.frame_build.specs.declared.creator.data_frame.DataParts.{DataParts}
use Rattle.frame_build.specs.declared.creator.join.JoinAcceptParts.{JoinAcceptParts}
use Rattle.frame_build.specs.declared.creator.join.JoinRequestParts.{JoinRequestParts}
use Rattle.amend.specs.OpenFrame.{opened_of, open_of}

-- a claim holds of every outcome of a call that its contract allows: of its arguments, its answer and what it was lent as it
-- returns
abbrev pub Always : {K : Type 0} {D R S : K → Type 0} → ((κs : K) → D κs → R κs → S κs → Type 0)
    → ((κs : K) → D κs → R κs → S κs → Type 0)
    → Type 0
Always {K} {D} {R} {S} post claim = (κs : K) (a : D κs) (r : R κs) (s : S κs) → post κs a r s → claim κs a r s

-- ---- a data frame f

-- what reading gives, and what lies in the frame
pub record DataBack (nwk app : List ℕ) (d : DataParts) (commands body f : List ℕ) : Type 0 where
  pub reads : read_of f ≡ Ok (Data (data_of f))
  pub type : mtype f ≡ pick d.confirmed 4 2 + pick d.uplink 0 1
  pub address : dev_addr_of f ≡ d.dev_addr
  -- FCtrl by its high nibble, the counter by its low half
  pub control : fctrl f / 16 ≡ d.fctrl / 16
  pub count : fcnt f ≡ d.fcnt % 65536
  -- FOpts lie from 8 on and end where reading says
  pub fopts_end : 1 + fhdr_length_of f ≡ 8 + length (fopts_of d.port commands)
  pub fopts : part 8 (length (fopts_of d.port commands)) f ≡ fopts_of d.port commands
  -- the port, or none, as it was given, and what it says of the bytes behind it, also where there are none
  pub port : port_of f ≡ d.port
  pub held : payload_of f ≡ held_by_of d.port (payload_start_of f) (payload_end_of f)
  -- header, clear payload or commands, MIC
  pub header_back : header f ≡ data_header d commands
  pub payload_back : crypted (frame_key f nwk app) (header f) d.fcnt (payload f) ≡ body_of d.port commands body
  pub mic_back : mic_of f ≡ data_mic_of nwk (take (length f - 4) f) d.fcnt

-- its MIC passes, it opens to the clear payload or commands, plain and checked, and it opens for amendments
pub record DataOpens (nwk app : List ℕ) (d : DataParts) (commands body f : List ℕ) : Type 0 where
  pub passes : data_test_of nwk d.fcnt f ≡ (Ok true)
  pub opens : data_opened (Some nwk) (Some app) d.fcnt f
      ≡ outcome (Ok tt) (data_header d commands ++ (body_of d.port commands body ++ mic_of f))
  pub opens_checked : data_opened_checked nwk (Some app) d.fcnt f
      ≡ outcome (Ok tt) (data_header d commands ++ (body_of d.port commands body ++ mic_of f))
  pub opens_to_amend : open_of f nwk app d.fcnt ≡ Ok (opened_of f nwk app d.fcnt)

pub record DataReadsBack (nwk app : List ℕ) (d : DataParts) (commands body f : List ℕ) : Type 0 where
  pub back : DataBack nwk app d commands body f
  pub opens : DataOpens nwk app d commands body f

-- ---- a join-request f: it is read as one, its MIC passes, and the field call gives what went in

abbrev pub request_record : List ℕ → List ℕ → List ℕ → List ℕ → JoinRequestFields
request_record a d n m = record { app_eui = a; dev_eui = d; dev_nonce = n; mic = m }

pub record RequestReadsBack (key : List ℕ) (j : JoinRequestParts) (f : List ℕ) : Type 0 where
  pub reads : read_of f ≡ (Ok JoinRequest)
  pub passes : join_request_test key f ≡ (Ok true)
  pub fields : join_request_fields_of f
      ≡ Ok (request_record j.app_eui j.dev_eui j.dev_nonce (join_mic key (join_request_body j)))

-- ---- a join-accept f: it opens, checked, and what that leaves is read as one, passes and gives what went in

abbrev pub accept_record : JoinAcceptParts → List ℕ → List ℕ → List ℕ → Option CfList → JoinAcceptFields
accept_record j nonce net address l =
    record {
      app_nonce = nonce;
      net_id = net;
      dev_addr = address;
      dl_settings = j.dl_settings;
      rx_delay = j.rx_delay % 16;
      cf_list = l;
    }

-- with a list its channels, filled up with zeros to five; without one none
abbrev pub listed_fields : JoinAcceptParts → List ℕ → Bool → JoinAcceptFields
listed_fields j channels list =
    accept_record j j.app_nonce j.net_id j.dev_addr (pick list (Some (Frequencies (tab 5 (at channels)))) None)

abbrev pub built_fields : JoinAcceptParts → List ℕ → JoinAcceptFields
built_fields j channels = listed_fields j channels j.with_c_f_list

pub record AcceptReadsBack (key : List ℕ) (j : JoinAcceptParts) (channels f : List ℕ) : Type 0 where
  pub reads : read_of f ≡ Ok (JoinAccept (join_accept_length j))
  pub opens : accept_opened_checked key f ≡ outcome (Ok tt) (signed key (join_accept_body j channels))
  pub clear_reads : read_of (accept_opened_checked key f).bytes ≡ Ok (JoinAccept (join_accept_length j))
  pub passes : join_accept_test key (accept_opened_checked key f).bytes ≡ (Ok true)
  pub fields : join_accept_fields_of (accept_opened_checked key f).bytes ≡ Ok (built_fields j channels)
