-- What the codec's calls take of the numbers and bytes that a caller in C gives: keys that may be given, the parts of a frame to
-- build, and the refusals of a type that is not one of data.
-- Assumes nothing.
use Rattle.std.specs.Prelude.{Bool, List, [], ◌∷◌, ℕ, ◌/◌, ◌%◌, ltb, eqb, None, Option, Some}
use Rattle.std.specs.Bool.{then_some}
use Rattle.base.specs.Bytes.{pick, at}
use Rattle.frame_bits.specs.Fctrl.{uplink_of, confirmed_of}
use Rattle.frame_build.specs.declared.creator.data_frame.DataParts.{DataParts}
use Rattle.frame_build.specs.declared.creator.join.JoinAcceptParts.{JoinAcceptParts}
use Rattle.frame_build.specs.DataBuilding.{data_refusal_of}
use Rattle.frame_build.specs.declared.creator.join.JoinRequestParts.{JoinRequestParts}

-- of AppNonce, NetID, DevAddr, DLSettings and RxDelay, twelve bytes in frame order
unfoldable pub accept_parts_of : List ℕ → Bool → JoinAcceptParts
accept_parts_of f with_list =
    record {
      app_nonce = at f 0 ∷ at f 1 ∷ at f 2 ∷ [];
      net_id = at f 3 ∷ at f 4 ∷ at f 5 ∷ [];
      dev_addr = at f 6 ∷ at f 7 ∷ at f 8 ∷ at f 9 ∷ [];
      dl_settings = at f 10;
      rx_delay = at f 11;
      with_c_f_list = with_list;
    }

-- a port is below 256; a number above says that there is none
unfoldable pub port_given_by : ℕ → Option ℕ
port_given_by n = pick (ltb n 256) (Some n) None

-- a data frame, by its type
abbrev pub data_parts_of : ℕ → List ℕ → ℕ → ℕ → ℕ → DataParts
data_parts_of kind dev_addr_of fctrl counter port =
    record {
      confirmed = confirmed_of kind;
      uplink = uplink_of kind;
      dev_addr = dev_addr_of;
      fctrl = fctrl;
      fcnt = counter;
      port = port_given_by port;
    }

-- which keys are given: 1 the network key, 2 the application key, 3 both
unfoldable pub nwk_given : ℕ → List ℕ → Option (List ℕ)
nwk_given keys key = then_some (eqb (keys % 2) 1) key

unfoldable pub app_given : ℕ → List ℕ → Option (List ℕ)
app_given keys key = then_some (eqb (keys / 2 % 2) 1) key

abbrev pub request_parts_of : List ℕ → List ℕ → List ℕ → JoinRequestParts
request_parts_of app_eui_of dev_eui_of dev_nonce_of =
    record { app_eui = app_eui_of; dev_eui = dev_eui_of; dev_nonce = dev_nonce_of }

-- 4 where the type is that of a join message, 0 or 1, which other calls build; 3 where it is above 5; then what building refuses
unfoldable pub data_refused : ℕ → DataParts → List ℕ → List ℕ → ℕ → ℕ
data_refused kind d commands payload room =
    pick (ltb kind 2) 4 (pick (ltb 5 kind) 3 (data_refusal_of d commands payload room))
