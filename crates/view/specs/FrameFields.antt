-- The fields of a frame, each as the place where it begins and its bytes, from LoRaWAN 1.0 sections 4.3, 4.4 and 6.2.4 (docs/RULES.md,
-- Reading). A field that a frame of its kind does not have is empty, and so is every field of a refused frame.
-- Assumes nothing.
use Rattle.std.specs.Prelude.{List, [], ℕ, ◌-◌, ◌%◌, length, Err, Ok}
use Rattle.base.specs.Bytes.{pick, at, part}
use Rattle.frame.specs.Layout.{dev_addr_of, has_port_of, payload_start_of, payload, mic_of, app_eui_at, dev_eui_at, dev_nonce_at, request_mic_at, app_eui_of, dev_eui_of, dev_nonce_of}
use Rattle.frame.specs.Reading.{Reading, read_of}
use Rattle.frame.specs.declared.parser.Frame.TheVariants.{JoinRequest, JoinAccept, Data}
use Rattle.view.specs.declared.parts.Field.{Field}
use Rattle.view.specs.declared.parts.Field.TheVariants.{DevAddr, FOpts, Payload, AppEui, DevEui, DevNonce, Mic}

-- 4.3.1.6 FOpts: as many bytes from 8 on as the low nibble of FCtrl says
abbrev pub fopts : List ℕ → List ℕ
fopts f = part 8 (at f 5 % 16) f

-- nothing
abbrev pub no_field : ℕ × List ℕ
no_field = (0, [])

-- of a data frame, where each begins with its bytes; one without a port has no payload
abbrev pub data_field : List ℕ → Field → ℕ × List ℕ
data_field f DevAddr = (1, dev_addr_of f)
data_field f FOpts = (8, fopts f)
data_field f Payload = pick (has_port_of f) (payload_start_of f, payload f) no_field
data_field f AppEui = no_field
data_field f DevEui = no_field
data_field f DevNonce = no_field
data_field f Mic = (length f - 4, mic_of f)

-- 6.2.4 of a join-request: AppEUI of eight bytes, DevEUI of eight, DevNonce of two, MIC of four
abbrev pub join_field : List ℕ → Field → ℕ × List ℕ
join_field f DevAddr = no_field
join_field f FOpts = no_field
join_field f Payload = no_field
join_field f AppEui = (app_eui_at, app_eui_of f)
join_field f DevEui = (dev_eui_at, dev_eui_of f)
join_field f DevNonce = (dev_nonce_at, dev_nonce_of f)
join_field f Mic = (request_mic_at, mic_of f)

abbrev pub field_in : Reading → List ℕ → Field → ℕ × List ℕ
field_in (Ok JoinRequest) f field = join_field f field
field_in (Ok (JoinAccept n)) f field = no_field
field_in (Ok (Data d)) f field = data_field f field
field_in (Err r) f field = no_field

-- by what reading gives of the frame
abbrev pub field_of : List ℕ → Field → ℕ × List ℕ
field_of f field = field_in (read_of f) f field
