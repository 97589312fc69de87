-- The layout of a frame, from LoRaWAN 1.0 sections 4 and 6.2 (docs/RULES.md, Reading): which bytes of it are what. Each is a
-- plain function of the bytes; whether the frame is one that has the field is said by `Reading`.
-- Assumes nothing.
use Rattle.std.specs.Prelude.{Bool, List, ℕ, ◌+◌, ◌-◌, ◌*◌, ◌/◌, ◌%◌, min, leb, length, take, drop}
use Rattle.base.specs.Bytes.{at, part}

-- 4.2.1 MType: bits 5 to 7 of the first byte
abbrev pub mtype : List ℕ → ℕ
mtype f = at f 0 / 32

-- 4.2.2 Major: its two low bits
abbrev pub major : List ℕ → ℕ
major f = at f 0 % 4

-- the direction bit, bit 5 of the first byte: 0 up, 1 down
abbrev pub direction : List ℕ → ℕ
direction f = at f 0 / 32 % 2

-- 4.3.1 DevAddr, in frame order
abbrev pub dev_addr_of : List ℕ → List ℕ
dev_addr_of f = part 1 4 f

-- 4.3.1 FCtrl, and FOptsLen in its low nibble
abbrev pub fctrl : List ℕ → ℕ
fctrl f = at f 5

-- 4.3.1 the length H of FHDR: address, FCtrl, FCnt and FOpts
abbrev pub fhdr_length_of : List ℕ → ℕ
fhdr_length_of f = 7 + at f 5 % 16

-- 4.3.1.5 FCnt, low byte first
abbrev pub fcnt : List ℕ → ℕ
fcnt f = at f 6 + at f 7 * 256

-- a frame long enough for its own FHDR and the MIC
abbrev pub fits_header : List ℕ → Bool
fits_header f = leb (5 + fhdr_length_of f) (length f)

-- 4.3.2 a port is there as soon as there is a byte between FHDR and MIC
abbrev pub has_port_of : List ℕ → Bool
has_port_of f = leb (fhdr_length_of f + 6) (length f)

abbrev pub fport : List ℕ → ℕ
fport f = at f (1 + fhdr_length_of f)

-- 4.3.3 the place of the payload's first byte, and the place past its last
abbrev pub payload_start_of : List ℕ → ℕ
payload_start_of f = fhdr_length_of f + 2

abbrev pub payload_end_of : List ℕ → ℕ
payload_end_of f = length f - 4

-- A data frame is its header (every byte ahead of payload and MIC, the port byte included), payload and MIC.
abbrev pub header_end_of : List ℕ → ℕ
header_end_of f = min (payload_start_of f) (payload_end_of f)

abbrev pub header : List ℕ → List ℕ
header f = take (header_end_of f) f

abbrev pub payload : List ℕ → List ℕ
payload f = part (header_end_of f) (payload_end_of f - header_end_of f) f

-- 4.4 MIC: the last four bytes
abbrev pub mic_of : List ℕ → List ℕ
mic_of f = drop (length f - 4) f

-- ---- 6.2.4 join-request: where each field begins, and the field in frame order

abbrev pub app_eui_at : ℕ
app_eui_at = 1

abbrev pub dev_eui_at : ℕ
dev_eui_at = 9

abbrev pub dev_nonce_at : ℕ
dev_nonce_at = 17

abbrev pub request_mic_at : ℕ
request_mic_at = 19

abbrev pub app_eui_of : List ℕ → List ℕ
app_eui_of f = part app_eui_at 8 f

abbrev pub dev_eui_of : List ℕ → List ℕ
dev_eui_of f = part dev_eui_at 8 f

abbrev pub dev_nonce_of : List ℕ → List ℕ
dev_nonce_of f = part dev_nonce_at 2 f

-- ---- 6.2.5 clear join-accept

abbrev pub app_nonce_of : List ℕ → List ℕ
app_nonce_of f = part 1 3 f

abbrev pub net_id_of : List ℕ → List ℕ
net_id_of f = part 4 3 f

-- DevAddr of a join-accept
abbrev pub accept_addr : List ℕ → List ℕ
accept_addr f = part 7 4 f

abbrev pub dl_settings_of : List ℕ → ℕ
dl_settings_of f = at f 11

-- RxDelay, of which the low nibble counts
abbrev pub rx_delay_of : List ℕ → ℕ
rx_delay_of f = at f 12 % 16

-- CFList: where it begins, and the byte that says what it holds
abbrev pub cf_list_at : ℕ
cf_list_at = 13

abbrev pub cf_list_type : List ℕ → ℕ
cf_list_type f = at f 28
