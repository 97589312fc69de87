-- The text that `show` writes for a frame, from docs/RULES.md, Text: what stands in each line, byte by byte in ASCII.
-- A line is a word, a value and a line end (10). Hex is lower case and in frame order, numbers are decimal.
-- Assumes nothing.
use Rattle.std.specs.Prelude.{List, [], ◌∷◌, ◌++◌, ℕ, zero, suc, ◌+◌, ◌-◌, ◌/◌, ◌%◌, ◌≤◌, ◌<◌, ltb, length, drop, Option, Some, None, Result, Ok, Err}
use Rattle.base.specs.Bytes.{pick}
use Rattle.frame.specs.Layout.{dev_addr_of, mic_of, app_eui_of, dev_eui_of, dev_nonce_of}
use Rattle.frame.specs.Reading.{Reading, read_of}
use Rattle.frame.specs.Refusals.{refusal, refused}
use Rattle.frame.specs.declared.refusals.Refusal.{Refusal}
use Rattle.frame.specs.declared.parser.FrmPayload.{FrmPayload}
use Rattle.frame.specs.declared.parser.FrmPayload.TheVariants.{Nothing, Data as PlainData, MacCommands}
use Rattle.frame.specs.declared.parser.DataFrame.{DataFrame}
use Rattle.frame.specs.declared.parser.Frame.TheVariants.{JoinRequest, JoinAccept, Data}

-- ---- digits

-- the digit of a number below 16: 0 to 9 from 48 on, a to f from 97 on
unfoldable pub digit_of : ℕ → ℕ
digit_of n = pick (ltb n 10) (48 + n) (97 + (n - 10))

-- two digits for each byte
unfoldable pub hex_of : List ℕ → List ℕ
hex_of [] = []
hex_of (b ∷ s) = digit_of (b / 16) ∷ digit_of (b % 16) ∷ hex_of s

-- the number in decimal, without leading zeros, if it has at most k digits; of a longer one the last k
unfoldable pub decimal_in : ℕ → ℕ → List ℕ
decimal_in zero n = []
decimal_in (suc k) n = pick (ltb n 10) (digit_of n ∷ []) (decimal_in k (n / 10) ++ digit_of (n % 10) ∷ [])

-- the number in decimal: one of 64 bits has at most twenty digits
unfoldable pub decimal_of : ℕ → List ℕ
decimal_of n = decimal_in 20 n

-- ---- words

-- "type "
abbrev pub type_word : List ℕ
type_word = 116 ∷ 121 ∷ 112 ∷ 101 ∷ 32 ∷ []

-- "length "
abbrev pub length_word : List ℕ
length_word = 108 ∷ 101 ∷ 110 ∷ 103 ∷ 116 ∷ 104 ∷ 32 ∷ []

-- "addr "
abbrev pub addr_word : List ℕ
addr_word = 97 ∷ 100 ∷ 100 ∷ 114 ∷ 32 ∷ []

-- "fctrl "
abbrev pub fctrl_word : List ℕ
fctrl_word = 102 ∷ 99 ∷ 116 ∷ 114 ∷ 108 ∷ 32 ∷ []

-- "fcnt "
abbrev pub fcnt_word : List ℕ
fcnt_word = 102 ∷ 99 ∷ 110 ∷ 116 ∷ 32 ∷ []

-- "fopts "
abbrev pub fopts_word : List ℕ
fopts_word = 102 ∷ 111 ∷ 112 ∷ 116 ∷ 115 ∷ 32 ∷ []

-- "port "
abbrev pub port_word : List ℕ
port_word = 112 ∷ 111 ∷ 114 ∷ 116 ∷ 32 ∷ []

-- "payload "
abbrev pub payload_word : List ℕ
payload_word = 112 ∷ 97 ∷ 121 ∷ 108 ∷ 111 ∷ 97 ∷ 100 ∷ 32 ∷ []

-- "mic "
abbrev pub mic_word : List ℕ
mic_word = 109 ∷ 105 ∷ 99 ∷ 32 ∷ []

-- "app "
abbrev pub app_word : List ℕ
app_word = 97 ∷ 112 ∷ 112 ∷ 32 ∷ []

-- "dev "
abbrev pub dev_word : List ℕ
dev_word = 100 ∷ 101 ∷ 118 ∷ 32 ∷ []

-- "nonce "
abbrev pub nonce_word : List ℕ
nonce_word = 110 ∷ 111 ∷ 110 ∷ 99 ∷ 101 ∷ 32 ∷ []

-- "refused "
abbrev pub refused_word : List ℕ
refused_word = 114 ∷ 101 ∷ 102 ∷ 117 ∷ 115 ∷ 101 ∷ 100 ∷ 32 ∷ []

-- " at "
abbrev pub at_word : List ℕ
at_word = 32 ∷ 97 ∷ 116 ∷ 32 ∷ []

-- "none"
abbrev pub none : List ℕ
none = 110 ∷ 111 ∷ 110 ∷ 101 ∷ []

abbrev pub space : List ℕ
space = 32 ∷ []

abbrev pub newline : List ℕ
newline = 10 ∷ []

-- ---- lines

abbrev pub line : List ℕ → List ℕ → List ℕ
line word value = word ++ value ++ newline

unfoldable pub hex_line_of : List ℕ → List ℕ → List ℕ
hex_line_of word bytes = line word (hex_of bytes)

unfoldable pub number_line : List ℕ → ℕ → List ℕ
number_line word n = line word (decimal_of n)

unfoldable pub port_line : Option ℕ → List ℕ
port_line None = line port_word none
port_line (Some p) = number_line port_word p

-- two numbers, each after a word of its own
unfoldable pub pair_line : List ℕ → ℕ → List ℕ → ℕ → List ℕ
pair_line word m between n = word ++ decimal_of m ++ number_line between n

-- a place and a length
unfoldable pub place_line : ℕ → ℕ → List ℕ
place_line start end = pair_line payload_word start space (end - start)

unfoldable pub payload_line : FrmPayload → List ℕ
payload_line Nothing = line payload_word none
payload_line (PlainData start end) = place_line start end
payload_line (MacCommands start end) = place_line start end

-- a payload whose end is not ahead of its start, both below 100,000
abbrev pub Spans : FrmPayload → Type 0
Spans Nothing = Unit
Spans (PlainData start end) = (start ≤ end) × (end < 100000)
Spans (MacCommands start end) = (start ≤ end) × (end < 100000)

-- ---- the texts

-- a data frame: eight lines, four of them from the fixed places of its header
unfoldable pub header_text : List ℕ → DataFrame → List ℕ
header_text f d =
    number_line type_word d.mtype ++ hex_line_of addr_word (dev_addr_of f) ++ hex_line_of fctrl_word (d.fctrl ∷ [])
    ++ number_line fcnt_word d.fcnt

unfoldable pub rest_text : List ℕ → DataFrame → List ℕ
rest_text f d =
    number_line fopts_word (d.fopts_end - 8) ++ port_line d.port ++ payload_line d.payload ++ hex_line_of mic_word (mic_of f)

unfoldable pub data_text : List ℕ → DataFrame → List ℕ
data_text f d = header_text f d ++ rest_text f d

-- a join-request: AppEUI, DevEUI, DevNonce and MIC
abbrev pub euis_text : List ℕ → List ℕ
euis_text f = number_line type_word 0 ++ hex_line_of app_word (app_eui_of f) ++ hex_line_of dev_word (dev_eui_of f)

unfoldable pub join_request_text : List ℕ → List ℕ
join_request_text f = euis_text f ++ hex_line_of nonce_word (dev_nonce_of f) ++ hex_line_of mic_word (mic_of f)

unfoldable pub join_accept_text : ℕ → List ℕ
join_accept_text n = number_line type_word 1 ++ number_line length_word n

-- a refusal: its number and its place
unfoldable pub refusal_text : Refusal → List ℕ
refusal_text r = pair_line refused_word r.number at_word r.place

unfoldable pub text_of_reading : List ℕ → Reading → List ℕ
text_of_reading f (Ok JoinRequest) = join_request_text f
text_of_reading f (Ok (JoinAccept n)) = join_accept_text n
text_of_reading f (Ok (Data d)) = data_text f d
text_of_reading f (Err r) = refusal_text r

unfoldable pub text_of : List ℕ → List ℕ
text_of f = text_of_reading f (read_of f)

-- an input of n bytes that begins with start: up to 255 it is start, and more are too many, whatever they are
unfoldable pub text_of_input : List ℕ → ℕ → List ℕ
text_of_input start n = pick (ltb 255 n) (refusal_text (refusal 12 n)) (text_of start)

-- ---- the text in a lent buffer

-- a buffer of so many bytes has room for every text
abbrev pub text_room : ℕ
text_room = 128

-- what is answered: the text's length, or 7 where the buffer is too short
unfoldable pub described_of : List ℕ → List ℕ → Result ℕ Refusal
described_of text out = pick (ltb (length out) text_room) (Err (refused 7)) (Ok (length text))

-- the buffer afterwards: the text at its start, and nothing changed where it is too short
unfoldable pub described_in : List ℕ → List ℕ → List ℕ
described_in text out = pick (ltb (length out) text_room) out (text ++ drop (length text) out)
