-- A reading as one number of 64 bits, for callers across C: fields of so many bits each, from the lowest bit up. The lowest
-- eight are the number of the refusal, 0 where the frame is accepted; `bits_of` says what lies above.
-- Assumes nothing.
use Rattle.std.specs.Prelude.{List, [], ◌∷◌, ℕ, zero, suc, ◌+◌, ◌-◌, ◌*◌, ◌%◌, ◌^◌, ◌<◌, Err, Ok}
use Rattle.base.specs.Bytes.{pick}
use Rattle.frame.specs.Layout.{fhdr_length_of, header_end_of}
use Rattle.frame.specs.Reading.{port_of, payload_of}
use Rattle.frame.specs.ReadingNumbers.{port_given_of, port_number_of, payload_kind_of}
use Rattle.frame.specs.declared.parser.FrmPayload.{FrmPayload}
use Rattle.frame.specs.declared.parser.FrmPayload.TheVariants.{Nothing, Data as PlainData, MacCommands}
use Rattle.frame.specs.declared.parser.DataFrame.{DataFrame}
use Rattle.frame.specs.Reading.{Reading}
use Rattle.frame.specs.declared.parser.Frame.TheVariants.{JoinRequest, JoinAccept, Data}

-- ---- numbers made of fields

-- a field: how many bits it has, and its value
pub record Bits : Type 0 where
  pub wide : ℕ
  pub value : ℕ

abbrev pub bits : ℕ → ℕ → Bits
bits w v = record { wide = w; value = v }

-- the number that has these fields, the first in its lowest bits
abbrev pub packed : List Bits → ℕ
packed [] = 0
packed (b ∷ bs) = packed bs * 2 ^ b.wide + b.value

-- the i-th field, and the bit that it begins at
abbrev pub nth : List Bits → ℕ → Bits
nth [] i = bits 0 0
nth (b ∷ bs) zero = b
nth (b ∷ bs) (suc i) = nth bs i

abbrev pub bit_at : List Bits → ℕ → ℕ
bit_at [] i = 0
bit_at (b ∷ bs) zero = 0
bit_at (b ∷ bs) (suc i) = b.wide + bit_at bs i

-- every value fits its bits
abbrev pub Fit : List Bits → Type 0
Fit [] = Unit {0}
Fit (b ∷ bs) = (b.value < 2 ^ b.wide) × Fit bs

-- ---- a number with a value above it

-- what is left of 64 bits are 56, so that the value counts modulo 2 ^ 56
abbrev pub numbered_bits_of : ℕ → ℕ → List Bits
numbered_bits_of number value = bits 8 number ∷ bits 56 (value % 2 ^ 56) ∷ []

unfoldable pub numbered : ℕ → ℕ → ℕ
numbered number value = packed (numbered_bits_of number value)

-- ---- a reading

-- the place of the payload's first byte, which is that of the MIC where there is no payload
abbrev pub payload_at : ℕ → FrmPayload → ℕ
payload_at mic Nothing = mic
payload_at mic (PlainData a b) = a
payload_at mic (MacCommands a b) = a

-- of an accepted frame: the type from bit 8 on, whether a port is reported (11), the payload's kind (12), two zero bits
-- (14), the port (16), the places of payload (24) and MIC (32), FCtrl (40), FCnt (48). FOpts end at 8 + FCtrl % 16.
abbrev pub accepted : ℕ → ℕ → ℕ → ℕ → ℕ → ℕ → ℕ → ℕ → List Bits
accepted type given kind port start mic fctrl fcnt =
    bits 8 0 ∷ bits 3 type ∷ bits 1 given ∷ bits 2 kind ∷ bits 2 0 ∷ bits 8 port ∷ bits 8 start ∷ bits 8 mic ∷ bits 8 fctrl
    ∷ bits 16 fcnt ∷ []

-- of a join message of n bytes, which has neither port nor payload
abbrev pub bits_of_join : ℕ → ℕ → List Bits
bits_of_join type n = accepted type 0 0 0 (n - 4) (n - 4) 0 0

abbrev pub bits_of_data : DataFrame → List Bits
bits_of_data d =
    accepted d.mtype (pick (port_given_of d.port) 1 0) (payload_kind_of d.payload) (port_number_of d.port)
    (payload_at d.mic d.payload) d.mic d.fctrl d.fcnt

-- of a refused one: its number, and above it the place
abbrev pub bits_of : Reading → List Bits
bits_of (Ok JoinRequest) = bits_of_join 0 23
bits_of (Ok (JoinAccept n)) = bits_of_join 1 n
bits_of (Ok (Data d)) = bits_of_data d
bits_of (Err r) = numbered_bits_of r.number r.place

unfoldable pub packed_of : Reading → ℕ
packed_of r = packed (bits_of r)

-- ---- of a data frame, what its port decides: whether one is reported, the payload's kind, the port, and at bit 24 how many
-- bytes lie between FOpts and payload
unfoldable pub port_bits_of : List ℕ → ℕ
port_bits_of f =
    pick (port_given_of (port_of f)) 1 0 * 2048 + payload_kind_of (payload_of f) * 4096 + port_number_of (port_of f) * 65536
    + (header_end_of f - (1 + fhdr_length_of f)) * 16777216
