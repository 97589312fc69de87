-- The examples of docs/RULES.md, P1 to P17, for the definitions themselves: one statement over one list. Each row is
-- computed.
-- Assumes nothing.
use Rattle.frame.specs.declared.refusals.Refusal.{Refusal}
use Rattle.std.specs.Prelude.{Err, None, Ok, Option, Result, Some}
use mathlib.Core.Path.{◌≡◌, refl, ap}
use mathlib.Core.Bool.{Bool}
use mathlib.Core.List.{List, [], ◌∷◌}
use Prim.Native.Nat.{ℕ, ◌+◌, ◌*◌}
use lib.ListN.{length}
use Rattle.base.specs.Bytes.{tab}
use Rattle.frame_build.specs.DataBuilding.{data_header, data_length, data_refusal_of, fixed_header_of}
use Rattle.frame_build.specs.DataFrames.{built_of, data_frame_of}
use Rattle.frame_security.specs.Security.{full_counter_of}
use Rattle.frame.specs.Refusals.{refusal, refused}
use Rattle.frame_build.specs.declared.creator.data_frame.DataParts.{DataParts}
use Rattle.frame_build.proofs.DataBuiltLaws.{frame_long}
use Rattle.frame.specs.Reading.{port_of, payload_of, data_of, read_join_request_of, read_join_accept_of, read_data_of, read_type_of, read_of}
use Rattle.frame.specs.declared.parser.FrmPayload.{FrmPayload}
use Rattle.frame.specs.declared.parser.FrmPayload.TheVariants.{Nothing, Data as PlainData, MacCommands}
use Rattle.frame.specs.Reading.{Reading}
use Rattle.frame.specs.declared.parser.Frame.TheVariants.{JoinRequest, JoinAccept, Data}

-- what a row of building leaves open: keys, kind, address, the counter, and the bytes of commands and payload
pub record Open : Type 0 where
  pub nwk : List ℕ
  pub app : List ℕ
  pub confirmed : Bool
  pub uplink : Bool
  pub counter : ℕ
  pub bytes : ℕ → ℕ

abbrev pub on_port_one : Open → DataParts
on_port_one o =
    record {
      confirmed = o.confirmed;
      uplink = o.uplink;
      dev_addr = tab 4 o.bytes;
      fctrl = 0;
      fcnt = o.counter;
      port = Some 1;
    }

-- the answer of building into 255 bytes
abbrev pub answer_of : Open → List ℕ → List ℕ → (Result ℕ Refusal)
answer_of o commands payload =
    built_of (data_refusal_of (on_port_one o) commands payload 255)
    (length (data_frame_of o.nwk o.app (on_port_one o) commands payload))

-- reads: a frame, and the answer to it, whatever the bytes are that the example leaves open
-- counts: a counter, a frame's FCnt, and the full counter
-- builds: on port 1 with so many commands and so many bytes of payload, and the answer, whatever else is given
pub data Row : Type 0 where
  reads : ((ℕ → ℕ) → List ℕ) → ((ℕ → ℕ) → Reading) → Row
  counts : ℕ → ℕ → ℕ → Row
  builds : ℕ → ℕ → (Result ℕ Refusal) → Row

abbrev pub Holds : Row → Type 0
Holds (reads f r) = (a : ℕ → ℕ) → read_of (f a) ≡ r a
Holds (counts c f r) = full_counter_of c f ≡ r
Holds (builds c b r) = (o : Open) → answer_of o (tab c o.bytes) (tab b o.bytes) ≡ r

abbrev pub All : List Row → Type 0
All [] = Unit
All (r ∷ rs) = Holds r × All rs

-- byte 0 and n more
abbrev bytes : ℕ → ℕ → (ℕ → ℕ) → List ℕ
bytes n b a = b ∷ tab n (λ i. a (1 + i))

-- byte 0, four, byte 5 and n more
abbrev controlled : ℕ → ℕ → ℕ → (ℕ → ℕ) → List ℕ
controlled n b c a = b ∷ a 1 ∷ a 2 ∷ a 3 ∷ a 4 ∷ c ∷ tab n (λ i. a (6 + i))

-- byte 0, four, byte 5, two, byte 8 and n more
abbrev ported : ℕ → ℕ → ℕ → ℕ → (ℕ → ℕ) → List ℕ
ported n b c p a = b ∷ a 1 ∷ a 2 ∷ a 3 ∷ a 4 ∷ c ∷ a 6 ∷ a 7 ∷ p ∷ tab n (λ i. a (9 + i))

-- an unconfirmed data frame up
abbrev up : ℕ → ℕ → (Option ℕ) → FrmPayload → ℕ → (ℕ → ℕ) → Reading
up c e p d m a =
    Ok (Data (record { mtype = 2; fctrl = c; fcnt = a 6 + a 7 * 256; fopts_end = e; port = p; payload = d; mic = m }))

abbrev answer : Reading → (ℕ → ℕ) → Reading
answer r a = r

-- refused by a number, at a place
abbrev bad : ℕ → ℕ → (ℕ → ℕ) → Reading
bad n p = answer (Err (refusal n p))

abbrev pub rows : List Row
rows =
    -- P1
    reads (λ a. []) (bad 1 0)
    -- P2
    ∷ reads (bytes 10 67) (bad 1 11)
    -- P3
    ∷ reads (controlled 6 64 0) (up 0 8 None Nothing 8)
    -- P4
    ∷ reads (controlled 6 64 1) (bad 4 5)
    -- P5
    ∷ reads (controlled 7 64 1) (up 1 9 None Nothing 9)
    -- P6
    ∷ reads (ported 4 64 0 0) (up 0 8 (Some 0) (MacCommands 9 9) 9)
    -- P7
    ∷ reads (ported 5 64 0 0) (up 0 8 (Some 0) (MacCommands 9 10) 10)
    -- P8
    ∷ reads (bytes 11 65) (bad 2 0)
    -- P9
    ∷ reads (bytes 11 192) (bad 3 0)
    -- P10
    ∷ reads (bytes 21 0) (bad 4 22)
    ∷ reads (bytes 22 0) (answer (Ok JoinRequest))
    -- P11
    ∷ reads (bytes 16 32) (answer (Ok (JoinAccept 17)))
    ∷ reads (bytes 17 32) (bad 4 18)
    ∷ reads (bytes 32 32) (answer (Ok (JoinAccept 33)))
    -- P12
    ∷ reads (bytes 255 64) (bad 12 256)
    -- P13
    ∷ reads (controlled 6 92 0) (up 0 8 None Nothing 8)
    -- P14
    ∷ counts 0x0001FFFF 2 0x00010002
    -- P15
    ∷ builds 0 242 (Ok 255)
    ∷ builds 0 243 (Err (refused 12))
    -- P16
    ∷ builds 15 227 (Ok 255)
    ∷ builds 15 228 (Err (refused 12))
    -- P17
    ∷ reads (ported 4 64 0 5) (up 0 8 (Some 5) (PlainData 9 9) 9)
    ∷ []

-- a built frame is as long as its parts say
long : (o : Open) (commands payload : List ℕ)
    → answer_of o commands payload
    ≡ built_of (data_refusal_of (on_port_one o) commands payload 255) (data_length (on_port_one o) commands payload)
long o commands payload =
    ap (built_of (data_refusal_of (on_port_one o) commands payload 255))
    (frame_long o.nwk o.app (on_port_one o) commands payload)

pub table : All rows
unfolding read_of read_type_of read_join_request_of read_join_accept_of read_data_of data_of port_of payload_of full_counter_of data_refusal_of data_header fixed_header_of
table = (
  λ a. refl,
  (
    λ a. refl,
    (
      λ a. refl,
      (
        λ a. refl,
        (
          λ a. refl,
          (
            λ a. refl,
            (
              λ a. refl,
              (
                λ a. refl,
                (
                  λ a. refl,
                  (λ a. refl, (λ a. refl, (λ a. refl, (λ a. refl, (λ a. refl, (λ a. refl, (λ a. refl, (refl, (λ o. long o (tab 0 o.bytes) (tab 242 o.bytes), (λ o. long o (tab 0 o.bytes) (tab 243 o.bytes), (λ o. long o (tab 15 o.bytes) (tab 227 o.bytes), (λ o. long o (tab 15 o.bytes) (tab 228 o.bytes), (λ a. refl, tt))))))))))))),
                ),
              ),
            ),
          ),
        ),
      ),
    ),
  ),
)
