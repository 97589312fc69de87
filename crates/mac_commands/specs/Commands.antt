-- A command as a row of the table and its values, and back; one step of reading and the writing of one command, by the table
-- (LoRaWAN 1.0.2, section 5; docs/RULES.md, MAC commands).
-- Assumes nothing.
use Rattle.std.specs.Prelude.{List, [], ◌∷◌, Bool, ℕ, ◌+◌, ◌-◌, ◌%◌, ltb, leb, ℤ, pos, negsuc, length, get_or, Option, Some, None, Result, Ok, Err}
use Rattle.std.proofs.lemmas.List.Edits.{sets}
use Rattle.base.specs.Bytes.{pick, at, part}
use Rattle.frame.specs.declared.refusals.Refusal.{Refusal}
use Rattle.frame.specs.Refusals.{refusal, refused}
use Rattle.mac_commands.specs.Layout.{fits, fields_of, number_of, row, row_of, known, size_of, bytes_of, low_first}
use Rattle.mac_commands.specs.declared.maccommands.Command.{Command}
use Rattle.mac_commands.specs.declared.maccommands.Command.TheVariants.{LinkCheckAns, LinkADRReq, DutyCycleReq, RXParamSetupReq, DevStatusReq, NewChannelReq, RXTimingSetupReq, TxParamSetupReq, DlChannelReq, LinkCheckReq, LinkADRAns, DutyCycleAns, RXParamSetupAns, DevStatusAns, NewChannelAns, RXTimingSetupAns, TxParamSetupAns, DlChannelAns}
use Rattle.mac_commands.specs.declared.maccommands.RawCommand.{RawCommand}
use Rattle.mac_commands.specs.declared.maccommandcreator.Fields.{Fields}

-- ---- the margin of DevStatusAns (5.5): six bits in two's complement, -32 to 31

unfoldable pub margin_of : ℕ → ℤ
margin_of x = pick (ltb x 32) (pos x) (negsuc (63 - x))

-- back; a number outside is given as 64, which six bits cannot hold
unfoldable pub raw_of : ℤ → ℕ
raw_of (pos m) = pick (ltb m 32) m 64
raw_of (negsuc k) = pick (ltb k 32) (63 - k) 64

-- ---- a command by its row and its values

unfoldable pub commands : List ℕ → List Command
commands xs =
    LinkCheckAns (at xs 0) (at xs 1)
    ∷ LinkADRReq (at xs 0) (at xs 1) (at xs 2) (at xs 3) (at xs 4)
    ∷ DutyCycleReq (at xs 0)
    ∷ RXParamSetupReq (at xs 0) (at xs 1) (at xs 2)
    ∷ DevStatusReq
    ∷ NewChannelReq (at xs 0) (at xs 1) (at xs 2) (at xs 3)
    ∷ RXTimingSetupReq (at xs 0)
    ∷ TxParamSetupReq (at xs 0) (at xs 1) (at xs 2)
    ∷ DlChannelReq (at xs 0) (at xs 1)
    ∷ LinkCheckReq
    ∷ LinkADRAns (at xs 0) (at xs 1) (at xs 2)
    ∷ DutyCycleAns
    ∷ RXParamSetupAns (at xs 0) (at xs 1) (at xs 2)
    ∷ DevStatusAns (at xs 0) (margin_of (at xs 1))
    ∷ NewChannelAns (at xs 0) (at xs 1)
    ∷ RXTimingSetupAns
    ∷ TxParamSetupAns
    ∷ DlChannelAns (at xs 0) (at xs 1)
    ∷ []

unfoldable pub command_of : ℕ → List ℕ → Command
command_of r xs = get_or (commands xs) r LinkCheckReq

unfoldable pub fields_as : Command → Fields
fields_as (LinkCheckAns margin gateways) = record { row = 0; values = margin ∷ gateways ∷ 0 ∷ 0 ∷ 0 ∷ [] }
fields_as (LinkADRReq data_rate tx_power mask control transmissions) = record { row = 1; values = data_rate ∷ tx_power ∷ mask ∷ control ∷ transmissions ∷ [] }
fields_as (DutyCycleReq max) = record { row = 2; values = max ∷ 0 ∷ 0 ∷ 0 ∷ 0 ∷ [] }
fields_as (RXParamSetupReq rx1_offset rx2_data_rate frequency) = record { row = 3; values = rx1_offset ∷ rx2_data_rate ∷ frequency ∷ 0 ∷ 0 ∷ [] }
fields_as DevStatusReq = record { row = 4; values = 0 ∷ 0 ∷ 0 ∷ 0 ∷ 0 ∷ [] }
fields_as (NewChannelReq index frequency max_data_rate min_data_rate) = record { row = 5; values = index ∷ frequency ∷ max_data_rate ∷ min_data_rate ∷ 0 ∷ [] }
fields_as (RXTimingSetupReq delay) = record { row = 6; values = delay ∷ 0 ∷ 0 ∷ 0 ∷ 0 ∷ [] }
fields_as (TxParamSetupReq downlink_dwell uplink_dwell max_eirp) = record { row = 7; values = downlink_dwell ∷ uplink_dwell ∷ max_eirp ∷ 0 ∷ 0 ∷ [] }
fields_as (DlChannelReq index frequency) = record { row = 8; values = index ∷ frequency ∷ 0 ∷ 0 ∷ 0 ∷ [] }
fields_as LinkCheckReq = record { row = 9; values = 0 ∷ 0 ∷ 0 ∷ 0 ∷ 0 ∷ [] }
fields_as (LinkADRAns power data_rate mask) = record { row = 10; values = power ∷ data_rate ∷ mask ∷ 0 ∷ 0 ∷ [] }
fields_as DutyCycleAns = record { row = 11; values = 0 ∷ 0 ∷ 0 ∷ 0 ∷ 0 ∷ [] }
fields_as (RXParamSetupAns rx1_offset rx2_data_rate channel) = record { row = 12; values = rx1_offset ∷ rx2_data_rate ∷ channel ∷ 0 ∷ 0 ∷ [] }
fields_as (DevStatusAns battery margin) = record { row = 13; values = battery ∷ raw_of margin ∷ 0 ∷ 0 ∷ 0 ∷ [] }
fields_as (NewChannelAns range frequency) = record { row = 14; values = range ∷ frequency ∷ 0 ∷ 0 ∷ 0 ∷ [] }
fields_as RXTimingSetupAns = record { row = 15; values = 0 ∷ 0 ∷ 0 ∷ 0 ∷ 0 ∷ [] }
fields_as TxParamSetupAns = record { row = 16; values = 0 ∷ 0 ∷ 0 ∷ 0 ∷ 0 ∷ [] }
fields_as (DlChannelAns uplink frequency) = record { row = 17; values = uplink ∷ frequency ∷ 0 ∷ 0 ∷ 0 ∷ [] }

abbrev pub row_at : Command → ℕ
row_at c = (fields_as c).row

abbrev pub values_of : Command → List ℕ
values_of c = (fields_as c).values

-- the rows from the tenth on go up
abbrev pub up_of : ℕ → Bool
up_of r = leb 9 r

-- the identifier of a row, in both directions
abbrev pub id_of : ℕ → ℕ
id_of r = 2 + r % 9

-- ---- reading the command at place i of s

-- what is found there: the command with the place of the next one, nothing at the end of the list, or a refusal with its place
abbrev pub Step : Type 0
Step = Result (Option (Command × ℕ)) Refusal

-- the same with the command as it stands in the bytes
abbrev pub RawStep : Type 0
RawStep = Result (Option RawCommand) Refusal

abbrev pub raw_found : ℕ → ℕ → ℕ → RawStep
raw_found r v n = Ok (Some (record { row = r; number = v; next = n }))

-- of the row r: the number behind the identifier and the place past it, or 17
unfoldable pub raw_at : ℕ → List ℕ → ℕ → RawStep
raw_at r s i =
    pick (leb (i + 1 + size_of r) (length s)) (raw_found r (low_first (part (i + 1) (size_of r) s)) (i + 1 + size_of r))
    (Err (refusal 17 i))

-- 16 goes before 17; at or past the end is the end
unfoldable pub raw_step_at : Bool → List ℕ → ℕ → RawStep
raw_step_at up s i =
    pick (ltb i (length s)) (pick (known (at s i)) (raw_at (row_of up (at s i)) s i) (Err (refusal 16 i))) (Ok None)

-- the command of a row and its number
abbrev pub step_of : RawStep → Step
step_of (Ok (Some raw)) = Ok (Some (command_of raw.row (fields_of (row raw.row) raw.number), raw.next))
step_of (Ok None) = Ok None
step_of (Err e) = Err e

unfoldable pub step_at : Bool → List ℕ → ℕ → Step
step_at up s i = step_of (raw_step_at up s i)

-- ---- the bytes of a command: the identifier, then the number of its values, low byte first

unfoldable pub row_bytes : ℕ → ℕ → List ℕ
row_bytes r v = id_of r ∷ bytes_of (size_of r) v

unfoldable pub bytes_as : Command → List ℕ
bytes_as c = row_bytes (row_at c) (number_of (row (row_at c)) (values_of c))

-- every value fits its field
abbrev pub fits_all : Command → Bool
fits_all c = fits (row (row_at c)) (values_of c)

-- the number behind the identifier, where the values fit
unfoldable pub packed_of : ℕ → List ℕ → Option ℕ
packed_of r xs = pick (fits (row r) xs) (Some (number_of (row r) xs)) None

-- ---- writing values of the row r into n bytes, or into the bytes l, from place i on

-- 7 where there is no room
unfoldable pub put_as : ℕ → ℕ → ℕ → Result ℕ Refusal
put_as r n i = pick (leb (i + (1 + size_of r)) n) (Ok (i + (1 + size_of r))) (Err (refused 7))

unfoldable pub put_in : ℕ → ℕ → List ℕ → ℕ → List ℕ
put_in r v l i = pick (leb (i + (1 + size_of r)) (length l)) (sets l i (row_bytes r v)) l

-- 18 where a value does not fit goes before it
unfoldable pub written_as : ℕ → List ℕ → ℕ → ℕ → Result ℕ Refusal
written_as r xs n i = pick (fits (row r) xs) (put_as r n i) (Err (refused 18))

unfoldable pub written_in : ℕ → List ℕ → List ℕ → ℕ → List ℕ
written_in r xs l i = pick (fits (row r) xs) (put_in r (number_of (row r) xs) l i) l

-- a command
abbrev pub command_written : Command → ℕ → ℕ → Result ℕ Refusal
command_written c n i = written_as (row_at c) (values_of c) n i

abbrev pub command_in : Command → List ℕ → ℕ → List ℕ
command_in c l i = written_in (row_at c) (values_of c) l i

-- values by direction and identifier: 16 where there is no such identifier goes before 18 and 7
unfoldable pub fields_written : Bool → ℕ → List ℕ → ℕ → ℕ → Result ℕ Refusal
fields_written up id xs n i = pick (known id) (written_as (row_of up id) xs n i) (Err (refused 16))

unfoldable pub fields_in : Bool → ℕ → List ℕ → List ℕ → ℕ → List ℕ
fields_in up id xs l i = pick (known id) (written_in (row_of up id) xs l i) l
