-- The commands of a data frame: those of its FOpts, and those of a clear payload on port 0 (LoRaWAN 1.0.2, 4.3.1.6 and 5). A list
-- that lies within a frame is read in the frame's bytes up to its end, so that its places are the frame's own.
-- Assumes nothing.
use Rattle.std.specs.Prelude.{List, ℕ, Option, Some, None, Result, Ok, Err, take}
use Rattle.frame_bits.specs.Fctrl.{uplink_of}
use Rattle.frame.specs.Reading.{read_of}
use Rattle.frame.specs.ReadingNumbers.{on_data}
use Rattle.frame.specs.declared.parser.FrmPayload.{FrmPayload}
use Rattle.frame.specs.declared.parser.FrmPayload.TheVariants.{Nothing, Data as PlainData, MacCommands}
use Rattle.frame.specs.declared.parser.DataFrame.{DataFrame}
use Rattle.frame.specs.declared.refusals.Refusal.{Refusal}
use Rattle.mac_commands.specs.Lists.{Listed, list_at}
use Rattle.mac_commands.specs.declared.in_frame.PayloadList.{PayloadList}
use Rattle.mac_commands.specs.declared.in_frame.CommandLists.{CommandLists}

-- the list that a payload is, which may be empty
abbrev pub port_0_of : FrmPayload → Option PayloadList
port_0_of Nothing = None
port_0_of (PlainData a b) = None
port_0_of (MacCommands a b) = Some (record { start = a; end = b })

unfoldable pub lists_of : DataFrame → CommandLists
lists_of d =
    record {
      uplink = uplink_of d.mtype;
      fopts_end = d.fopts_end;
      port_0 = port_0_of d.payload;
    }

-- of any bytes: the reader's refusal, and 4 of a join message
unfoldable pub in_frame_of : List ℕ → Result CommandLists Refusal
in_frame_of f = on_data (λ d. Ok (lists_of d)) Err (read_of f)

-- where the list on port 0 begins and ends; at 0 where there is none
abbrev pub list_start : Option PayloadList → ℕ
list_start None = 0
list_start (Some l) = l.start

abbrev pub list_end : Option PayloadList → ℕ
list_end None = 0
list_end (Some l) = l.end

-- the two lists of a data frame, whose payload is clear
abbrev pub fopts_commands : CommandLists → List ℕ → Listed
fopts_commands l f = list_at l.uplink (take l.fopts_end f) 8

abbrev pub payload_commands : CommandLists → List ℕ → Listed
payload_commands l f = list_at l.uplink (take (list_end l.port_0) f) (list_start l.port_0)
