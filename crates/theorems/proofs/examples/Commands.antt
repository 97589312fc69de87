-- MAC commands by example, computed from the definitions: commands that are read and written, each order of the refusals, and the
-- lists of a frame.
-- Assumes nothing.
use Rattle.std.specs.Prelude.{Err, None, Ok, Some}
use mathlib.Core.Path.{◌≡◌, refl}
use mathlib.Core.Bool.{true, false}
use mathlib.Core.List.{List, [], ◌∷◌}
use Prim.Native.Nat.{ℕ}
use lib.IntN.{pos, negsuc}
use Rattle.frame.specs.Reading.{port_of, payload_of, data_of, read_data_of, read_type_of, read_of}
use Rattle.frame.specs.Refusals.{refusal, refused}
use Rattle.mac_commands.specs.Commands.{margin_of, raw_of, commands, command_of, fields_as, raw_at, raw_step_at, step_at, row_bytes, bytes_as, put_as, written_as, command_written, fields_written}
use Rattle.mac_commands.specs.InFrame.{lists_of, in_frame_of, fopts_commands, payload_commands}
use Rattle.mac_commands.specs.Layout.{bits_of, place_in_row, width_at, number_of, fits, low_first, bytes_of, downs, ups, row, size_of}
use Rattle.mac_commands.specs.Lists.{Placed, list_from, list_at}
use Rattle.mac_commands.specs.declared.in_frame.CommandLists.{CommandLists}
use Rattle.mac_commands.specs.declared.maccommands.Command.{Command}
use Rattle.mac_commands.specs.declared.maccommands.Command.TheVariants.{LinkADRReq, RXParamSetupReq, LinkADRAns, DevStatusAns}

-- ---- reading

-- data rate 5, power 2, channels 0, 1, 2 and 8, control 3, once; the reserved bit of the last byte is set, and is ignored
pub adr_request : step_at false (0x03 ∷ 0x52 ∷ 0x07 ∷ 0x01 ∷ 0xB1 ∷ []) 0 ≡ Ok (Some ((LinkADRReq 5 2 0x0107 3 1), 5))
unfolding row downs ups bits_of size_of place_in_row width_at low_first commands command_of raw_at raw_step_at step_at
adr_request = refl

-- battery 255, margin -7
pub status_answer : step_at true (0x06 ∷ 0xFF ∷ 0x39 ∷ []) 0 ≡ Ok (Some ((DevStatusAns 255 (negsuc 6)), 3))
unfolding row downs ups bits_of size_of place_in_row width_at low_first margin_of commands command_of raw_at raw_step_at step_at
status_answer = refl

-- an unknown identifier that nothing follows is unknown, and not cut short
pub unknown_last : step_at true (0x06 ∷ 0xFF ∷ 0x39 ∷ 0x0D ∷ []) 3 ≡ Err (refusal 16 3)
unfolding raw_step_at step_at
unknown_last = refl

-- past the end is the end
pub past_the_end : step_at true (0x06 ∷ []) 2 ≡ (Ok None)
unfolding raw_step_at step_at
past_the_end = refl

-- ---- a list: two commands, and a third that is cut short

abbrev at_place : ℕ → Command → Placed
at_place i c = record { place = i; command = c }

pub two_and_a_cut : list_at true (0x03 ∷ 0x06 ∷ 0x06 ∷ 0xFF ∷ 0x39 ∷ 0x07 ∷ []) 0
    ≡ record {
      commands = at_place 0 (LinkADRAns 1 1 0) ∷ at_place 2 (DevStatusAns 255 (negsuc 6)) ∷ [];
      end = Err (refusal 17 5);
    }
unfolding row downs ups bits_of size_of place_in_row width_at low_first margin_of commands command_of raw_at raw_step_at step_at list_from list_at
two_and_a_cut = refl

-- ---- writing

-- offset 5, data rate 9, 869.1 MHz in units of 100 Hz
pub window_request : bytes_as (RXParamSetupReq 5 9 8691000) ≡ 0x05 ∷ 0x59 ∷ 0x38 ∷ 0x9D ∷ 0x84 ∷ []
unfolding row downs ups bits_of size_of number_of bytes_of fields_as row_bytes bytes_as
window_request = refl

-- the ends of the margin, and one past each: 18 goes before 7, so that it is given of no bytes too
pub margin_ends : (command_written (DevStatusAns 0 (negsuc 31)) 3 0 ≡ Ok 3) × (command_written (DevStatusAns 0 (pos 31)) 3 0 ≡ Ok 3)
unfolding row downs ups bits_of size_of fits raw_of fields_as put_as written_as
margin_ends = (refl, refl)

pub margin_past : (command_written (DevStatusAns 0 (negsuc 32)) 0 0 ≡ Err (refused 18))
    × (command_written (DevStatusAns 0 (pos 32)) 0 0 ≡ Err (refused 18))
unfolding row downs ups bits_of size_of fits raw_of fields_as put_as written_as
margin_past = (refl, refl)

-- 16 goes before both
pub unknown_first : fields_written true 0x0D (999 ∷ 999 ∷ 999 ∷ 999 ∷ 999 ∷ []) 0 0 ≡ Err (refused 16)
unfolding fields_written
unknown_first = refl

-- ---- a frame up with five bytes of FOpts and one byte on port 0: 40 04030201 05 0500 03 06 06FF39 00 07 11223344

abbrev example_frame : List ℕ
example_frame =
    0x40 ∷ 4 ∷ 3 ∷ 2 ∷ 1 ∷ 5 ∷ 5 ∷ 0 ∷ 0x03 ∷ 0x06 ∷ 0x06 ∷ 0xFF ∷ 0x39 ∷ 0 ∷ 0x07 ∷ 0x11 ∷ 0x22 ∷ 0x33 ∷ 0x44 ∷ []

abbrev example_lists : CommandLists
example_lists = record { uplink = true; fopts_end = 13; port_0 = Some (record { start = 14; end = 15 }) }

pub frame_lists : in_frame_of example_frame ≡ Ok example_lists
unfolding in_frame_of lists_of read_of read_type_of read_data_of data_of port_of payload_of
frame_lists = refl

pub frame_fopts : fopts_commands example_lists example_frame
    ≡ record {
      commands = at_place 8 (LinkADRAns 1 1 0) ∷ at_place 10 (DevStatusAns 255 (negsuc 6)) ∷ [];
      end = (Ok None);
    }
unfolding row downs ups bits_of size_of place_in_row width_at low_first margin_of commands command_of raw_at raw_step_at step_at list_from list_at
frame_fopts = refl

pub frame_payload : payload_commands example_lists example_frame ≡ record { commands = []; end = Err (refusal 17 14) }
unfolding row downs ups bits_of size_of place_in_row width_at low_first margin_of commands command_of raw_at raw_step_at step_at list_from list_at
frame_payload = refl
