-- What printing takes as known of the lists of commands of a frame: both lie within it.
-- Assumes nothing.
use Rattle.std.specs.Prelude.{List, ℕ, ◌≤◌, length}
use Rattle.mac_commands.specs.InFrame.{list_start, list_end}
use Rattle.mac_commands.specs.declared.in_frame.CommandLists.{CommandLists}

abbrev pub Within : List ℕ → CommandLists → Type 0
Within f l =
    ((8 ≤ l.fopts_end) × (l.fopts_end ≤ length f))
    × ((list_start l.port_0 ≤ list_end l.port_0) × (list_end l.port_0 ≤ length f))
