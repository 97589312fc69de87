-- What it means that MAC commands read back which were built into a data frame (docs/RULES.md, MAC commands): the calls find them
-- in FOpts, or on port 0 once the frame is opened, each at its place in the frame, and then the end.
-- Assumes nothing.
use Rattle.std.specs.Prelude.{◌≡◌, is_some, Bool, true, false, List, [], ℕ, None, Ok, Some}
use Rattle.frame_opening.specs.FrameOpening.{data_opened}
use Rattle.frame_build.specs.declared.creator.data_frame.DataParts.{DataParts}
use Rattle.mac_commands.specs.InFrame.{list_start, in_frame_of, fopts_commands, payload_commands}
use Rattle.mac_commands.specs.Lists.{Listed, placed}
use Rattle.mac_commands.specs.declared.in_frame.CommandLists.{CommandLists}
use Rattle.mac_commands.specs.declared.maccommands.Command.{Command}
use Rattle.theorems.specs.BuildingConditions.{NotPort0}

-- these commands, one after the other from place i on, and then the end
abbrev pub listed : ℕ → List Command → Listed
listed i cs = record { commands = placed i cs; end = (Ok None) }

-- the frame f, whose payload is clear, holds these commands in FOpts; there says whether it has a list on port 0, which may be
-- empty, and the commands of that follow
pub record Holds (f : List ℕ) (in_fopts : List Command) (there : Bool) (on_port0 : List Command) : Type 0 where
  pub lists : CommandLists
  pub found : in_frame_of f ≡ Ok lists
  pub fopts : fopts_commands lists f ≡ listed 8 in_fopts
  pub port_0 : is_some lists.port_0 ≡ there
  pub payload : payload_commands lists f ≡ listed (list_start lists.port_0) on_port0

-- what opening with both keys leaves of a frame
abbrev pub opened_frame : List ℕ → List ℕ → ℕ → List ℕ → List ℕ
opened_frame nwk app counter f = (data_opened (Some nwk) (Some app) counter f).bytes

-- the commands cs were built into the frame f
pub record CommandsBack (nwk app : List ℕ) (d : DataParts) (cs : List Command) (f : List ℕ) : Type 0 where
  -- where the port is absent or not 0 they are in FOpts, before the frame is opened and after
  pub in_fopts_lem : NotPort0 d.port → Holds f cs false []
  pub in_fopts_opened : NotPort0 d.port → Holds (opened_frame nwk app d.fcnt f) cs false []
  -- on port 0 they are the payload of the opened frame, also where there are none
  pub on_port_0 : d.port ≡ Some 0 → Holds (opened_frame nwk app d.fcnt f) [] true cs
