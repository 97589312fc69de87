-- `read_step` meets its contract: the command of the row that was found.
-- Assumes nothing.
use Rattle.std.specs.Prelude.{Ok}
use mathlib.Core.Path.{sym, ap, ◌∙◌}
use mathlib.Core.List.{List}
use Prim.Native.Nat.{ℕ}
use Rattle.mac_commands.specs.Layout.{row, fits}
use Rattle.mac_commands.proofs.StepLaws.{raw_row}
use Rattle.mac_commands.proofs.TableLaws.{fields_fit}
use Rattle.mac_commands.proofs.maccommands.read_step.Goals as goal

pub command_of-requires : goal.command_of-requires
command_of-requires c =
    ap (λ (x : List ℕ). fits (row c.in-Some.raw.row) x) c.values_of-values.ensures
    ∙ fields_fit c.in-Some.raw.row c.in-Some.raw.number
    (raw_row _ _ _ (sym (ap Ok (sym c.in-Some.is) ∙ c.in_ok-raw.ensures)))
