use mathlib.Core.Path.{◌∙◌}
use native.Mathlib.Omega.{arith}
use mir.Syntax.{w8}
use mir.Facts.{to_z-of_z}
use Rattle.mac_commands.proofs.MarginLaws.{low, minus, past, margin_fits}
use Rattle.mac_commands.proofs.maccommands.margin_of.Goals as goal

pub returns-in-0-to-31 : goal.returns-in-0-to-31
returns-in-0-to-31 c = low c.args.x (omega arith)

pub returns-in-32-to-63 : goal.returns-in-32-to-63
returns-in-32-to-63 c =
    let e = minus c.args.x (omega arith) (omega arith) in to_z-of_z {w = w8} (rw e (margin_fits c.args.x)) ∙ e

pub returns-in_default : goal.returns-in_default
returns-in_default c = past c.args.x (omega arith)
