-- `signed_of` meets its contract: a margin of eight bits keeps its value in 64.
-- Assumes nothing.
use mathlib.Core.Path.{◌≡◌, ap, ◌∙◌}
use native.Mathlib.Omega.{arith}
use lib.IntN.{ℤ}
use mir.Syntax.{w8, w64}
use mir.Val.{SFits, to_z, of_z}
use mir.Facts.{to_z-of_z, to_z_pos, sfits_widen}
use Prim.Native.Nat.{ℕ}
use Rattle.mac_commands.specs.Commands.{margin_of}
use Rattle.mac_commands.proofs.MarginLaws.{margin_fits}
use Rattle.command_numbers.proofs.NumberLaws.{status_row, other_row}
use Rattle.command_numbers.proofs.signed_of.Goals as goal

-- what `margin_of` gave, as the local holds it
held : (x : ℕ) {m : ℤ} → m ≡ margin_of x → to_z w8 (of_z w8 m) ≡ margin_of x
held x e = ap (λ (z : ℤ). to_z w8 (of_z w8 z)) e ∙ to_z-of_z (margin_fits x)

wider : (x : ℕ) → SFits w64 (margin_of x)
wider x = sfits_widen {w = w8} {w' = w64} tt (margin_fits x)

pub returns-then-row-eq-STATUS_ROW : goal.returns-then-row-eq-STATUS_ROW
returns-then-row-eq-STATUS_ROW c =
    let a = c.args in
    ap (λ (z : ℤ). to_z w64 (of_z w64 z)) (held a.x c.margin_of.ensures)
    ∙ to_z-of_z (wider a.x)
    ∙ status_row a.row a.x c.if-row-eq-STATUS_ROW.true

pub returns : goal.returns
returns c =
    to_z_pos w64 {n = c.args.x} (omega arith) ∙ other_row c.args.row c.args.x c.if-row-eq-STATUS_ROW.false
