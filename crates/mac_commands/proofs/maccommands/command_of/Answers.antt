-- `command_of` meets its contract: each arm knows the row, and so that a value which fits its field fits eight bits, or sixteen.
-- Assumes nothing.
use mathlib.Core.Path.{◌≡◌, refl, sym, ap, ◌∙◌}
use mathlib.Core.Bool.{true}
use mathlib.Core.List.{List}
use Prim.Native.Nat.{ℕ, ◌≤◌, ◌<◌, ◌^◌}
use native.Mathlib.Nat.{lt_of_lt_of_le}
use native.Mathlib.Omega.{arith}
use lib.Pow.{pow_mono}
use mir.Syntax.{w8, w16}
use mir.Val.{Fits}
use Rattle.base.specs.Bytes.{at}
use Rattle.mac_commands.specs.Layout.{row, downs, ups, fits, width_at}
use Rattle.mac_commands.proofs.LayoutLaws.{named, each_fits}
use Rattle.mac_commands.proofs.maccommands.command_of.Goals as goal

-- the field i of the row k has at most b bits
within : (b k i : ℕ) {r : ℕ} (x : List ℕ) → fits (row r) x ≡ true → r ≡ k → named (row k) i ≡ true → width_at (row k) i ≤ b
    → at x i < 2 ^ b
within b k i x f e n l =
    lt_of_lt_of_le (each_fits (row k) x i (ap (λ (j : ℕ). fits (row j) x) (sym e) ∙ f) n) (pow_mono l)

byte : (k i : ℕ) {r : ℕ} (x : List ℕ) → fits (row r) x ≡ true → r ≡ k → named (row k) i ≡ true → width_at (row k) i ≤ 8
    → Fits w8 (at x i)
byte k i x f e n l = record { fits = within 8 k i x f e n l }

pair : (k i : ℕ) {r : ℕ} (x : List ℕ) → fits (row r) x ≡ true → r ≡ k → named (row k) i ≡ true → width_at (row k) i ≤ 16
    → Fits w16 (at x i)
pair k i x f e n l = record { fits = within 16 k i x f e n l }

pub overflow_cast-result : goal.overflow_cast-result
unfolding row downs ups width_at named
overflow_cast-result c = byte 0 0 _ c.requires c.in-0.is refl (omega arith)

pub overflow_cast-result-in-0 : goal.overflow_cast-result-in-0
unfolding row downs ups width_at named
overflow_cast-result-in-0 c = byte 0 1 _ c.requires c.in-0.is refl (omega arith)

pub overflow_cast-result-in-1 : goal.overflow_cast-result-in-1
unfolding row downs ups width_at named
overflow_cast-result-in-1 c = byte 1 0 _ c.requires c.in-1.is refl (omega arith)

pub overflow_cast-result-in-1-2 : goal.overflow_cast-result-in-1-2
unfolding row downs ups width_at named
overflow_cast-result-in-1-2 c = byte 1 1 _ c.requires c.in-1.is refl (omega arith)

pub overflow_cast-result-in-1-3 : goal.overflow_cast-result-in-1-3
unfolding row downs ups width_at named
overflow_cast-result-in-1-3 c = pair 1 2 _ c.requires c.in-1.is refl (omega arith)

pub overflow_cast-result-in-1-4 : goal.overflow_cast-result-in-1-4
unfolding row downs ups width_at named
overflow_cast-result-in-1-4 c = byte 1 3 _ c.requires c.in-1.is refl (omega arith)

pub overflow_cast-result-in-1-5 : goal.overflow_cast-result-in-1-5
unfolding row downs ups width_at named
overflow_cast-result-in-1-5 c = byte 1 4 _ c.requires c.in-1.is refl (omega arith)

pub overflow_cast-result-in-2 : goal.overflow_cast-result-in-2
unfolding row downs ups width_at named
overflow_cast-result-in-2 c = byte 2 0 _ c.requires c.in-2.is refl (omega arith)

pub overflow_cast-result-in-3 : goal.overflow_cast-result-in-3
unfolding row downs ups width_at named
overflow_cast-result-in-3 c = byte 3 0 _ c.requires c.in-3.is refl (omega arith)

pub overflow_cast-result-in-3-2 : goal.overflow_cast-result-in-3-2
unfolding row downs ups width_at named
overflow_cast-result-in-3-2 c = byte 3 1 _ c.requires c.in-3.is refl (omega arith)

pub overflow_cast-result-in-5 : goal.overflow_cast-result-in-5
unfolding row downs ups width_at named
overflow_cast-result-in-5 c = byte 5 0 _ c.requires c.in-5.is refl (omega arith)

pub overflow_cast-result-in-5-2 : goal.overflow_cast-result-in-5-2
unfolding row downs ups width_at named
overflow_cast-result-in-5-2 c = byte 5 2 _ c.requires c.in-5.is refl (omega arith)

pub overflow_cast-result-in-5-3 : goal.overflow_cast-result-in-5-3
unfolding row downs ups width_at named
overflow_cast-result-in-5-3 c = byte 5 3 _ c.requires c.in-5.is refl (omega arith)

pub overflow_cast-result-in-6 : goal.overflow_cast-result-in-6
unfolding row downs ups width_at named
overflow_cast-result-in-6 c = byte 6 0 _ c.requires c.in-6.is refl (omega arith)

pub overflow_cast-result-in-7 : goal.overflow_cast-result-in-7
unfolding row downs ups width_at named
overflow_cast-result-in-7 c = byte 7 0 _ c.requires c.in-7.is refl (omega arith)

pub overflow_cast-result-in-7-2 : goal.overflow_cast-result-in-7-2
unfolding row downs ups width_at named
overflow_cast-result-in-7-2 c = byte 7 1 _ c.requires c.in-7.is refl (omega arith)

pub overflow_cast-result-in-7-3 : goal.overflow_cast-result-in-7-3
unfolding row downs ups width_at named
overflow_cast-result-in-7-3 c = byte 7 2 _ c.requires c.in-7.is refl (omega arith)

pub overflow_cast-result-in-8 : goal.overflow_cast-result-in-8
unfolding row downs ups width_at named
overflow_cast-result-in-8 c = byte 8 0 _ c.requires c.in-8.is refl (omega arith)

pub overflow_cast-result-in-10 : goal.overflow_cast-result-in-10
unfolding row downs ups width_at named
overflow_cast-result-in-10 c = byte 10 0 _ c.requires c.in-10.is refl (omega arith)

pub overflow_cast-result-in-10-2 : goal.overflow_cast-result-in-10-2
unfolding row downs ups width_at named
overflow_cast-result-in-10-2 c = byte 10 1 _ c.requires c.in-10.is refl (omega arith)

pub overflow_cast-result-in-10-3 : goal.overflow_cast-result-in-10-3
unfolding row downs ups width_at named
overflow_cast-result-in-10-3 c = byte 10 2 _ c.requires c.in-10.is refl (omega arith)

pub overflow_cast-result-in-12 : goal.overflow_cast-result-in-12
unfolding row downs ups width_at named
overflow_cast-result-in-12 c = byte 12 0 _ c.requires c.in-12.is refl (omega arith)

pub overflow_cast-result-in-12-2 : goal.overflow_cast-result-in-12-2
unfolding row downs ups width_at named
overflow_cast-result-in-12-2 c = byte 12 1 _ c.requires c.in-12.is refl (omega arith)

pub overflow_cast-result-in-12-3 : goal.overflow_cast-result-in-12-3
unfolding row downs ups width_at named
overflow_cast-result-in-12-3 c = byte 12 2 _ c.requires c.in-12.is refl (omega arith)

pub overflow_cast-result-in-13 : goal.overflow_cast-result-in-13
unfolding row downs ups width_at named
overflow_cast-result-in-13 c = byte 13 0 _ c.requires c.in-13.is refl (omega arith)

pub overflow_cast-result-in-14 : goal.overflow_cast-result-in-14
unfolding row downs ups width_at named
overflow_cast-result-in-14 c = byte 14 0 _ c.requires c.in-14.is refl (omega arith)

pub overflow_cast-result-in-14-2 : goal.overflow_cast-result-in-14-2
unfolding row downs ups width_at named
overflow_cast-result-in-14-2 c = byte 14 1 _ c.requires c.in-14.is refl (omega arith)

pub overflow_cast-result-in-17 : goal.overflow_cast-result-in-17
unfolding row downs ups width_at named
overflow_cast-result-in-17 c = byte 17 0 _ c.requires c.in-17.is refl (omega arith)

pub overflow_cast-result-in-17-2 : goal.overflow_cast-result-in-17-2
unfolding row downs ups width_at named
overflow_cast-result-in-17-2 c = byte 17 1 _ c.requires c.in-17.is refl (omega arith)
