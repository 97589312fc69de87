-- What a number is taken for, by the tests that the code makes.
-- Assumes nothing.
use mathlib.Core.Path.{◌≡◌, refl, sym, ap₂}
use mathlib.Core.Bool.{Bool, true, false}
use Prim.Native.Nat.{ℕ, ◌≤◌, ◌<◌}
use native.Mathlib.Omega.{arith}
use lib.Dec.{ltb, eqb}
use lib.IntN.{ℤ, pos, negsuc}
use lib.Signed.{lt_z}
use mir.Syntax.{w8, w64}
use mir.Val.{SFits}
use mir.Facts.{sfits_widen}
use borrow.Author.Tests.{ltb-true, ltb-false, lt-ltb, le-ltb, eq-eqb, ne_eqb}
use Rattle.base.specs.Bytes.{pick}
use Rattle.mac_commands.specs.Layout.{row, fields_of}
use Rattle.mac_commands.specs.Commands.{margin_of, raw_of, command_of}
use Rattle.mac_commands.proofs.CommandLaws.{row_back, values_read}
use Rattle.mac_commands.proofs.MarginLaws.{margin_fits}
use Rattle.command_numbers.specs.Numbers.{signed_of, six_of, numbers_of, unsigned_of, id_of_number, bits_of_number}

-- ---- a value

pub negative : (z : ℤ) → lt_z z (pos 0) ≡ true → 4294967295 ≡ unsigned_of z
unfolding unsigned_of
negative (pos m) h = let no : ⊥ = omega (arith, ltb-true m 0 h) in absurd no
negative (negsuc k) h = refl

pub over : (z : ℤ) → lt_z (pos 4294967295) z ≡ true → 4294967295 ≡ unsigned_of z
unfolding unsigned_of
over (pos m) h = simp (le-ltb m 4294967296 (omega (arith, ltb-true 4294967295 m h)))
over (negsuc k) h = refl

pub inside : (z : ℤ) → lt_z z (pos 0) ≡ false → lt_z (pos 4294967295) z ≡ false → z ≡ pos (unsigned_of z)
unfolding unsigned_of
inside (pos m) h l = simp (lt-ltb m 4294967296 (omega (arith, ltb-false 4294967295 m l)))
inside (negsuc k) h l = let z : ◌≡◌ {A = ℕ} 0 1 = cc in let no : ⊥ = omega arith in absurd no

pub value_most : (z : ℤ) → unsigned_of z < 4294967296
unfolding unsigned_of
value_most (pos m) = small (ltb m 4294967296) refl
  where
    small : (t : Bool) → ltb m 4294967296 ≡ t → pick t m 4294967295 < 4294967296
    small true e = omega (arith, ltb-true m 4294967296 e)
    small false e = omega arith
value_most (negsuc k) = omega arith

-- ---- an identifier

pub a_byte : (z : ℤ) {x : ℕ} → x ≡ unsigned_of z → x < 256 → x ≡ id_of_number z
unfolding id_of_number
a_byte z {x} e h = simp (lt-ltb (unsigned_of z) 256 (omega arith)) e

pub no_byte : (z : ℤ) {x : ℕ} → x ≡ unsigned_of z → 256 ≤ x → 0 ≡ id_of_number z
unfolding id_of_number
no_byte z {x} e h = simp (le-ltb (unsigned_of z) 256 (omega arith))

-- ---- the second value

pub status_bits : (up : Bool) (id : ℕ) (z : ℤ) → up ≡ true → id ≡ 6 → raw_of z ≡ bits_of_number up id z
unfolding bits_of_number
status_bits true id z u e = simp (eq-eqb id 6 e)
status_bits false id z u e = let w : ◌≡◌ {A = ℕ} 0 1 = cc in let no : ⊥ = omega arith in absurd no

pub other_bits : (up : Bool) (id : ℕ) (z : ℤ) → (id ≡ 6 → ⊥) → unsigned_of z ≡ bits_of_number up id z
unfolding bits_of_number
other_bits true id z e = simp (ne_eqb id 6 e)
other_bits false id z e = refl

pub down_bits : (up : Bool) (id : ℕ) (z : ℤ) → up ≡ false → unsigned_of z ≡ bits_of_number up id z
unfolding bits_of_number
down_bits true id z u = let w : ◌≡◌ {A = ℕ} 0 1 = cc in let no : ⊥ = omega arith in absurd no
down_bits false id z u = refl

pub status_row : (r x : ℕ) → r ≡ 13 → margin_of x ≡ signed_of r x
unfolding signed_of
status_row r x e = simp (eq-eqb r 13 e)

pub other_row : (r x : ℕ) → (r ≡ 13 → ⊥) → pos x ≡ signed_of r x
unfolding signed_of
other_row r x e = simp (ne_eqb r 13 e)

-- a second value has 64 bits with its sign
pub signed-fits : (r x : ℕ) → x < 4294967296 → SFits w64 (signed_of r x)
unfolding signed_of
signed-fits r x h = fits (eqb r 13)
  where
    fits : (t : Bool) → SFits w64 (pick t (margin_of x) (pos x))
    fits true = sfits_widen {w = w8} {w' = w64} tt (margin_fits x)
    fits false = record { sfits = omega arith }

-- ---- reading: the six numbers of the command that a row and a number give

pub numbers_read : (r v : ℕ) → r < 18 → six_of r (fields_of (row r) v) ≡ numbers_of (command_of r (fields_of (row r) v))
numbers_read r v h =
    ap₂ six_of (sym (row_back r (fields_of (row r) v) h)) (sym (values_read r v h))
