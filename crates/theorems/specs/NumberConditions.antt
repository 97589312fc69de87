-- When writing a MAC command of six numbers refuses, in the words of docs/RULES.md, Refusals, From C: a proposition for each
-- condition, and their order. The first number is the identifier; the others are the values, of which the margin has a sign.
-- Assumes nothing.
use Rattle.frame.specs.declared.refusals.Refusal.{Refusal}
use Rattle.std.specs.Prelude.{◌≡◌, Bool, true, false, List, [], ◌∷◌, ℕ, suc, ◌^◌, ◌<◌, ℤ, pos, Result}
use Rattle.std.specs.Int.Signed.{lt_z}
use Rattle.mac_commands.specs.Commands.{fields_written}
use Rattle.mac_commands.specs.Layout.{count_in_row, width_at, row, row_of}
use Rattle.command_numbers.specs.Numbers.{number, id_given, values_given}
use Rattle.theorems.specs.Exactly.{Condition, ◌when◌}
use Rattle.theorems.specs.CommandConditions.{OutsideMargin, NoRoom}

-- 16: it is outside 2 to 10
pub data UnknownNumber (z : ℤ) : Type 0 where
  low : lt_z z (pos 2) ≡ true → UnknownNumber z
  high : lt_z (pos 10) z ≡ true → UnknownNumber z

-- a field of w bits cannot hold it: it is negative, or 2 to the w or more
pub data OutsideBits (w : ℕ) (z : ℤ) : Type 0 where
  negative : lt_z z (pos 0) ≡ true → OutsideBits w z
  large : lt_z z (pos (2 ^ w)) ≡ false → OutsideBits w z

-- the row that six numbers name
abbrev pub row_given : Bool → List ℤ → ℕ
row_given up zs = row_of up (id_given zs)

-- 18: the margin, which is the second value of identifier 6 up, is outside -32 to 31, or another field cannot hold its value
pub data UnfitNumber (up : Bool) (zs : List ℤ) : Type 0 where
  margin : up ≡ true → number zs 0 ≡ pos 6 → OutsideMargin (number zs 2) → UnfitNumber up zs
  value : (k : ℕ) → k < count_in_row (row (row_given up zs)) → (up ≡ true → number zs 0 ≡ pos 6 → k ≡ 1 → ⊥)
      → OutsideBits (width_at (row (row_given up zs)) k) (number zs (suc k)) → UnfitNumber up zs

abbrev pub number_conditions : Bool → List ℤ → ℕ → ℕ → List Condition
number_conditions up zs n i =
    16 when UnknownNumber (number zs 0)
    ∷ 18 when UnfitNumber up zs
    ∷ 7 when NoRoom (row_given up zs) n i
    ∷ []

-- what the call answers, into n bytes from place i on
abbrev pub numbers_written : Bool → List ℤ → ℕ → ℕ → Result ℕ Refusal
numbers_written up zs n i = fields_written up (id_given zs) (values_given up zs) n i
