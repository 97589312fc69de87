-- A command as six numbers: the identifier, then its values in the order of the fields, 0 past the last one; the margin is signed
-- (docs/RULES.md, MAC commands, From C). And back: what each of six numbers is taken for.
-- Assumes nothing.
use Rattle.std.specs.Prelude.{Bool, true, false, List, [], ◌∷◌, ℕ, ltb, eqb, ℤ, pos, negsuc, get_or}
use Rattle.base.specs.Bytes.{pick, at}
use Rattle.mac_commands.specs.Commands.{margin_of, raw_of, row_at, values_of, id_of}
use Rattle.mac_commands.specs.declared.maccommands.Command.{Command}

-- ---- the numbers of a command

-- the second value of a row: that of DevStatusAns, row 13, is the margin
unfoldable pub signed_of : ℕ → ℕ → ℤ
signed_of r x = pick (eqb r 13) (margin_of x) (pos x)

abbrev pub six_of : ℕ → List ℕ → List ℤ
six_of r xs = pos (id_of r) ∷ pos (at xs 0) ∷ signed_of r (at xs 1) ∷ pos (at xs 2) ∷ pos (at xs 3) ∷ pos (at xs 4) ∷ []

abbrev pub numbers_of : Command → List ℤ
numbers_of c = six_of (row_at c) (values_of c)

-- ---- the command that six numbers name

-- a value; one that no field can hold, where it is negative or has more than 32 bits
unfoldable pub unsigned_of : ℤ → ℕ
unsigned_of (pos m) = pick (ltb m 4294967296) m 4294967295
unsigned_of (negsuc k) = 4294967295

-- an identifier; 0, which is none, where it is no byte
unfoldable pub id_of_number : ℤ → ℕ
id_of_number z = pick (ltb (unsigned_of z) 256) (unsigned_of z) 0

-- the second value: up, that of identifier 06 is the margin
unfoldable pub bits_of_number : Bool → ℕ → ℤ → ℕ
bits_of_number true id z = pick (eqb id 6) (raw_of z) (unsigned_of z)
bits_of_number false id z = unsigned_of z

abbrev pub number : List ℤ → ℕ → ℤ
number zs i = get_or zs i (pos 0)

abbrev pub id_given : List ℤ → ℕ
id_given zs = id_of_number (number zs 0)

abbrev pub values_given : Bool → List ℤ → List ℕ
values_given up zs =
    unsigned_of (number zs 1)
    ∷ bits_of_number up (id_given zs) (number zs 2)
    ∷ unsigned_of (number zs 3)
    ∷ unsigned_of (number zs 4)
    ∷ unsigned_of (number zs 5)
    ∷ []
