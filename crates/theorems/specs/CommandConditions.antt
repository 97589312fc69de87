-- When reading and writing a MAC command refuse, in the words of docs/RULES.md, Refusals: a proposition for each condition, the
-- order in which each call tests them, and what each answers by it.
-- Assumes nothing.
use Rattle.mac_commands.specs.declared.in_frame.CommandLists.{CommandLists}
use Rattle.std.specs.Prelude.{◌≡◌, Bool, true, List, [], ◌∷◌, ℕ, ◌+◌, ◌^◌, ◌≤◌, ◌<◌, eqb, ℤ, pos, negsuc, length, Err, None, Ok, Result, Some}
use Rattle.std.specs.Int.Signed.{lt_z}
use Rattle.base.specs.Bytes.{pick, at, part}
use Rattle.frame.specs.Reading.{data_of}
use Rattle.frame.specs.Refusals.{refusal, refused}
use Rattle.frame.specs.declared.refusals.Refusal.{Refusal}
use Rattle.mac_commands.specs.Commands.{command_of}
use Rattle.mac_commands.specs.InFrame.{lists_of}
use Rattle.mac_commands.specs.Layout.{count_in_row, width_at, fields_of, low_first, row, row_of, size_of}
use Rattle.mac_commands.specs.declared.maccommands.Command.{Command}
use Rattle.mac_commands.specs.Commands.{Step}
use Rattle.theorems.specs.Exactly.{Exactly, Condition, ◌when◌, Due, NotOwn}

-- ---- identifiers: 2 to 10 are of the family, every other is unknown

pub data Unknown (id : ℕ) : Type 0 where
  low : id < 2 → Unknown id
  high : 10 < id → Unknown id

pub record Known (id : ℕ) : Type 0 where
  pub from : 2 ≤ id
  pub upto : id ≤ 10

-- ---- one step of reading, of the list s that goes up or down, at place i

-- how many bytes follow the identifier, by its layout
abbrev pub size_at : Bool → List ℕ → ℕ → ℕ
size_at up s i = size_of (row_of up (at s i))

-- 16: there is an identifier, and it is unknown
pub record UnknownAt (s : List ℕ) (i : ℕ) : Type 0 where
  pub inside : i < length s
  pub unknown : Unknown (at s i)

-- 17: there is one of the family, and fewer bytes follow it than its layout has
pub record CutShortAt (up : Bool) (s : List ℕ) (i : ℕ) : Type 0 where
  pub inside : i < length s
  pub known : Known (at s i)
  pub short : length s < i + 1 + size_at up s i

-- a command: there is one of the family, and all bytes of its layout follow it
pub record WholeAt (up : Bool) (s : List ℕ) (i : ℕ) : Type 0 where
  pub inside : i < length s
  pub known : Known (at s i)
  pub room : i + 1 + size_at up s i ≤ length s

-- which it is
abbrev pub command_at : Bool → List ℕ → ℕ → Command
command_at up s i =
    command_of (row_of up (at s i)) (fields_of (row (row_of up (at s i))) (low_first (part (i + 1) (size_at up s i) s)))

-- x is what a step answers
pub record Steps (up : Bool) (s : List ℕ) (i : ℕ) (x : Step) : Type 0 where
  -- 16 and 17 exactly where they are due, and at no other place than i
  pub unknown : (p : ℕ) → Exactly (x ≡ Err (refusal 16 p)) ((p ≡ i) × UnknownAt s i)
  pub cut_short : (p : ℕ) → Exactly (x ≡ Err (refusal 17 p)) ((p ≡ i) × CutShortAt up s i)
  -- and no other number
  pub no_other : (r : Refusal) → (r.number ≡ 16 → ⊥) → (r.number ≡ 17 → ⊥) → x ≡ Err r → ⊥
  -- the end exactly at or past the length
  pub ends : Exactly (x ≡ (Ok None)) (length s ≤ i)
  -- a command exactly where it is whole, this one alone, and the place past it
  pub finds : (c : Command) (n : ℕ)
      → Exactly (x ≡ Ok (Some (c, n))) (WholeAt up s i × ((c ≡ command_at up s i) × (n ≡ i + 1 + size_at up s i)))

-- ---- writing values xs of the row r into n bytes, from place i on

-- 18: a field of the row has a value that its bits cannot hold
pub data Unfit (r : ℕ) (xs : List ℕ) : Type 0 where
  unfit : (k : ℕ) → k < count_in_row (row r) → 2 ^ width_at (row r) k ≤ at xs k → Unfit r xs

-- 7: there is no room for the identifier and the bytes behind it
abbrev pub NoRoom : ℕ → ℕ → ℕ → Type 0
NoRoom r n i = n < i + (1 + size_of r)

-- a command
abbrev pub row_conditions : ℕ → List ℕ → ℕ → ℕ → List Condition
row_conditions r xs n i = 18 when Unfit r xs ∷ 7 when NoRoom r n i ∷ []

-- values by direction and identifier, of which 16 goes ahead
abbrev pub field_conditions : Bool → ℕ → List ℕ → ℕ → ℕ → List Condition
field_conditions up id xs n i = 16 when Unknown id ∷ row_conditions (row_of up id) xs n i

-- w is what a writing answers that goes by these conditions and ends at place next
pub record Writes (cs : List Condition) (next : ℕ) (w : Result ℕ Refusal) : Type 0 where
  -- each number, at place 0, exactly where it is due
  pub refuses : (n : ℕ) → 0 < n → Exactly (w ≡ Err (refused n)) (Due cs n)
  -- the place past the command exactly where no condition holds, and no other place
  pub writes : (m : ℕ) → Exactly (w ≡ Ok m) ((m ≡ next) × Due cs 0)
  -- and no other refusal
  pub no_other : (q : Refusal) → NotOwn cs q → w ≡ Err q → ⊥

-- what it answers by its own number, 0 where it writes
abbrev pub written_of : ℕ → ℕ → Result ℕ Refusal
written_of next n = pick (eqb n 0) (Ok next) (Err (refused n))

-- 18 of DevStatusAns: the margin is outside -32 to 31
pub data OutsideMargin (margin : ℤ) : Type 0 where
  under : lt_z margin (negsuc 31) ≡ true → OutsideMargin margin
  over : lt_z (pos 31) margin ≡ true → OutsideMargin margin

-- ---- the lists of commands of the frame f: what is answered by a number, 0 where f is a data frame

abbrev pub lists_answer : List ℕ → ℕ → Result CommandLists Refusal
lists_answer f n = pick (eqb n 0) (Ok (lists_of (data_of f))) (Err (refused n))
