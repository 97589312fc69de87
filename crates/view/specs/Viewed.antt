-- A view of a frame, from docs/RULES.md, Reading: the caller's bytes with the frame's numbers beside them, and its parts.
-- Assumes nothing.
use Rattle.std.specs.Prelude.{ℕ, List}
use Rattle.std.specs.Borrow.{Bor}
use Rattle.frame.specs.Reading.{read_of}
use Rattle.frame.specs.ReadingNumbers.{values_of}
use Rattle.view.specs.Parts.{shown_of, within}
use Rattle.view.specs.declared.View.{View}
use Rattle.view.specs.declared.parts.Field.{Field}

-- the view that holds the slice x itself
abbrev pub view_of : Bor (List ℕ) → View
view_of x = record { bytes = x; numbers = values_of (read_of x.now) }

-- a part of a view's bytes, by its numbers: where it lies in memory, and what it holds
abbrev pub part_of : View → Field → (ℕ × ℕ) × List ℕ
part_of v field = within v.bytes (shown_of v.bytes.now v.numbers field)
