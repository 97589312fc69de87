-- The fields of a layout as the code keeps them. No other definition rests on it.
-- Assumes nothing.
use Rattle.std.specs.Prelude.{List, [], ◌∷◌, ℕ, zero, suc}
use Rattle.mac_commands.specs.Layout.{Piece, count_in_row, place_in_row, width_at}

-- n fields from the field k on: of each its lowest bit, and how many it has
abbrev pub fields_from : ℕ → ℕ → List Piece → List (ℕ × ℕ)
fields_from zero k ps = []
fields_from (suc n) k ps = (place_in_row ps k, width_at ps k) ∷ fields_from n (suc k) ps

abbrev pub field_list : List Piece → List (ℕ × ℕ)
field_list ps = fields_from (count_in_row ps) 0 ps
