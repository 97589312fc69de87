-- The one line of a command that has a number which may be below 0 (docs/RULES.md, Text).
-- Assumes nothing.
use Rattle.std.specs.Prelude.{List, ℕ, ℤ, ◌++◌, codes}
use Rattle.std.specs.Fmt.{decimal, signed_decimal}

abbrev pub status_line : ℕ → ℤ → List ℕ
status_line battery margin =
    codes "DevStatusAns battery " ++ (decimal battery ++ (codes " margin " ++ (signed_decimal margin ++ codes "\n")))
