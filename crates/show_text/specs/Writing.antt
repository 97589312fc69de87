-- Text that is put together, as the code does it: what is written of it, and what bytes that are added make of it. Past 128 bytes
-- nothing is added. No public promise rests on it.
-- Assumes nothing.
use Rattle.std.specs.Prelude.{◌≡◌, List, ◌++◌, ℕ, ◌≤◌, take}
use Rattle.show_text.specs.declared.writer.Text.{Text}

abbrev pub written : Text → List ℕ
written t = take t.len t.bytes

-- u is t with the bytes s added
pub record Adds (t : Text) (s : List ℕ) (u : Text) : Type 0 where
  pub inside : t.len ≤ 128 → u.len ≤ 128
  pub text : t.len ≤ 128 → written u ≡ take 128 (written t ++ s)
