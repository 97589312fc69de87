-- Runs of bytes that are stored into a string from a place on, and that are taken out of one. What is said of a stored run
-- and of one that is taken holds of every place, also one outside the string.
-- Assumes nothing.
use Rattle.std.specs.Prelude.{◌≡◌, List, ℕ, ◌+◌, ◌-◌, min, leb, length}
use Rattle.std.proofs.lemmas.List.Edits.{sets}
use Rattle.base.specs.Bytes.{pick, part, zeros}

-- t is stored into l from place i on, which gives e; r is the place past it. It says so of a run that lies inside.
pub record Put (l : List ℕ) (i : ℕ) (t : List ℕ) (r : ℕ) (e : List ℕ) : Type 0 where
  pub next : r ≡ i + length t
  pub list : e ≡ sets l i t

-- s is stored into l from place i on, which gives e (`sets` leaves out what would lie past the end of l); r is the place
-- past what was stored
pub record Stored (l : List ℕ) (i : ℕ) (s : List ℕ) (r : ℕ) (e : List ℕ) : Type 0 where
  pub next : r ≡ i + min (length s) (length l - i)
  pub list : e ≡ sets l i s

-- n bytes from place i on, or zeros where they do not all lie inside
unfoldable pub run_at : ℕ → List ℕ → ℕ → List ℕ
run_at n l i = pick (leb (i + n) (length l)) (part i n l) (zeros n)
