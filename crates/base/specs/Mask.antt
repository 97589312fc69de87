-- A string of bytes under a mask that is given by index, as a key stream is.
-- Assumes nothing.
use Rattle.std.specs.Prelude.{List, ℕ, length}
use Rattle.base.specs.Bytes.{tab, at, ◌⊕◌}

-- each byte exclusive-or what the mask has at its index
unfoldable pub masked : List ℕ → (ℕ → ℕ) → List ℕ
masked p f = tab (length p) (λ j. at p j ⊕ f j)
