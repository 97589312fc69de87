-- The number of up to five bytes, low byte first, as a sum.
-- Assumes nothing.
use mathlib.Core.Path.{◌≡◌, ap, ◌∙◌}
use mathlib.Core.List.{List}
use Prim.Native.Nat.{ℕ, ◌+◌, ◌*◌, ◌≤◌}
use native.Mathlib.Omega.{arith}
use lib.ListN.{length}
use Rattle.base.specs.Bytes.{at, part, tab}
use Rattle.base.proofs.Parts.{part-tab}
use Rattle.mac_commands.specs.Layout.{low_first}

by_place : (s : List ℕ) (from n k : ℕ) → n ≡ k → from + n ≤ length s
    → low_first (part from n s) ≡ low_first (tab k (λ i. at s (from + i)))
by_place s from n k e h =
    ap low_first (part-tab from n s h) ∙ ap (λ (m : ℕ). low_first (tab m (λ i. at s (from + i)))) e

first : (s : List ℕ) (from : ℕ) → at s (from + 0) ≡ at s from
first s from = ap (at s) (omega arith)

pub none : (s : List ℕ) (from n : ℕ) → n ≡ 0 → from + n ≤ length s → low_first (part from n s) ≡ 0
unfolding low_first
none s from n e h = by_place s from n 0 e h

pub one : (s : List ℕ) (from n : ℕ) → n ≡ 1 → from + n ≤ length s → low_first (part from n s) ≡ at s from
unfolding low_first
one s from n e h = by_place s from n 1 e h ∙ omega (arith, first s from)

pub two : (s : List ℕ) (from n : ℕ) → n ≡ 2 → from + n ≤ length s
    → low_first (part from n s) ≡ at s from + 256 * at s (from + 1)
unfolding low_first
two s from n e h = by_place s from n 2 e h ∙ omega (arith, first s from)

pub three : (s : List ℕ) (from n : ℕ) → n ≡ 3 → from + n ≤ length s
    → low_first (part from n s) ≡ at s from + 256 * at s (from + 1) + 65536 * at s (from + 2)
unfolding low_first
three s from n e h = by_place s from n 3 e h ∙ omega (arith, first s from)

pub four : (s : List ℕ) (from n : ℕ) → n ≡ 4 → from + n ≤ length s
    → low_first (part from n s) ≡ at s from + 256 * at s (from + 1) + 65536 * at s (from + 2) + 16777216 * at s (from + 3)
unfolding low_first
four s from n e h = by_place s from n 4 e h ∙ omega (arith, first s from)

pub five : (s : List ℕ) (from n : ℕ) → n ≡ 5 → from + n ≤ length s
    → low_first (part from n s)
    ≡ at s from + 256 * at s (from + 1) + 65536 * at s (from + 2) + 16777216 * at s (from + 3) + 4294967296 * at s (from + 4)
unfolding low_first
five s from n e h = by_place s from n 5 e h ∙ omega (arith, first s from)
