-- The eighteen rows of the table, by tests that are computed once: which fields they have, and places and widths that a word
-- holds.
-- Assumes nothing.
use mathlib.Core.Path.{◌≡◌, refl, sym, ap, ap₂, ◌∙◌, subst}
use mathlib.Core.Bool.{Bool, true, false}
use mathlib.Core.List.{List, [], ◌∷◌, ◌++◌}
use Prim.Native.Nat.{ℕ, zero, suc, ◌+◌, ◌*◌, ◌/◌, ◌%◌, ◌^◌, ◌≤◌, ◌<◌}
use native.Mathlib.Nat.{not-suc-le-zero, mod-lt}
use native.Mathlib.Omega.{arith}
use lib.ListN.{length, get_or, get_or-eq_default}
use lib.Pow.{pow_pos}
use lib.Dec.{T, ltb, ltb→lt}
use borrow.Author.Tests.{lt-ltb}
use Rattle.base.specs.Bytes.{pick, at}
use Rattle.base.proofs.Tested.{below, passes, bounded, agree, last_or_less}
use Rattle.base.proofs.Tab.{at-tab}
use Rattle.mac_commands.specs.Layout.{Piece, bits_of, count_in_row, place_in_row, width_at, field_at, fields_of, fits, number_of, downs, ups, row, row_of, size_of}
use Rattle.mac_commands.specs.Table.{fields_from, field_list}
use Rattle.mac_commands.proofs.LayoutLaws.{named, named_below, distinct, within, fits_each}

-- ---- eighteen rows, each with five places for fields

-- what is said of each number below n, one after the other
abbrev pub Every : (ℕ → Type 0) → ℕ → Type 0
Every P zero = Unit
Every P (suc n) = Every P n × P n

pub every : (P : ℕ → Type 0) (n : ℕ) → Every P n → (r : ℕ) → r < n → P r
every P zero h r l = absurd (not-suc-le-zero l)
every P (suc n) h r l = last_or_less P n h.1 (every P n h.0) r l

passed : (b : Bool) → T b → b ≡ true
passed true t = refl
passed false t = absurd t

rows_pass : (p : ℕ → Bool) → T (below 18 p) → (r : ℕ) → r < 18 → p r ≡ true
rows_pass p t r h = passed (p r) (passes 18 p t r h)

grid_passes : (p : ℕ → ℕ → Bool) → T (below 90 (λ j. p (j / 5) (j % 5))) → (r k : ℕ) → r < 18 → k < 5 → T (p r k)
grid_passes p t r k hr hk =
    let a : (r * 5 + k) / 5 ≡ r = omega arith in
    let b : (r * 5 + k) % 5 ≡ k = omega arith in
    subst T (ap₂ p a b) (passes 90 (λ j. p (j / 5) (j % 5)) t (r * 5 + k) (omega arith))

-- ---- which fields a row has

pub row_distinct : (r : ℕ) → r < 18 → distinct (row r) ≡ true
unfolding row downs ups named distinct
row_distinct = rows_pass (λ r. distinct (row r)) tt

-- indexes 0, 1, ..: each below the count, and each number below the count is one
pub row_within : (r : ℕ) → r < 18 → within (count_in_row (row r)) (row r) ≡ true
unfolding row downs ups count_in_row within
row_within = rows_pass (λ r. within (count_in_row (row r)) (row r)) tt

pub row_named : (r k : ℕ) → r < 18 → k < count_in_row (row r) → named (row r) k ≡ true
unfolding row downs ups count_in_row named
row_named r k hr hk =
    has (ltb k (count_in_row (row r))) (named (row r) k) (lt-ltb k (count_in_row (row r)) hk)
    (grid_passes (λ r k. pick (ltb k (count_in_row (row r))) (named (row r) k) true) tt r k hr
    (omega (arith, bounded 18 6 (λ r. count_in_row (row r)) tt r hr)))
  where
    has : (a b : Bool) → a ≡ true → T (pick a b true) → b ≡ true
    has true b e t = passed b t
    has false b e t = let z : ◌≡◌ {A = ℕ} 0 1 = cc in absurd (omega arith)

pub count_most : (r : ℕ) → r < 18 → count_in_row (row r) ≤ 5
unfolding row downs ups count_in_row
count_most r h = omega (arith, bounded 18 6 (λ r. count_in_row (row r)) tt r h)

-- a number that is none of the first n
abbrev pub Rest : ℕ → ℕ → Type 0
Rest zero r = Unit
Rest (suc n) r = Rest n r × (r ≡ n → ⊥)

pub past : (n r : ℕ) → Rest n r → n ≤ r
past zero r h = omega arith
past (suc n) r h = let l : n ≤ r = past n r h.0 in let d : r ≡ n → ⊥ = h.1 in omega arith

-- what is no row has no field
no_row : (r : ℕ) → 18 ≤ r → row r ≡ []
unfolding row downs ups
no_row r h = get_or-eq_default (downs ++ ups) [] h

pub no_fields : (r v : ℕ) → 18 ≤ r → fields_of (row r) v ≡ 0 ∷ 0 ∷ 0 ∷ 0 ∷ 0 ∷ []
unfolding place_in_row width_at
no_fields r v h =
    let z : v / 1 % 1 ≡ 0 = omega arith in
    ap (λ (ps : List Piece). fields_of ps v) (no_row r h) ∙ ap (λ (x : ℕ). x ∷ x ∷ x ∷ x ∷ x ∷ []) z

-- ---- the fields of a layout as a list

field_long : (n k : ℕ) (ps : List Piece) → length (fields_from n k ps) ≡ n
field_long zero k ps = refl
field_long (suc n) k ps = ap suc (field_long n (suc k) ps)

field_there : (n k : ℕ) (ps : List Piece) (j : ℕ) → j < n
    → get_or (fields_from n k ps) j (0, 0) ≡ (place_in_row ps (k + j), width_at ps (k + j))
field_there zero k ps j h = absurd (omega arith)
field_there (suc n) k ps zero h = ap (λ (i : ℕ). (place_in_row ps i, width_at ps i)) (omega arith)
field_there (suc n) k ps (suc j) h =
    field_there n (suc k) ps j (omega arith) ∙ ap (λ (i : ℕ). (place_in_row ps i, width_at ps i)) (omega arith)

pub field_count : (ps : List Piece) → length (field_list ps) ≡ count_in_row ps
field_count ps = field_long (count_in_row ps) 0 ps

pub field_listed : (ps : List Piece) (k : ℕ) → k < count_in_row ps
    → get_or (field_list ps) k (0, 0) ≡ (place_in_row ps k, width_at ps k)
field_listed ps k h =
    field_there (count_in_row ps) 0 ps k h ∙ ap (λ (i : ℕ). (place_in_row ps i, width_at ps i)) (omega arith)

-- ---- sizes, places, widths

pub row_whole : (r : ℕ) → r < 18 → bits_of (row r) ≡ size_of r * 8
unfolding row downs ups bits_of size_of
row_whole r h = agree 18 (λ r. bits_of (row r)) (λ r. size_of r * 8) tt r h

pub size_most : (r : ℕ) → r < 18 → size_of r < 6
unfolding row downs ups bits_of size_of
size_most r h = bounded 18 6 size_of tt r h

grid_below : (m : ℕ) (f : ℕ → ℕ → ℕ) → T (below 90 (λ j. ltb (f (j / 5) (j % 5)) m)) → (r k : ℕ) → r < 18 → k < 5 → f r k < m
grid_below m f t r k hr hk = ltb→lt (f r k) m (grid_passes (λ r k. ltb (f r k) m) t r k hr hk)

pub place_most : (r k : ℕ) → r < 18 → k < 5 → place_in_row (row r) k < 41
unfolding row downs ups place_in_row
place_most = grid_below 41 (λ r k. place_in_row (row r) k) tt

pub width_most : (r k : ℕ) → r < 18 → k < 5 → width_at (row r) k < 25
unfolding row downs ups width_at
width_most = grid_below 25 (λ r k. width_at (row r) k) tt

pub end_most : (r k : ℕ) → r < 18 → k < 5 → place_in_row (row r) k + width_at (row r) k < 41
unfolding row downs ups place_in_row width_at
end_most = grid_below 41 (λ r k. place_in_row (row r) k + width_at (row r) k) tt

-- the fields of any number fit
pub fields_fit : (r v : ℕ) → r < 18 → fits (row r) (fields_of (row r) v) ≡ true
fields_fit r v h =
    fits_each (row r) (fields_of (row r) v) (row_distinct r h)
    (λ k n.
    let l : k < count_in_row (row r) = named_below (row r) (count_in_row (row r)) k (row_within r h) n in
    subst (λ (x : ℕ). x < 2 ^ width_at (row r) k)
    (sym (at-tab 5 (field_at (row r) v) k (omega (arith, count_most r h))))
    (mod-lt _ (pow_pos (width_at (row r) k))))

-- ---- the number of a row is the sum of its values, each at its place

abbrev pub sum : ℕ → (ℕ → ℕ) → ℕ
sum zero f = 0
sum (suc n) f = sum n f + f n

abbrev IsSum : List ℕ → ℕ → Type 0
IsSum xs r = number_of (row r) xs ≡ sum (count_in_row (row r)) (λ k. at xs k * 2 ^ place_in_row (row r) k)

pub row_sum : (xs : List ℕ) (r : ℕ) → r < 18 → IsSum xs r
unfolding row downs ups count_in_row place_in_row number_of
row_sum xs =
    every (IsSum xs) 18
    ((((((((((((((((((tt, omega arith), omega arith), omega arith), omega arith), omega arith), omega arith), omega arith), omega arith), omega arith), omega arith), omega arith), omega arith), omega arith), omega arith), omega arith), omega arith), omega arith), omega arith)

-- ---- the row of an identifier

pub row_below : (up : Bool) (id : ℕ) → id ≤ 10 → row_of up id < 18
row_below true id h = omega arith
row_below false id h = omega arith
