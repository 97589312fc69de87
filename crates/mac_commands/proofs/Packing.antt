-- The loop that makes a command's number of its values, from the first field on.
-- Assumes nothing.
use mathlib.Core.Path.{◌≡◌, refl, sym, ap, ◌∙◌, subst}
use mathlib.Core.Bool.{Bool, true}
use mathlib.Core.List.{List}
use Prim.Native.Nat.{ℕ, zero, suc, ◌+◌, ◌*◌, ◌^◌, ◌≤◌, ◌<◌}
use native.Mathlib.Nat.{lt_of_lt_of_le, le_of_lt}
use native.Mathlib.Numerals.{add-one}
use native.Mathlib.Omega.{arith}
use lib.Dec.{ltb}
use lib.ListN.{length, get_or}
use lib.Pow.{pow_mono, shl_lt}
use borrow.Author.Tests.{ltb-true, ltb-false}
use Rattle.base.specs.Bytes.{pick, at}
use Rattle.base.proofs.Cases.{by_bool}
use Rattle.mac_commands.specs.Layout.{count_in_row, number_of, fits, place_in_row, width_at, row}
use Rattle.mac_commands.specs.Commands.{packed_of}
use Rattle.mac_commands.specs.Table.{field_list}
use Rattle.std.specs.Prelude.{Some, None}
use Rattle.mac_commands.proofs.LayoutLaws.{each_fits, fits_each, named_below}
use Rattle.mac_commands.proofs.TableLaws.{field_count, field_listed, sum, row_sum, row_distinct, row_within, row_named, count_most, place_most, width_most, end_most}

sum_most : (n m : ℕ) (f : ℕ → ℕ) → ((k : ℕ) → k < n → f k ≤ m) → sum n f ≤ n * m
sum_most zero m f h = omega arith
sum_most (suc n) m f h =
    let a : sum n f ≤ n * m = sum_most n m f (λ k l. h k (omega arith)) in
    let b : f n ≤ m = h n (omega arith) in
    let e : suc n * m ≡ n * m + m = omega arith in
    omega arith

-- a value at its place takes at most forty bits
pub placed_most : (r k x : ℕ) → r < 18 → k < 5 → x < 2 ^ width_at (row r) k → x * 2 ^ place_in_row (row r) k < 2 ^ 40
placed_most r k x hr hk h =
    lt_of_lt_of_le (shl_lt (width_at (row r) k) (place_in_row (row r) k) h)
    (pow_mono {j = 40} (omega (arith, end_most r k hr hk)))

-- a field of the table
pub record Known (r k : ℕ) (f : ℕ × ℕ) : Type 0 where
  pub there : k < count_in_row (row r)
  pub index : k < 5
  pub place : f.0 ≡ place_in_row (row r) k
  pub width : f.1 ≡ width_at (row r) k
  pub low : f.0 < 64
  pub narrow : f.1 < 64

pub known_field : {r k : ℕ} {fs : List (ℕ × ℕ)} → r < 18 → fs ≡ field_list (row r) → k < length fs → Known r k (get_or fs k (0, 0))
known_field {r} {k} {fs} hr e h =
    let there : k < count_in_row (row r) = omega (arith, ap length e, field_count (row r)) in
    let few : k < 5 = omega (arith, count_most r hr) in
    let f : get_or fs k (0, 0) ≡ (place_in_row (row r) k, width_at (row r) k) =
    ap (λ (l : List (ℕ × ℕ)). get_or l k (0, 0)) e ∙ field_listed (row r) k there in
    let p : (get_or fs k (0, 0)).0 ≡ place_in_row (row r) k = ap (λ (x : ℕ × ℕ). x.0) f in
    let w : (get_or fs k (0, 0)).1 ≡ width_at (row r) k = ap (λ (x : ℕ × ℕ). x.1) f in
    record {
      there = there;
      index = few;
      place = p;
      width = w;
      low = omega (arith, place_most r k hr few);
      narrow = omega (arith, width_most r k hr few);
    }

-- the values ahead of the field k fit, and v is their sum
pub record Packing (r : ℕ) (xs : List ℕ) (v k : ℕ) : Type 0 where
  pub known : r < 18
  pub upto : k ≤ count_in_row (row r)
  pub value : v ≡ sum k (λ j. at xs j * 2 ^ place_in_row (row r) j)
  pub fit : (j : ℕ) → j < k → at xs j < 2 ^ width_at (row r) j

pub start : (r : ℕ) (xs : List ℕ) → r < 18 → Packing r xs 0 0
start r xs h = record { known = h; upto = omega arith; value = refl; fit = λ j l. absurd (none_below j l) }
  where
    none_below : (j : ℕ) → j < 0 → ⊥
    none_below j l = omega arith

pub step : {r : ℕ} {xs : List ℕ} {v k : ℕ} → Packing r xs v k → k < count_in_row (row r) → at xs k < 2 ^ width_at (row r) k
    → Packing r xs (v + at xs k * 2 ^ place_in_row (row r) k) (k + 1)
step {r} {xs} {v} {k} p l h =
    record {
      known = p.known;
      upto = omega arith;
      value =
          ap (λ (n : ℕ). n + at xs k * 2 ^ place_in_row (row r) k) p.value
          ∙ ap (λ (n : ℕ). sum n (λ j. at xs j * 2 ^ place_in_row (row r) j)) (sym (add-one k));
      fit = one_more k p.fit h;
    }
  where
    one_more : (k : ℕ) → ((j : ℕ) → j < k → at xs j < 2 ^ width_at (row r) j) → at xs k < 2 ^ width_at (row r) k
        → (j : ℕ) → j < k + 1 → at xs j < 2 ^ width_at (row r) j
    one_more k f h j l =
        by_bool (ltb j k) (λ t. f j (ltb-true j k t))
        (λ t.
        let e : k ≡ j = omega (arith, ltb-false j k t) in subst (λ (n : ℕ). at xs n < 2 ^ width_at (row r) n) e h)

pub bound : {r : ℕ} {xs : List ℕ} {v k : ℕ} → Packing r xs v k → v ≤ 5 * 2 ^ 40
bound {r} {xs} {v} {k} p =
    let five : count_in_row (row r) ≤ 5 = count_most r p.known in
    let s : sum k (λ j. at xs j * 2 ^ place_in_row (row r) j) ≤ k * 2 ^ 40 =
    sum_most k (2 ^ 40) (λ j. at xs j * 2 ^ place_in_row (row r) j)
    (λ j l. le_of_lt (placed_most r j (at xs j) p.known (omega (arith, p.upto)) (p.fit j l))) in
    omega (arith, p.value, p.upto)

-- a value that fits, added at its place
pub record Added (r : ℕ) (xs : List ℕ) (k v y : ℕ) : Type 0 where
  pub small : y < 2 ^ 64
  pub fits : v + y < 2 ^ 64
  pub packing : Packing r xs (v + y) (k + 1)

pub added : {r k v : ℕ} {xs : List ℕ} {f : ℕ × ℕ} {p q : ℕ} → Packing r xs v k → Known r k f → p ≡ 2 ^ f.1 → at xs k < p → q ≡ 2 ^ f.0
    → Added r xs k v (at xs k * q)
added {r} {k} {v} {xs} {f} h i ep l eq =
    let w : at xs k < 2 ^ width_at (row r) k = omega (arith, ep, ap (λ (n : ℕ). 2 ^ n) i.width) in
    rw (eq, i.place)
    (let m : at xs k * 2 ^ place_in_row (row r) k < 2 ^ 40 = placed_most r k (at xs k) h.known i.index w in
    record { small = omega arith; fits = omega (arith, bound h); packing = step h i.there w })

pub done : {r : ℕ} {xs : List ℕ} {v k : ℕ} → Packing r xs v k → count_in_row (row r) ≤ k → Some v ≡ packed_of r xs
unfolding packed_of
done {r} {xs} {v} {k} p l =
    let e : k ≡ count_in_row (row r) = omega (arith, p.upto) in
    let f : fits (row r) xs ≡ true =
    fits_each (row r) xs (row_distinct r p.known)
    (λ j n. p.fit j (omega (arith, named_below (row r) (count_in_row (row r)) j (row_within r p.known) n))) in
    ap Some (p.value ∙ ap (λ (n : ℕ). sum n (λ j. at xs j * 2 ^ place_in_row (row r) j)) e ∙ sym (row_sum xs r p.known))
    ∙ sym (ap (λ (t : Bool). pick t (Some (number_of (row r) xs)) None) f)

pub unfit : (r : ℕ) (xs : List ℕ) (k : ℕ) → r < 18 → k < count_in_row (row r) → 2 ^ width_at (row r) k ≤ at xs k
    → None ≡ packed_of r xs
unfolding packed_of
unfit r xs k hr hk h =
    by_bool (fits (row r) xs)
    (λ t.
    let c : at xs k < 2 ^ width_at (row r) k = each_fits (row r) xs k t (row_named r k hr hk) in
    let no : ⊥ = omega arith in
    absurd no)
    (λ t. sym (ap (λ (b : Bool). pick b (Some (number_of (row r) xs)) None) t))
