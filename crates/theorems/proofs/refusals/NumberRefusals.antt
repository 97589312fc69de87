-- Writing a MAC command of six numbers refuses exactly where it is to (docs/RULES.md, Refusals, From C): 16, 18 and 7 by the numbers
-- as they are given, also negative ones and those that no field could hold.
-- Assumes nothing.
use Rattle.frame.specs.Refusals.{refusal_in}
use Rattle.std.specs.Prelude.{Err, Ok}
use mathlib.Core.Path.{◌≡◌, refl, sym, ap, ◌∙◌, subst}
use mathlib.Core.Bool.{Bool, true, false, not}
use mathlib.Core.List.{List}
use Prim.Native.Nat.{ℕ, zero, suc, ◌+◌, ◌^◌, ◌≤◌, ◌<◌}
use native.Mathlib.Omega.{arith}
use lib.Dec.{leb, ltb}
use lib.IntN.{ℤ, pos, negsuc}
use lib.Pow.{pow-lt}
use borrow.Author.Tests.{ltb-true, ltb-false, lt-ltb, le-ltb}
use Rattle.base.specs.Bytes.{pick, at}
use Rattle.base.proofs.Cases.{by_bool, by_order, by_equal}
use Rattle.frame.specs.Refusals.{refused}
use Rattle.mac_commands.specs.Commands.{raw_of, put_as, written_as, fields_written}
use Rattle.mac_commands.specs.Layout.{fits, count_in_row, width_at, downs, ups, row, row_of, known, size_of}
use Rattle.mac_commands.proofs.TableLaws.{count_most, width_most}
use Rattle.command_numbers.specs.Numbers.{unsigned_of, id_of_number, bits_of_number, number, id_given, values_given}
use Rattle.command_numbers.proofs.NumberLaws.{status_bits, other_bits, down_bits}
use Rattle.theorems.specs.Exactly.{Exactly}
use Rattle.theorems.specs.CommandConditions.{Unknown, Unfit, unfit, NoRoom, Writes, written_of}
use Rattle.theorems.specs.CommandConditions as plain
use Rattle.theorems.specs.NumberConditions.{UnknownNumber, low, high, OutsideBits, negative, large, row_given, UnfitNumber, margin, value, number_conditions, numbers_written}
use Rattle.theorems.proofs.refusals.CommandRefusals.{if_unknown, no_row, if_unfit, if_over, told, writes, margin_outside, outside_margin}
use Rattle.theorems.proofs.refusals.FirstDue.{apart, if_when, if_not, with_none, Gives, no_more, passed}

-- two rules, one after the other
chained : {A B C : Type 0} → Exactly A B → Exactly B C → Exactly A C
chained x y = record { there = λ a. y.there (x.there a); back = λ c. x.back (y.back c) }

-- ---- the identifier

id_small : (m : ℕ) → m < 256 → id_of_number (pos m) ≡ m
unfolding id_of_number unsigned_of
id_small m h = simp (lt-ltb m 4294967296 (omega arith), lt-ltb m 256 h)

id_large : (m : ℕ) → 256 ≤ m → id_of_number (pos m) ≡ 0
unfolding id_of_number unsigned_of
id_large m h = by_bool (ltb m 4294967296) (λ t. simp (t, le-ltb m 256 h)) (λ t. simp t)

id_negative : (k : ℕ) → id_of_number (negsuc k) ≡ 0
unfolding id_of_number unsigned_of
id_negative k = refl

unknown_there : (z : ℤ) → Unknown (id_of_number z) → UnknownNumber z
unknown_there (pos m) u =
    by_order 256 m (λ l. high (lt-ltb 10 m (omega arith)))
    (λ l. by (subst (λ (x : ℕ). Unknown x) (id_small m l) u))
  where
    by : Unknown m → UnknownNumber (pos m)
    by (plain.low h) = low (lt-ltb m 2 h)
    by (plain.high h) = high (lt-ltb 10 m h)
unknown_there (negsuc k) u = low refl

unknown_back : (z : ℤ) → UnknownNumber z → Unknown (id_of_number z)
unknown_back (pos m) u =
    by_order 256 m (λ l. plain.low (let e : id_of_number (pos m) ≡ 0 = id_large m l in omega arith))
    (λ l. subst (λ (x : ℕ). Unknown x) (sym (id_small m l)) (by u))
  where
    by : UnknownNumber (pos m) → Unknown m
    by (low e) = plain.low (ltb-true m 2 e)
    by (high e) = plain.high (ltb-true 10 m e)
unknown_back (negsuc k) u = plain.low (let e : id_of_number (negsuc k) ≡ 0 = id_negative k in omega arith)

if_unknown_number : (z : ℤ) → Exactly (known (id_of_number z) ≡ false) (UnknownNumber z)
if_unknown_number z = chained (if_unknown (id_of_number z)) (record { there = unknown_there z; back = unknown_back z })

-- that of DevStatusAns
six_there : (z : ℤ) → id_of_number z ≡ 6 → z ≡ pos 6
six_there (pos m) e =
    by_order 256 m (λ l. let f : id_of_number (pos m) ≡ 0 = id_large m l in absurd (omega arith))
    (λ l. ap pos (sym (id_small m l) ∙ e))
six_there (negsuc k) e = let f : id_of_number (negsuc k) ≡ 0 = id_negative k in absurd (omega arith)

six_back : (z : ℤ) → z ≡ pos 6 → id_of_number z ≡ 6
six_back z e = ap id_of_number e ∙ id_small 6 (omega arith)

-- ---- a value

bits_there : (w : ℕ) (z : ℤ) → 2 ^ w ≤ 4294967295 → 2 ^ w ≤ unsigned_of z → OutsideBits w z
unfolding unsigned_of
bits_there w (pos m) b h = by (ltb m 4294967296) refl h
  where
    by : (t : Bool) → ltb m 4294967296 ≡ t → 2 ^ w ≤ pick t m 4294967295 → OutsideBits w (pos m)
    by true e l = large (le-ltb m (2 ^ w) l)
    by false e l = let g : 4294967296 ≤ m = ltb-false m 4294967296 e in large (le-ltb m (2 ^ w) (omega arith))
bits_there w (negsuc k) b h = negative refl

bits_back : (w : ℕ) (z : ℤ) → 2 ^ w ≤ 4294967295 → OutsideBits w z → 2 ^ w ≤ unsigned_of z
unfolding unsigned_of
bits_back w (pos m) b (negative e) = let g : m < 0 = ltb-true m 0 e in absurd (omega arith)
bits_back w (pos m) b (large e) = by (ltb m 4294967296)
  where
    by : (t : Bool) → 2 ^ w ≤ pick t m 4294967295
    by true = ltb-false m (2 ^ w) e
    by false = b
bits_back w (negsuc k) b o = b

-- ---- the values that six numbers give

plain_second : (up : Bool) (id : ℕ) (z : ℤ) → (up ≡ true → id ≡ 6 → ⊥) → bits_of_number up id z ≡ unsigned_of z
plain_second true id z n = sym (other_bits true id z (n refl))
plain_second false id z n = sym (down_bits false id z refl)

value_at : (up : Bool) (zs : List ℤ) (k : ℕ) → k < 5 → (up ≡ true → id_given zs ≡ 6 → k ≡ 1 → ⊥)
    → at (values_given up zs) k ≡ unsigned_of (number zs (suc k))
value_at up zs zero l n = refl
value_at up zs (suc zero) l n = plain_second up (id_given zs) (number zs 2) (λ u e. n u e refl)
value_at up zs (suc (suc zero)) l n = refl
value_at up zs (suc (suc (suc zero))) l n = refl
value_at up zs (suc (suc (suc (suc zero)))) l n = refl
value_at up zs (suc (suc (suc (suc (suc k))))) l n = absurd (omega arith)

-- the margin is the second of row 13, and has six bits
margin_row : (up : Bool) (id : ℕ) → up ≡ true → id ≡ 6 → row_of up id ≡ 13
margin_row up id u e = ap (λ (b : Bool). row_of b id) u ∙ ap (row_of true) e

margin_bits : 2 ^ width_at (row 13) 1 ≡ 64
unfolding row downs ups width_at
margin_bits = refl

margin_there : 1 < count_in_row (row 13)
unfolding row downs ups count_in_row
margin_there = omega arith

module _ (up : Bool) (zs : List ℤ) where
  abbrev r : ℕ
  r = row_given up zs

  abbrev xs : List ℕ
  xs = values_given up zs

  -- a field of a row holds fewer than 32 bits
  below : (k : ℕ) → r < 18 → k < count_in_row (row r) → 2 ^ width_at (row r) k ≤ 4294967295
  below k l h =
      let c : count_in_row (row r) ≤ 5 = count_most r l in
      let g : 2 ^ width_at (row r) k < 2 ^ 25 = pow-lt (width_most r k l (omega arith)) in
      omega arith

  module _ (u : up ≡ true) (e : id_given zs ≡ 6) where
    its_row : r ≡ 13
    its_row = margin_row up (id_given zs) u e

    its_value : at xs 1 ≡ raw_of (number zs 2)
    its_value = sym (status_bits up (id_given zs) (number zs 2) u e)

    its_bits : 2 ^ width_at (row r) 1 ≡ 64
    its_bits = ap (λ (x : ℕ). 2 ^ width_at (row x) 1) its_row ∙ margin_bits

  -- the margin, or another field
  by_margin : {A : Type 0} (k : ℕ) → (up ≡ true → id_given zs ≡ 6 → k ≡ 1 → A)
      → ((up ≡ true → id_given zs ≡ 6 → k ≡ 1 → ⊥) → A) → A
  by_margin k yes-it not-it =
      by_bool up
      (λ u.
      by_equal (id_given zs) 6
      (λ e. by_equal k 1 (yes-it u e) (λ n. not-it (λ v f. n)))
      (λ n. not-it (λ v f g. n f)))
      (λ u. not-it (λ v f g. apart (sym v ∙ u)))

  unfit_there : r < 18 → Unfit r xs → UnfitNumber up zs
  unfit_there l (unfit k h m) =
      by_margin k
      (λ u e f.
      margin u (six_there (number zs 0) e)
      (margin_outside (number zs 2)
      (let g : 2 ^ width_at (row r) 1 ≤ at xs 1 = subst (λ (j : ℕ). 2 ^ width_at (row r) j ≤ at xs j) f m in
      omega (arith, its_value u e, its_bits u e))))
      (λ n.
      value k h (λ u s. n u (six_back (number zs 0) s))
      (bits_there (width_at (row r) k) (number zs (suc k)) (below k l h)
      (subst (λ (x : ℕ). 2 ^ width_at (row r) k ≤ x) (value_at up zs k (omega (arith, count_most r l)) n) m)))

  unfit_back : r < 18 → UnfitNumber up zs → Unfit r xs
  unfit_back l (margin u s o) =
      let e : id_given zs ≡ 6 = six_back (number zs 0) s in
      unfit 1 (subst (λ (x : ℕ). 1 < count_in_row (row x)) (sym (its_row u e)) margin_there)
      (omega (arith, its_value u e, its_bits u e, outside_margin (number zs 2) o))
  unfit_back l (value k h n o) =
      unfit k h
      (subst (λ (x : ℕ). 2 ^ width_at (row r) k ≤ x)
      (sym (value_at up zs k (omega (arith, count_most r l)) (λ u e. n u (six_there (number zs 0) e))))
      (bits_back (width_at (row r) k) (number zs (suc k)) (below k l h) o))

  -- past the table there is no field
  none_there : 18 ≤ r → Unfit r xs → ⊥
  unfolding count_in_row
  none_there l (unfit k h m) = let z : count_in_row (row r) ≡ 0 = ap count_in_row (no_row r xs l) in omega arith

  none_back : 18 ≤ r → UnfitNumber up zs → ⊥
  unfolding count_in_row
  none_back l (margin u s o) = let e : r ≡ 13 = its_row u (six_back (number zs 0) s) in omega arith
  none_back l (value k h n o) = let z : count_in_row (row r) ≡ 0 = ap count_in_row (no_row r xs l) in omega arith

  if_unfit_number : Exactly (fits (row r) xs ≡ false) (UnfitNumber up zs)
  if_unfit_number =
      chained (if_unfit r xs)
      (by_order 18 r (λ l. record { there = λ u. absurd (none_there l u); back = λ u. absurd (none_back l u) })
      (λ l. record { there = unfit_there l; back = unfit_back l }))

-- ---- the theorem

module _ (up : Bool) (zs : List ℤ) (n i : ℕ) where
  next : ℕ
  next = i + (1 + size_of (row_given up zs))

  numbers_give : Gives (written_of next) (number_conditions up zs n i) (numbers_written up zs n i)
  unfolding next fields_written written_as put_as
  numbers_give =
      let is_Known = known (id_given zs) in
      let all_fit = fits (row (row_given up zs)) (values_given up zs) in
      let room = leb next n in
      passed (written_of next) refusal_in (told next) tt is_Known
      (if_when (not is_Known) (if_not is_Known (if_unknown_number (number zs 0))))
      (passed (written_of next) refusal_in (told next) tt all_fit
      (if_when (not all_fit) (if_not all_fit (if_unfit_number up zs)))
      (passed (written_of next) refusal_in (told next) tt room (if_when (not room) (if_not room (if_over next n)))
      (no_more (written_of next) refusal_in (told next))))

  -- 16, 18, 7
  pub numbers_write : Writes (number_conditions up zs n i) (i + (1 + size_of (row_given up zs))) (numbers_written up zs n i)
  unfolding next
  numbers_write = writes next numbers_give

  -- written out
  pub numbers_16 : Exactly (numbers_written up zs n i ≡ Err (refused 16)) (UnknownNumber (number zs 0))
  numbers_16 = numbers_write.refuses 16 (omega arith)

  pub numbers_18 : Exactly (numbers_written up zs n i ≡ Err (refused 18))
      ((UnknownNumber (number zs 0) → ⊥) × UnfitNumber up zs)
  numbers_18 = numbers_write.refuses 18 (omega arith)

  pub numbers_7 : Exactly (numbers_written up zs n i ≡ Err (refused 7))
      ((UnknownNumber (number zs 0) → ⊥) × ((UnfitNumber up zs → ⊥) × NoRoom (row_given up zs) n i))
  numbers_7 = numbers_write.refuses 7 (omega arith)

  pub numbers_written_lem : (m : ℕ)
      → Exactly (numbers_written up zs n i ≡ Ok m)
      ((m ≡ i + (1 + size_of (row_given up zs)))
      × ((UnknownNumber (number zs 0) → ⊥) × ((UnfitNumber up zs → ⊥) × (NoRoom (row_given up zs) n i → ⊥))))
  numbers_written_lem m = with_none (number_conditions up zs n i) tt (numbers_write.writes m)
