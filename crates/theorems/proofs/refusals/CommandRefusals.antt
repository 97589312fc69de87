-- Reading and writing a MAC command refuse exactly where they are to (docs/RULES.md, Refusals). A step gives 16 and 17 at its own
-- place; writing goes by 16, 18 and 7 at place 0, and writes nothing where it refuses; the lists of a frame hand on what
-- reading gives.
-- Assumes nothing.
use mathlib.Core.Path.{ap₂}
use Rattle.frame.specs.Refusals.{refusal_in}
use Rattle.std.specs.Prelude.{Err, None, Ok, Result, Some}
use mathlib.Core.Path.{◌≡◌, refl, sym, ap, ◌∙◌}
use mathlib.Core.Bool.{Bool, true, false, not}
use mathlib.Core.List.{List, [], ◌∷◌, ◌++◌}
use mathlib.Core.Logic.{◌⊎◌, inl, inr, ⊎_elim}
use Prim.Native.Nat.{ℕ, zero, suc, ◌+◌, ◌-◌, ◌^◌, ◌≤◌, ◌<◌}
use native.Mathlib.Nat.{not-suc-le-zero, mod-eq_of_lt}
use native.Mathlib.Omega.{arith}
use lib.Dec.{eqb, leb, ltb}
use lib.IntN.{ℤ, pos, negsuc}
use lib.ListN.{length, get_or-eq_default}
use lib.Seq.{sets}
use borrow.Author.Tests.{ne_eqb, leb-false, lt-leb, ltb-true, ltb-false, lt-ltb}
use Rattle.base.specs.Bytes.{pick, at}
use Rattle.base.proofs.Cases.{by_bool, by_order}
use Rattle.base.proofs.Tested.{both, last_or_less}
use Rattle.frame.specs.Conditions.{IsData}
use Rattle.frame.specs.Reading.{read_of, data_of}
use Rattle.frame.specs.ReadingNumbers.{on_data}
use Rattle.frame.specs.PackedReading.{numbered}
use Rattle.frame.specs.Refusals.{refusal, refused}
use Rattle.frame.specs.declared.parser.DataFrame.{DataFrame}
use Rattle.frame.specs.Reading.{Reading}
use Rattle.frame.specs.declared.parser.Frame.TheVariants.{JoinRequest, JoinAccept, Data}
use Rattle.frame.specs.declared.refusals.Refusal.{Refusal}
use Rattle.frame.proofs.ReadingLaws.{Says, answers}
use Rattle.mac_commands.specs.Commands.{raw_of, fields_as, row_at, values_of, raw_step_at, step_of, step_at, row_bytes, put_as, put_in, written_as, written_in, command_written, command_in, fields_written, fields_in}
use Rattle.mac_commands.specs.InFrame.{lists_of, in_frame_of}
use Rattle.mac_commands.specs.Layout.{Piece, fits, count_in_row, width_at, number_of, downs, ups, row, row_of, known, size_of}
use Rattle.mac_commands.specs.declared.in_frame.CommandLists.{CommandLists}
use Rattle.mac_commands.specs.declared.maccommands.Command.{Command}
use Rattle.mac_commands.specs.declared.maccommands.Command.TheVariants.{DevStatusAns}
use Rattle.mac_commands.specs.Commands.{RawStep}
use Rattle.mac_commands.specs.Commands.{Step}
use Rattle.mac_commands.proofs.LayoutLaws.{named_below, each_fits, fits_each}
use Rattle.mac_commands.proofs.MarginLaws as margins
use Rattle.mac_commands.proofs.StepLaws as steps
use Rattle.mac_commands.proofs.TableLaws.{row_distinct, row_within, row_named}
use Rattle.frame_c.specs.CCommands.{step_answer}
use Rattle.theorems.specs.Exactly.{Exactly, Condition}
use Rattle.theorems.specs.ByReading.{data_frame, AfterReading}
use Rattle.theorems.specs.CommandConditions.{Unknown, low, high, Known, size_at, UnknownAt, CutShortAt, WholeAt, command_at, Steps, Unfit, unfit, NoRoom, row_conditions, field_conditions, Writes, written_of, OutsideMargin, under, over, lists_answer}
use Rattle.theorems.proofs.refusals.FirstDue.{apart, if_when, if_not, with_none, Gives, no_more, passed, says_told, no_other}
use Rattle.theorems.proofs.refusals.ReadFirst.{on, after_reading}

-- ---- identifiers

both_fails : (a : Bool) → both a false ≡ false
both_fails true = refl
both_fails false = refl

not_known : (id : ℕ) → Unknown id → known id ≡ false
not_known id (low h) = ap (λ (b : Bool). both b (leb id 10)) (lt-leb 2 id h)
not_known id (high h) = ap (both (leb 2 id)) (lt-leb id 10 (omega (arith, h))) ∙ both_fails (leb 2 id)

is_known : (id : ℕ) → Known id → known id ≡ true
is_known id k = steps.is_known id k.from k.upto

never_both : (id : ℕ) → Unknown id → Known id → ⊥
never_both id u k = let e : ◌≡◌ {A = Bool} true false = sym (is_known id k) ∙ not_known id u in apart e

pub if_unknown : (id : ℕ) → Exactly (known id ≡ false) (Unknown id)
if_unknown id =
    record {
      there =
          λ e.
          by_order 2 id (λ f. by_order id 10 (λ t. apart (sym (is_known id (record { from = f; upto = t })) ∙ e)) high) low;
      back = not_known id;
    }

-- ---- one step of reading

-- the number and the place of a refusal, and the place past a command
abbrev number_in : Step → ℕ
number_in (Ok (Some (c, n))) = 0
number_in (Ok None) = 0
number_in (Err r) = r.number

abbrev found_in : Command → Step → Command
found_in d (Ok (Some (c, n))) = c
found_in d (Ok None) = d
found_in d (Err r) = d

abbrev place_in : Step → ℕ
place_in (Ok (Some (c, n))) = n
place_in (Ok None) = 0
place_in (Err r) = r.place

module _ (up : Bool) (s : List ℕ) (i : ℕ) where
  abbrev answer : Step
  answer = step_at up s i

  -- the four cases
  ended : length s ≤ i → Steps up s i answer
  ended h =
      let e : answer ≡ (Ok None) = steps.ended up s i h in
      let out : i < length s → ⊥ = λ l. omega arith in
      record {
        unknown = λ p. record { there = λ q. apart (cc); back = λ k. absurd (out k.1.inside) };
        cut_short = λ p. record { there = λ q. apart (cc); back = λ k. absurd (out k.1.inside) };
        no_other = λ r n m q. apart (cc);
        ends = record { there = λ q. h; back = λ k. e };
        finds = λ c n. record { there = λ q. apart (cc); back = λ k. absurd (out k.0.inside) };
      }

  refused_16 : UnknownAt s i → Steps up s i answer
  refused_16 h =
      let e : answer ≡ Err (refusal 16 i) = steps.unknown up s i h.inside (not_known (at s i) h.unknown) in
      record {
        unknown =
            λ p.
            record {
              there = λ q. (ap place_in (sym q ∙ e), h);
              back = λ k. e ∙ ap (λ (n : ℕ). Err (refusal 16 n)) (sym k.0);
            };
        cut_short =
            λ p.
            record {
              there = λ q. let z : ◌≡◌ {A = ℕ} 16 17 = ap number_in (sym e ∙ q) in absurd (omega arith);
              back = λ k. absurd (never_both (at s i) h.unknown k.1.known);
            };
        no_other = λ r n m q. n (ap number_in (sym q ∙ e));
        ends = record { there = λ q. apart (cc); back = λ k. let l : i < length s = h.inside in absurd (omega arith) };
        finds =
            λ c n.
            record { there = λ q. apart (cc); back = λ k. absurd (never_both (at s i) h.unknown k.0.known) };
      }

  refused_17 : CutShortAt up s i → Steps up s i answer
  refused_17 h =
      let e : answer ≡ Err (refusal 17 i) =
      steps.cut up s i h.inside (is_known (at s i) h.known) h.short in
      record {
        unknown =
            λ p.
            record {
              there = λ q. let z : ◌≡◌ {A = ℕ} 17 16 = ap number_in (sym e ∙ q) in absurd (omega arith);
              back = λ k. absurd (never_both (at s i) k.1.unknown h.known);
            };
        cut_short =
            λ p.
            record {
              there = λ q. (ap place_in (sym q ∙ e), h);
              back = λ k. e ∙ ap (λ (n : ℕ). Err (refusal 17 n)) (sym k.0);
            };
        no_other = λ r n m q. m (ap number_in (sym q ∙ e));
        ends = record { there = λ q. apart (cc); back = λ k. let l : i < length s = h.inside in absurd (omega arith) };
        finds =
            λ c n.
            record {
              there = λ q. apart (cc);
              back =
                  λ k.
                  let room : i + 1 + size_at up s i ≤ length s = k.0.room in
                  let short : length s < i + 1 + size_at up s i = h.short in
                  absurd (omega arith);
            };
      }

  found : WholeAt up s i → Steps up s i answer
  found h =
      let e : answer ≡ Ok (Some ((command_at up s i), (i + 1 + size_at up s i))) =
      steps.whole up s i h.inside (is_known (at s i) h.known) h.room in
      record {
        unknown =
            λ p. record { there = λ q. apart (cc); back = λ k. absurd (never_both (at s i) k.1.unknown h.known) };
        cut_short =
            λ p.
            record {
              there = λ q. apart (cc);
              back =
                  λ k.
                  let room : i + 1 + size_at up s i ≤ length s = h.room in
                  let short : length s < i + 1 + size_at up s i = k.1.short in
                  absurd (omega arith);
            };
        no_other = λ r n m q. apart (cc);
        ends = record { there = λ q. apart (cc); back = λ k. let l : i < length s = h.inside in absurd (omega arith) };
        finds =
            λ c n.
            record {
              there = λ q. (h, (ap (found_in c) (sym q ∙ e), ap place_in (sym q ∙ e)));
              back = λ k. e ∙ ap₂ (λ (x : Command) (m : ℕ). Ok (Some (x, m))) (sym k.1.0) (sym k.1.1);
            };
      }

  -- the command, the end, 16 or 17, each exactly where it is due
  pub step_answers : Steps up s i (step_at up s i)
  step_answers =
      by_order (length s) i ended
      (λ l.
      by_bool (known (at s i))
      (λ k.
      let k : Known (at s i) = record { from = steps.known_from (at s i) k; upto = steps.known_upto (at s i) k } in
      by_order (i + 1 + size_at up s i) (length s) (λ m. found (record { inside = l; known = k; room = m }))
      (λ m. refused_17 (record { inside = l; known = k; short = m })))
      (λ k. refused_16 (record { inside = l; unknown = (if_unknown (at s i)).there k })))

-- a raw step is refused exactly where the step is, by the same number and at the same place
refused_raw : (x : RawStep) (e : Refusal) → step_of x ≡ Err e → x ≡ Err e
refused_raw (Ok (Some raw)) e h = apart (cc)
refused_raw (Ok None) e h = apart (cc)
refused_raw (Err f) e h = ap Err (ap refusal_in h)

pub raw_refuses : (up : Bool) (s : List ℕ) (i : ℕ) (e : Refusal)
    → Exactly (raw_step_at up s i ≡ Err e) (step_at up s i ≡ Err e)
unfolding step_at
raw_refuses up s i e = record { there = ap step_of; back = refused_raw (raw_step_at up s i) e }

-- ---- the answer to C

-- a number, or a value below 2 ^ 56, is seen in an answer
seen-number : (n value : ℕ) → 0 < n → numbered n value ≡ 0 → ⊥
unfolding numbered
seen-number n value h e = omega arith

seen_value : (value : ℕ) → 0 < value → value < 2 ^ 56 → numbered 0 value ≡ 0 → ⊥
unfolding numbered
seen_value value h l e = omega (arith, mod-eq_of_lt l)

-- 0 says that the list is at its end, and nothing else does; no slice has 2 ^ 56 bytes
pub end_in_c : (up : Bool) (s : List ℕ) (i : ℕ) → length s < 2 ^ 56 → Exactly (step_answer (step_at up s i) ≡ 0) (length s ≤ i)
unfolding numbered
end_in_c up s i short =
    record { there = λ e. by_order (length s) i (λ h. h) (λ l. absurd (inside l e)); back = λ h. ap step_answer (steps.ended up s i h) }
  where
    found : i < length s → known (at s i) ≡ true → step_answer (step_at up s i) ≡ 0 → ⊥
    found l k e =
        by_order (i + 1 + size_at up s i) (length s)
        (λ m. seen_value (i + 1 + size_at up s i) (omega arith) (omega arith) (sym (ap step_answer (steps.whole up s i l k m)) ∙ e))
        (λ m. seen-number 17 i (omega arith) (sym (ap step_answer (steps.cut up s i l k m)) ∙ e))

    inside : i < length s → step_answer (step_at up s i) ≡ 0 → ⊥
    inside l e =
        by_bool (known (at s i)) (λ k. found l k e)
        (λ k. seen-number 16 i (omega arith) (sym (ap step_answer (steps.unknown up s i l k)) ∙ e))

-- ---- a value that does not fit

-- some number below n is so, or none is
some_below : (P : ℕ → Type 0) → ((k : ℕ) → P k ⊎ (P k → ⊥)) → (n : ℕ)
    → ((k : ℕ) × (k < n) × P k) ⊎ ((k : ℕ) → k < n → P k → ⊥)
some_below P decide zero = inr (λ k l p. not-suc-le-zero l)
some_below P decide (suc n) =
    ⊎_elim (λ p. inl (n, omega arith, p))
    (λ m.
    ⊎_elim (λ h. let l : h.0 < n = h.1 in inl (h.0, omega arith, h.2))
    (λ h. inr (last_or_less (λ k. P k → ⊥) n m h)) (some_below P decide n))
    (decide n)

module _ (r : ℕ) (xs : List ℕ) where
  abbrev TooLarge : ℕ → Type 0
  TooLarge k = 2 ^ width_at (row r) k ≤ at xs k

  decided : (k : ℕ) → TooLarge k ⊎ (TooLarge k → ⊥)
  decided k = by_order (2 ^ width_at (row r) k) (at xs k) inl (λ g. inr (λ l. omega arith))

  -- of a row of the table
  row_unfit : r < 18 → fits (row r) xs ≡ false → Unfit r xs
  row_unfit l e =
      ⊎_elim (λ h. unfit h.0 h.1 h.2)
      (λ h.
      apart
      (sym
      (fits_each (row r) xs (row_distinct r l)
      (λ k t.
      by_order (2 ^ width_at (row r) k) (at xs k)
      (λ m. absurd (h k (named_below (row r) (count_in_row (row r)) k (row_within r l) t) m)) (λ g. g)))
      ∙ e))
      (some_below TooLarge decided (count_in_row (row r)))

  unfit_row : r < 18 → Unfit r xs → fits (row r) xs ≡ false
  unfit_row l (unfit k h m) =
      by_bool (fits (row r) xs)
      (λ e. let g : at xs k < 2 ^ width_at (row r) k = each_fits (row r) xs k e (row_named r k l h) in absurd (omega arith))
      (λ e. e)

  -- past the table there is no field, and all fits
  pub no_row : 18 ≤ r → row r ≡ []
  unfolding row downs ups
  no_row l = get_or-eq_default (downs ++ ups) [] l

  past_fits : 18 ≤ r → fits (row r) xs ≡ true
  unfolding fits
  past_fits l = ap (λ (ps : List Piece). fits ps xs) (no_row l)

  past_unfit : 18 ≤ r → Unfit r xs → ⊥
  unfolding count_in_row
  past_unfit l (unfit k h m) = let z : count_in_row (row r) ≡ 0 = ap count_in_row (no_row l) in omega arith

  pub if_unfit : Exactly (fits (row r) xs ≡ false) (Unfit r xs)
  if_unfit =
      by_order 18 r
      (λ l.
      record {
        there = λ e. apart (sym (past_fits l) ∙ e);
        back = λ u. absurd (past_unfit l u);
      })
      (λ l. record { there = row_unfit l; back = unfit_row l })

-- ---- writing

pub if_over : (m n : ℕ) → Exactly (leb m n ≡ false) (n < m)
if_over m n = record { there = leb-false m n; back = lt-leb m n }

-- a writing tells its refusal
pub told : (next n : ℕ) → refusal_in (written_of next n) ≡ refused n
told next = says_told Err (Ok next) refusal_in (λ r. refl) refl

row_gives : (r : ℕ) (xs : List ℕ) (n i : ℕ)
    → Gives (written_of (i + (1 + size_of r))) (row_conditions r xs n i) (written_as r xs n i)
unfolding written_as put_as
row_gives r xs n i =
    let next = i + (1 + size_of r) in
    let all_fit = fits (row r) xs in
    let room = leb next n in
    passed (written_of next) refusal_in (told next) tt all_fit (if_when (not all_fit) (if_not all_fit (if_unfit r xs)))
    (passed (written_of next) refusal_in (told next) tt room (if_when (not room) (if_not room (if_over next n)))
    (no_more (written_of next) refusal_in (told next)))

fields_give : (up : Bool) (id : ℕ) (xs : List ℕ) (n i : ℕ)
    → Gives (written_of (i + (1 + size_of (row_of up id)))) (field_conditions up id xs n i) (fields_written up id xs n i)
unfolding fields_written
fields_give up id xs n i =
    let next = i + (1 + size_of (row_of up id)) in
    passed (written_of next) refusal_in (told next) tt (known id) (if_when (not (known id)) (if_not (known id) (if_unknown id)))
    (row_gives (row_of up id) xs n i)

-- a writing that says n and answers a place says 0, and it is that place
written_says : (next n m : ℕ) → Ok m ≡ written_of next n → m ≡ next
written_says next n m e =
    by_bool (eqb n 0)
    (λ t. let f : Ok m ≡ Ok next = e ∙ ap (λ (b : Bool). pick b (Ok next) (Err (refused n))) t in cc)
    (λ t.
    let f : Ok m ≡ Err (refused n) = e ∙ ap (λ (b : Bool). pick b (Ok next) (Err (refused n))) t in
    apart (cc))

pub writes : {cs : List Condition} {w : (Result ℕ Refusal)} (next : ℕ) → Gives (written_of next) cs w → Writes cs next w
writes {cs} {w} next g =
    record {
      refuses = λ n h. rw (ne_eqb n 0 (λ e. omega arith)) at (g.exactly n);
      writes =
          λ m.
          record {
            there =
                λ q.
                let is : m ≡ next = written_says next g.some.0 m (sym q ∙ g.some.1) in
                (is, (g.exactly 0).there (q ∙ ap Ok is));
            back = λ h. (g.exactly 0).back h.1 ∙ ap Ok (sym h.0);
          };
      no_other = λ q o e. no_other (written_of next) refusal_in (told next) g q o (ap refusal_in e);
    }

-- a command: 18, 7
pub command_writes : (c : Command) (n i : ℕ)
    → Writes (row_conditions (row_at c) (values_of c) n i) (i + (1 + size_of (row_at c))) (command_written c n i)
command_writes c n i = writes (i + (1 + size_of (row_at c))) (row_gives (row_at c) (values_of c) n i)

-- values by direction and identifier: 16, 18, 7
pub fields_write : (up : Bool) (id : ℕ) (xs : List ℕ) (n i : ℕ)
    → Writes (field_conditions up id xs n i) (i + (1 + size_of (row_of up id))) (fields_written up id xs n i)
fields_write up id xs n i = writes (i + (1 + size_of (row_of up id))) (fields_give up id xs n i)

-- ---- the numbers of them and what is written, written out

module _ (c : Command) (n i : ℕ) where
  pub command_18 : Exactly (command_written c n i ≡ Err (refused 18)) (Unfit (row_at c) (values_of c))
  command_18 = (command_writes c n i).refuses 18 (omega arith)

  pub command_7 : Exactly (command_written c n i ≡ Err (refused 7))
      ((Unfit (row_at c) (values_of c) → ⊥) × NoRoom (row_at c) n i)
  command_7 = (command_writes c n i).refuses 7 (omega arith)

  pub command_written_lem : (m : ℕ)
      → Exactly (command_written c n i ≡ Ok m)
      ((m ≡ i + (1 + size_of (row_at c))) × ((Unfit (row_at c) (values_of c) → ⊥) × (NoRoom (row_at c) n i → ⊥)))
  command_written_lem m = with_none (row_conditions (row_at c) (values_of c) n i) tt ((command_writes c n i).writes m)

module _ (up : Bool) (id : ℕ) (xs : List ℕ) (n i : ℕ) where
  pub fields_16 : Exactly (fields_written up id xs n i ≡ Err (refused 16)) (Unknown id)
  fields_16 = (fields_write up id xs n i).refuses 16 (omega arith)

  pub fields_18 : Exactly (fields_written up id xs n i ≡ Err (refused 18)) ((Unknown id → ⊥) × Unfit (row_of up id) xs)
  fields_18 = (fields_write up id xs n i).refuses 18 (omega arith)

  pub fields_7 : Exactly (fields_written up id xs n i ≡ Err (refused 7))
      ((Unknown id → ⊥) × ((Unfit (row_of up id) xs → ⊥) × NoRoom (row_of up id) n i))
  fields_7 = (fields_write up id xs n i).refuses 7 (omega arith)

  pub fields_written_lem : (m : ℕ)
      → Exactly (fields_written up id xs n i ≡ Ok m)
      ((m ≡ i + (1 + size_of (row_of up id)))
      × ((Unknown id → ⊥) × ((Unfit (row_of up id) xs → ⊥) × (NoRoom (row_of up id) n i → ⊥))))
  fields_written_lem m = with_none (field_conditions up id xs n i) tt ((fields_write up id xs n i).writes m)

-- ---- 18 of DevStatusAns: the margin alone, of a battery that is a byte

pub margin_outside : (m : ℤ) → 64 ≤ raw_of m → OutsideMargin m
unfolding raw_of
margin_outside (pos m) h = by (ltb m 32) refl h
  where
    by : (t : Bool) → ltb m 32 ≡ t → 64 ≤ pick t m 64 → OutsideMargin (pos m)
    by true e l = let s : m < 32 = ltb-true m 32 e in absurd (omega arith)
    by false e l = let s : 32 ≤ m = ltb-false m 32 e in over (lt-ltb 31 m (omega arith))
margin_outside (negsuc k) h = by (ltb k 32) refl h
  where
    by : (t : Bool) → ltb k 32 ≡ t → 64 ≤ pick t (63 - k) 64 → OutsideMargin (negsuc k)
    by true e l = absurd (omega arith)
    by false e l = let s : 32 ≤ k = ltb-false k 32 e in under (lt-ltb 31 k (omega arith))

pub outside_margin : (m : ℤ) → OutsideMargin m → 64 ≤ raw_of m
outside_margin m (under e) = let s : 64 ≡ raw_of m = margins.under m e in omega arith
outside_margin m (over e) = let s : 64 ≡ raw_of m = margins.over m e in omega arith

status_unfit : (battery : ℕ) (m : ℤ) → battery < 256 → Unfit 13 (battery ∷ raw_of m ∷ 0 ∷ 0 ∷ 0 ∷ []) → OutsideMargin m
unfolding row downs ups count_in_row width_at
status_unfit battery m h (unfit zero l g) = absurd (omega arith)
status_unfit battery m h (unfit (suc zero) l g) = margin_outside m g
status_unfit battery m h (unfit (suc (suc k)) l g) = absurd (omega arith)

unfit_status : (battery : ℕ) (m : ℤ) → OutsideMargin m → Unfit 13 (battery ∷ raw_of m ∷ 0 ∷ 0 ∷ 0 ∷ [])
unfolding row downs ups count_in_row width_at
unfit_status battery m o = unfit 1 (omega arith) (outside_margin m o)

pub margin_18 : (battery : ℕ) (margin : ℤ) (n i : ℕ) → battery < 256
    → Exactly (command_written (DevStatusAns battery margin) n i ≡ Err (refused 18)) (OutsideMargin margin)
unfolding fields_as
margin_18 battery margin n i h =
    let by = command_18 (DevStatusAns battery margin) n i in
    record {
      there = λ e. status_unfit battery margin h (by.there e);
      back = λ o. by.back (unfit_status battery margin o);
    }

-- ---- nothing is written by a refusal

row_kept : (r : ℕ) (xs l : List ℕ) (i : ℕ) (q : Refusal) → written_as r xs (length l) i ≡ Err q → written_in r xs l i ≡ l
unfolding written_as written_in put_as put_in
row_kept r xs l i q e = by (fits (row r) xs) (leb (i + (1 + size_of r)) (length l)) e
  where
    by : (a b : Bool)
        → pick a (pick b (Ok (i + (1 + size_of r))) (Err (refused 7))) (Err (refused 18)) ≡ Err q
        → pick a (pick b (sets l i (row_bytes r (number_of (row r) xs))) l) l ≡ l
    by true true e = apart (cc)
    by true false e = refl
    by false true e = refl
    by false false e = refl

pub command_kept : (c : Command) (l : List ℕ) (i : ℕ) (q : Refusal) → command_written c (length l) i ≡ Err q
    → command_in c l i ≡ l
command_kept c l i q e = row_kept (row_at c) (values_of c) l i q e

pub fields_kept : (up : Bool) (id : ℕ) (xs l : List ℕ) (i : ℕ) (q : Refusal) → fields_written up id xs (length l) i ≡ Err q
    → fields_in up id xs l i ≡ l
unfolding fields_written fields_in
fields_kept up id xs l i q e = by (known id) e
  where
    by : (b : Bool) → pick b (written_as (row_of up id) xs (length l) i) (Err (refused 16)) ≡ Err q
        → pick b (written_in (row_of up id) xs l i) l ≡ l
    by true e = row_kept (row_of up id) xs l i q e
    by false e = refl

-- ---- the lists of a frame: reading alone

module _ (f : List ℕ) where
  -- a frame that is read as data has the fields that it has
  of_frame : (r : Reading) → Says f r
      → on_data (λ d. Ok (lists_of d)) Err r ≡ on_data (λ d. Ok (lists_of (data_of f))) Err r
  of_frame (Ok JoinRequest) s = refl
  of_frame (Ok (JoinAccept n)) s = refl
  of_frame (Ok (Data d)) s = ap (λ (x : DataFrame). Ok (lists_of x)) s.1
  of_frame (Err r) s = refl

  in_frame : in_frame_of f ≡ on data_frame (Ok (lists_of (data_of f))) Err (read_of f)
  unfolding in_frame_of
  in_frame = of_frame (read_of f) (answers f)

  lists_told : (n : ℕ) → refusal_in (lists_answer f n) ≡ refused n
  lists_told = says_told Err (Ok (lists_of (data_of f))) refusal_in (λ r. refl) refl

  pub command_lists : AfterReading Err (lists_answer f) data_frame f [] (in_frame_of f)
  command_lists =
      rw in_frame
      (after_reading Err (lists_answer f) refusal_in (λ r. refl) lists_told data_frame f
      (λ h. no_more (lists_answer f) refusal_in lists_told))

  -- so lists are given exactly of a data frame, and no others than its own
  given : (l : CommandLists) (r : Reading) → Says f r → on_data (λ d. Ok (lists_of d)) Err r ≡ Ok l
      → IsData f × (l ≡ lists_of (data_of f))
  given l (Ok JoinRequest) s e = apart (cc)
  given l (Ok (JoinAccept n)) s e = apart (cc)
  given l (Ok (Data d)) s e = let same : lists_of d ≡ l = cc in (s.0, sym same ∙ ap lists_of s.1)
  given l (Err r) s e = apart (cc)

  pub lists_found : (l : CommandLists) → Exactly (in_frame_of f ≡ Ok l) (IsData f × (l ≡ lists_of (data_of f)))
  unfolding in_frame_of
  lists_found l =
      record {
        there = given l (read_of f) (answers f);
        back = λ h. (command_lists.own 0 tt).back (h.0, refl) ∙ ap Ok (sym h.1);
      }
