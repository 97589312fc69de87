-- A call whose answer goes by its conditions in their order gives each number exactly where it is due: `no_more` where no
-- condition is left and `first` for one more ahead of the rest. So each call is one instance, a step for each of its tests.
-- Assumes nothing.
use Rattle.std.specs.Prelude.{Err, Ok, Result}
use mathlib.Core.Path.{◌≡◌, refl, sym, ap, ◌∙◌, subst}
use mathlib.Core.Bool.{Bool, true, false, not}
use mathlib.Core.List.{List, [], ◌∷◌}
use mathlib.Core.Logic.{◌⊎◌, inl, inr, ⊎_elim}
use Prim.Native.Nat.{ℕ, suc, ◌≤◌, ◌<◌}
use native.Mathlib.Omega.{arith}
use lib.Dec.{T, eqb, leb, ltb}
use borrow.Author.Tests.{ltb-true, lt-ltb, leb-true, le-leb, eqb-true, eqb-false, eq-eqb, not-true, not-false}
use Rattle.base.specs.Bytes.{pick}
use Rattle.base.proofs.Cases.{by_bool}
use Rattle.base.proofs.Tested.{both, both_left, both_right}
use Rattle.frame.specs.Refusals.{refused, not_refused, refusal_in}
use Rattle.frame.specs.declared.refusals.Refusal.{Refusal}
use Rattle.theorems.specs.Exactly.{Exactly, Condition, ◌when◌, ◌unless◌, choice, Due, NoneHolds, NotOwn, Clear, Accepts, Refuses}

-- ---- tests, and what they tell

-- no test both holds and fails
pub apart : {P : Type 0} → true ≡ false → P
apart e = absurd (let z : ◌≡◌ {A = ℕ} 1 0 = ap (λ (b : Bool). pick b 1 0) e in omega arith)

-- a test that is true exactly where the condition holds, and false exactly where it fails
pub record Tells (b : Bool) (c : Condition) : Type 0 where
  pub true_where : Exactly (b ≡ true) c.holds
  pub false_where : Exactly (b ≡ false) c.fails

pub if_when : (b : Bool) {n : ℕ} {P : Type 0} → Exactly (b ≡ true) P → Tells b (n when P)
if_when b x =
    record {
      true_where = x;
      false_where =
          record {
            there = λ e p. apart (sym (x.back p) ∙ e);
            back = λ n. by_bool b (λ e. absurd (n (x.there e))) (λ e. e);
          };
    }

pub if_unless : (b : Bool) {n : ℕ} {P : Type 0} → Exactly (b ≡ true) P → Tells (not b) (n unless P)
if_unless b x =
    record {
      true_where =
          record {
            there = λ e p. apart (sym (x.back p) ∙ not-true b e);
            back = λ n. by_bool b (λ e. absurd (n (x.there e))) (ap not);
          };
      false_where = record { there = λ e. x.there (not-false b e); back = λ p. ap not (x.back p) };
    }

pub if_not : (b : Bool) {P : Type 0} → Exactly (b ≡ false) P → Exactly (not b ≡ true) P
if_not b x = record { there = λ e. x.there (not-true b e); back = λ p. ap not (x.back p) }

pub if_below : (m n : ℕ) → Exactly (ltb m n ≡ true) (m < n)
if_below m n = record { there = ltb-true m n; back = lt-ltb m n }

pub if_most : (m n : ℕ) → Exactly (leb m n ≡ true) (m ≤ n)
if_most m n = record { there = leb-true m n; back = le-leb m n }

pub if_equal : (m n : ℕ) → Exactly (eqb m n ≡ true) (m ≡ n)
if_equal m n = record { there = eqb-true m n; back = eq-eqb m n }

-- ---- which numbers are due

-- n is none of their numbers and not 0, which is computed for a list that is written out
abbrev pub fresh : ℕ → List Condition → Bool
fresh n [] = not (eqb n 0)
fresh n (c ∷ cs) = both (not (eqb n c.number)) (fresh n cs)

pub refuted : (b : Bool) → T b → T (not b) → ⊥
refuted true s t = t
refuted false s t = s

-- the refusals of two numbers that were compared
differ : (m n : ℕ) → T (not (eqb m n)) → refused m ≡ refused n → ⊥
differ m n t e = refuted (eqb m n) (rw (eq-eqb m n (ap (λ (r : Refusal). r.number) e)) tt) t

-- a number that is none of theirs is refused by none of them
not_own : (n : ℕ) (cs : List Condition) → T (fresh n cs) → NotOwn cs (refused n)
not_own n [] t = differ n 0 t
not_own n (c ∷ cs) t =
    let a = not (eqb n c.number) in
    (differ n c.number (both_left a (fresh n cs) t), not_own n cs (both_right a (fresh n cs) t))

other_due : (b : Bool) (P Q : Type 0) → (b ≡ true → ⊥) → choice b P Q → Q
other_due true P Q n d = absurd (n refl)
other_due false P Q n d = d

-- and is never due
pub not_due : (n : ℕ) (cs : List Condition) → NotOwn cs (refused n) → Due cs n → ⊥
not_due n [] o d = o (ap refused d)
not_due n (c ∷ cs) o d =
    let later : c.fails × Due cs n =
    other_due (eqb c.number n) c.holds (c.fails × Due cs n)
    (λ e. o.0 (ap refused (sym (eqb-true c.number n e)))) d in
    not_due n cs o.1 later.1

-- no number is 0, which is computed for a list that is written out
abbrev pub without_0 : List Condition → Bool
without_0 [] = true
without_0 (c ∷ cs) = both (not (eqb c.number 0)) (without_0 cs)

-- so 0 is due exactly where none of the conditions holds
later_0 : (b : Bool) (P Q : Type 0) → T (not b) → Exactly (choice b P Q) Q
later_0 true P Q t = absurd t
later_0 false P Q t = record { there = λ q. q; back = λ q. q }

pub none_due : (cs : List Condition) → T (without_0 cs) → Exactly (Due cs 0) (NoneHolds cs)
none_due [] t = record { there = λ d. tt; back = λ u. refl }
none_due (c ∷ []) t =
    let more = later_0 (eqb c.number 0) c.holds (c.fails × Due [] 0) (both_left (not (eqb c.number 0)) true t) in
    record { there = λ d. (more.there d).0; back = λ f. more.back (f, refl) }
none_due (c ∷ (d ∷ cs)) t =
    let a = not (eqb c.number 0) in
    let more = later_0 (eqb c.number 0) c.holds (c.fails × Due (d ∷ cs) 0) (both_left a (without_0 (d ∷ cs)) t) in
    let rest = none_due (d ∷ cs) (both_right a (without_0 (d ∷ cs)) t) in
    record {
      there = λ e. let h = more.there e in (h.0, rest.there h.1);
      back = λ h. more.back (h.0, rest.back h.1);
    }

-- and that may be said in its place, alone or beside another fact
pub by_none : (cs : List Condition) → T (without_0 cs) → {A : Type 0} → Exactly A (Due cs 0) → Exactly A (NoneHolds cs)
by_none cs t x =
    let none = none_due cs t in
    record { there = λ a. none.there (x.there a); back = λ h. x.back (none.back h) }

pub with_none : (cs : List Condition) → T (without_0 cs) → {A B : Type 0} → Exactly A (B × Due cs 0) → Exactly A (B × NoneHolds cs)
with_none cs t x =
    let none = none_due cs t in
    record {
      there = λ a. let h = x.there a in (h.0, none.there h.1);
      back = λ h. x.back (h.0, none.back h.1);
    }

-- ---- the law

-- an answer x that says some number, and that says n exactly where n is due
pub record Gives {A : Type 0} (says : ℕ → A) (cs : List Condition) (x : A) : Type 0 where
  pub some : (n : ℕ) × (x ≡ says n)
  pub exactly : (n : ℕ) → Exactly (x ≡ says n) (Due cs n)

-- a number that is an answer by itself
abbrev pub plain : ℕ → ℕ
plain n = n

-- an answer tells the refusal that it says
module _ {A : Type 0} (says : ℕ → A) (told : A → Refusal) (back : (n : ℕ) → told (says n) ≡ refused n) where
  same : (m n : ℕ) → says m ≡ says n → m ≡ n
  same m n e = ap (λ (r : Refusal). r.number) (sym (back m) ∙ ap told e ∙ back n)

  pub no_more : Gives says [] (says 0)
  no_more =
      record {
        some = (0, refl);
        exactly = λ n. record { there = λ e. sym (same 0 n e); back = λ e. ap says (sym e) };
      }

  -- one more condition, which is decided: x is its answer where it holds, and that of the rest where it does not
  module _ {c : Condition} {cs : List Condition} {x y : A} (new : T (fresh c.number cs)) (decided : c.holds ⊎ c.fails)
      (here : c.holds → x ≡ says c.number) (rest : c.fails → x ≡ y) (g : Gives says cs y) where
    step : (n : ℕ) (b : Bool) → (b ≡ true → c.number ≡ n) → (b ≡ false → c.number ≡ n → ⊥)
        → Exactly (x ≡ says n) (choice b c.holds (c.fails × Due cs n))
    step n true e d =
        let own : NotOwn cs (refused n) = subst (λ (m : ℕ). NotOwn cs (refused m)) (e refl) (not_own c.number cs new) in
        record {
          there = λ q. ⊎_elim (λ h. h) (λ f. absurd (not_due n cs own ((g.exactly n).there (sym (rest f) ∙ q)))) decided;
          back = λ h. here h ∙ ap says (e refl);
        }
    step n false e d =
        record {
          there =
              λ q.
              ⊎_elim (λ h. absurd (d refl (same c.number n (sym (here h) ∙ q))))
              (λ f. (f, (g.exactly n).there (sym (rest f) ∙ q))) decided;
          back = λ p. rest p.0 ∙ (g.exactly n).back p.1;
        }

    pub first : Gives says (c ∷ cs) x
    first =
        record {
          some = ⊎_elim (λ h. (c.number, here h)) (λ f. (g.some.0, rest f ∙ g.some.1)) decided;
          exactly = λ n. step n (eqb c.number n) (eqb-true c.number n) (eqb-false c.number n);
        }

  module _ {c : Condition} {cs : List Condition} {y : A} (new : T (fresh c.number cs)) (b : Bool) where
    -- by a test that is true where the condition holds
    pub tested : Tells b c → Gives says cs y → Gives says (c ∷ cs) (pick b (says c.number) y)
    tested t g =
        let by : Bool → A = λ (a : Bool). pick a (says c.number) y in
        first new (by_bool b (λ e. inl (t.true_where.there e)) (λ e. inr (t.false_where.there e)))
        (λ h. ap by (t.true_where.back h)) (λ h. ap by (t.false_where.back h)) g

    -- by a test that is passed where it fails
    pub passed : Tells (not b) c → Gives says cs y → Gives says (c ∷ cs) (pick b y (says c.number))
    passed t g =
        let by : Bool → A = λ (a : Bool). pick a y (says c.number) in
        first new (by_bool b (λ e. inr (t.false_where.there (ap not e))) (λ e. inl (t.true_where.there (ap not e))))
        (λ h. ap by (not-true b (t.true_where.back h))) (λ h. ap by (not-false b (t.false_where.back h))) g

  -- no other refusal is given
  pub no_other : {x : A} {cs : List Condition} → Gives says cs x → (r : Refusal) → NotOwn cs r → told x ≡ r → ⊥
  no_other {x} {cs} g r o e =
      let m = g.some.0 in
      let is : r ≡ refused m = sym e ∙ ap told g.some.1 ∙ back m in
      not_due m cs (subst (λ (s : Refusal). NotOwn cs s) is o) ((g.exactly m).there g.some.1)

  -- a number, and the answer that says it
  pub in_answer : {m : ℕ} {cs : List Condition} → Gives plain cs m → Gives says cs (says m)
  in_answer {m} g =
      record {
        some = (m, refl);
        exactly =
            λ n.
            record { there = λ e. (g.exactly n).there (same m n e); back = λ d. ap says ((g.exactly n).back d) };
      }

-- an answer that is z where nothing is refused, and e of the refusal where something is
pub says_told : {A : Type 0} (e : Refusal → A) (z : A) (told : A → Refusal) → ((r : Refusal) → told (e r) ≡ r) → told z ≡ not_refused
    → (n : ℕ) → told (pick (eqb n 0) z (e (refused n))) ≡ refused n
says_told {A} e z told back none n =
    let by : Bool → Refusal = λ (b : Bool). told (pick b z (e (refused n))) in
    by_bool (eqb n 0) (λ t. ap by t ∙ none ∙ ap refused (sym (eqb-true n 0 t))) (λ t. ap by t ∙ back (refused n))

-- a part of a choice
pub through : {A B : Type 0} (h : A → B) (b : Bool) (x y : A) → h (pick b x y) ≡ pick b (h x) (h y)
through h true x y = refl
through h false x y = refl

-- ---- of numbers alone

plain_told : (n : ℕ) → refused (plain n) ≡ refused n
plain_told n = refl

pub none_left : Gives plain [] 0
none_left = no_more plain refused plain_told

pub or_else : {c : Condition} {cs : List Condition} {b : Bool} {m : ℕ} → T (fresh c.number cs) → Tells b c
    → Gives plain cs m → Gives plain (c ∷ cs) (pick b c.number m)
or_else {b = b} new t g = tested plain refused plain_told new b t g

-- ---- of refusals alone

refused_told : (n : ℕ) → refused n ≡ refused n
refused_told n = refl

pub nothing_left : Gives refused [] not_refused
nothing_left = no_more refused (λ r. r) refused_told

-- past a test, and then past the rest
pub past : {c : Condition} {cs : List Condition} {y : Refusal} → T (fresh c.number cs) → (b : Bool) → Tells (not b) c
    → Gives refused cs y → Gives refused (c ∷ cs) (pick b y (refused c.number))
past = passed refused (λ r. r) refused_told

pub refuses : {cs : List Condition} {x : Refusal} → Gives refused cs x → Refuses cs x
refuses g = record { exactly = g.exactly; no_other = no_other refused (λ r. r) refused_told g }

-- ---- what is accepted

-- by a test that refuses
pub clear_test : {A : Type 0} (b : Bool) (v : A) (n : ℕ) → Clear (pick b (Ok v) (Err (refused (suc n)))) v
clear_test true v n e = refl
clear_test false v n e = let none : ⊥ = omega (arith, ap (λ (r : Refusal). r.number) e) in absurd none

-- what says no refusal exactly where P is so is Ok exactly there
pub accepts : {A : Type 0} {x : Result A Refusal} {v : A} {P : Type 0} → Clear x v → Exactly (refusal_in x ≡ not_refused) P → Accepts x v P
accepts c e =
    record { gives = record { there = λ q. e.there (ap refusal_in q); back = λ p. c (e.back p) }; clear = e }
