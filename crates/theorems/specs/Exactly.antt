-- What it says that a call refuses exactly where it is to (docs/RULES.md, Refusals): the two ways of a rule, conditions in the
-- order of a call's tests, each with its number, and the number that is due, which is that of the first condition that holds.
-- Assumes nothing.
use Rattle.std.specs.Prelude.{◌≡◌, Bool, true, false, List, [], ◌∷◌, ℕ, eqb, Ok, Result}
use Rattle.frame.specs.Refusals.{refused, not_refused, refusal_in}
use Rattle.frame.specs.declared.refusals.Refusal.{Refusal}

-- the two ways of a rule
pub record Exactly (A B : Type 0) : Type 0 where
  pub there : A → B
  pub back : B → A

-- a condition and the number that it gives: what is so where it holds, and what where it does not
pub record Condition : Type 1 where
  pub number : ℕ
  pub holds : Type 0
  pub fails : Type 0

-- as docs/RULES.md has them: number n is given when P is so, or unless P is so
infix 70 ◌when◌ ◌unless◌
abbrev pub ◌when◌ : ℕ → Type 0 → Condition
n when P = record { number = n; holds = P; fails = P → ⊥ }

abbrev pub ◌unless◌ : ℕ → Type 0 → Condition
n unless P = record { number = n; holds = P → ⊥; fails = P }

-- the first where the test holds, the second where it does not
abbrev pub choice : Bool → Type 0 → Type 0 → Type 0
choice true A B = A
choice false A B = B

-- number n is due: its condition holds and that of no earlier one does. 0 is due where none holds, a number that is none of
-- theirs never. So `Due (7 when A ∷ 13 unless B ∷ [])` is A at 7, (A → ⊥) × (B → ⊥) at 13, and (A → ⊥) × (B × (0 ≡ 0)) at 0
abbrev pub Due : List Condition → ℕ → Type 0
Due [] n = n ≡ 0
Due (c ∷ cs) n = choice (eqb c.number n) c.holds (c.fails × Due cs n)

-- none of them holds
abbrev pub NoneHolds : List Condition → Type 0
NoneHolds [] = Unit
NoneHolds (c ∷ []) = c.fails
NoneHolds (c ∷ (d ∷ cs)) = c.fails × NoneHolds (d ∷ cs)

-- r is the refusal of none of them, and is one
abbrev pub NotOwn : List Condition → Refusal → Type 0
NotOwn [] r = r ≡ not_refused → ⊥
NotOwn (c ∷ cs) r = (r ≡ refused c.number → ⊥) × NotOwn cs r

-- what a call answers that gives v where it refuses nothing: an answer that says no refusal is Ok
abbrev pub Clear : {A : Type 0} → Result A Refusal → A → Type 0
Clear x v = refusal_in x ≡ not_refused → x ≡ Ok v

-- it accepts exactly where P is so: it is Ok there and gives v, and says no refusal there, and neither anywhere else
pub record Accepts {A : Type 0} (x : Result A Refusal) (v : A) (P : Type 0) : Type 0 where
  pub gives : Exactly (x ≡ Ok v) P
  pub clear : Exactly (refusal_in x ≡ not_refused) P

-- x is the refusal of a call that goes by these conditions
pub record Refuses (cs : List Condition) (x : Refusal) : Type 0 where
  -- each number exactly where it is due
  pub exactly : (n : ℕ) → Exactly (x ≡ refused n) (Due cs n)
  -- and no other refusal
  pub no_other : (r : Refusal) → NotOwn cs r → x ≡ r → ⊥
