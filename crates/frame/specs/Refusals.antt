-- A refusal by its number and place (docs/RULES.md, Refusals), and that of a result, where number 0 says that nothing was
-- refused.
-- Assumes nothing.
use Rattle.std.specs.Prelude.{ℕ, Result, Ok, Err, eqb}
use Rattle.base.specs.Bytes.{pick}
use Rattle.frame.specs.declared.refusals.Refusal.{Refusal}

abbrev pub refusal : ℕ → ℕ → Refusal
refusal n p = record { number = n; place = p }

-- at place 0, where the rules name none
abbrev pub refused : ℕ → Refusal
refused n = refusal n 0

abbrev pub not_refused : Refusal
not_refused = refused 0

-- what a result says, by what it holds or by its error
abbrev pub by_result : {A B E : Type 0} → (A → B) → (E → B) → Result A E → B
by_result a e (Ok x) = a x
by_result a e (Err y) = e y

-- the refusal of a result, which is none where it is Ok
abbrev pub refusal_in : {A : Type 0} → Result A Refusal → Refusal
refusal_in (Ok x) = not_refused
refusal_in (Err r) = r

-- x, unless the number is that of a refusal, which is not 0
abbrev pub unless_refused : {A : Type 0} → ℕ → A → Result A Refusal
unless_refused n x = pick (eqb n 0) (Ok x) (Err (refused n))

-- the same of a call that gives nothing else
abbrev pub allowed : ℕ → Result (Unit {0}) Refusal
allowed n = unless_refused n tt
