-- What a call gives that needs a frame of one type, at the reading of any other, and which reading it met, by what that type's
-- reader gave it.
-- Assumes nothing.
use borrow.Author.Tests.{eqb-true, eqb-false}
use Rattle.std.specs.Prelude.{◌≡◌, ℕ, Result, Ok, Err, Bool, true, false, eqb}
use Rattle.base.specs.Bytes.{pick}
use Rattle.frame.specs.Refusals.{refused, allowed, by_result}
use Rattle.frame.specs.declared.refusals.Refusal.{Refusal}
use Rattle.std.proofs.Common.{rules, refl, ◌∙◌}
use Rattle.frame.specs.ReadingNumbers.{other_refusal_of, request_in, accept_in, data_in, on_request, on_accept, on_data}
use Rattle.frame.specs.declared.parser.DataFrame.{DataFrame}
use Rattle.frame.specs.Reading.{Reading}
use Rattle.frame.specs.declared.parser.Frame.TheVariants.{JoinRequest, JoinAccept, Data}

-- ---- at the reading of another type

module _ {A : Type 0} (e : Refusal → A) where
  pub not_request : (a : A) (r : Reading) → (r ≡ Ok JoinRequest → ⊥) → on_request a e r ≡ e (other_refusal_of r)
  not_request a (Ok JoinRequest) h = absurd (h refl)
  not_request a (Ok (JoinAccept n)) h = refl
  not_request a (Ok (Data d)) h = refl
  not_request a (Err q) h = refl

  pub not_accept : (a : ℕ → A) (r : Reading) → ((n : ℕ) → r ≡ Ok (JoinAccept n) → ⊥) → on_accept a e r ≡ e (other_refusal_of r)
  not_accept a (Ok JoinRequest) h = refl
  not_accept a (Ok (JoinAccept n)) h = absurd (h n refl)
  not_accept a (Ok (Data d)) h = refl
  not_accept a (Err q) h = refl

  pub not_data : (a : DataFrame → A) (r : Reading) → ((d : DataFrame) → r ≡ Ok (Data d) → ⊥) → on_data a e r ≡ e (other_refusal_of r)
  not_data a (Ok JoinRequest) h = refl
  not_data a (Ok (JoinAccept n)) h = refl
  not_data a (Ok (Data d)) h = absurd (h d refl)
  not_data a (Err q) h = refl

-- a result is what its two cases give
as_it_is : {A : Type 0} (x : Result A Refusal) → x ≡ by_result Ok Err x
as_it_is (Ok a) = refl
as_it_is (Err r) = refl

-- so that is the refusal that the reader of each type gives
pub request_other : (r : Reading) → (r ≡ Ok JoinRequest → ⊥) → request_in r ≡ Err (other_refusal_of r)
request_other r h = as_it_is (request_in r) ∙ not_request Err (Ok tt) r h

pub accept_other : (r : Reading) → ((n : ℕ) → r ≡ Ok (JoinAccept n) → ⊥) → accept_in r ≡ Err (other_refusal_of r)
accept_other r h = as_it_is (accept_in r) ∙ not_accept Err Ok r h

pub data_other : (r : Reading) → ((d : DataFrame) → r ≡ Ok (Data d) → ⊥) → data_in r ≡ Err (other_refusal_of r)
data_other r h = as_it_is (data_in r) ∙ not_data Err Ok r h

-- ---- which reading it was

pub request_there : (r : Reading) {u : Unit {0}} → Ok u ≡ request_in r → r ≡ Ok JoinRequest
request_there (Ok JoinRequest) q = refl
request_there (Ok (JoinAccept n)) q = search rules
request_there (Ok (Data d)) q = search rules
request_there (Err r) q = search rules

pub accept_there : (r : Reading) {n : ℕ} → Ok n ≡ accept_in r → r ≡ Ok (JoinAccept n)
accept_there (Ok JoinRequest) q = search rules
accept_there (Ok (JoinAccept m)) q = search rules
accept_there (Ok (Data d)) q = search rules
accept_there (Err r) q = search rules

pub data_there : (r : Reading) {d : DataFrame} → Ok d ≡ data_in r → r ≡ Ok (Data d)
data_there (Ok JoinRequest) q = search rules
data_there (Ok (JoinAccept m)) q = search rules
data_there (Ok (Data d)) q = search rules
data_there (Err r) q = search rules

-- ---- what a test with a number for its refusal says, by how it ended

by_flag-err : (r : Refusal) (b : Bool) {e : Refusal} → Err e ≡ pick {A = Result (Unit {0}) Refusal} b (Ok tt) (Err r) → (e ≡ r) × (b ≡ false)
by_flag-err r true q = search rules
by_flag-err r false q = (search rules, refl)

by_flag-ok : (r : Refusal) (b : Bool) {u : Unit {0}} → Ok u ≡ pick {A = Result (Unit {0}) Refusal} b (Ok tt) (Err r) → b ≡ true
by_flag-ok r true q = refl
by_flag-ok r false q = search rules

pub refused_by : (n : ℕ) {e : Refusal} → Err e ≡ allowed n → (e ≡ refused n) × (n ≡ 0 → ⊥)
refused_by n q =
    let f = by_flag-err (refused n) (eqb n 0) q in
    (f.0, eqb-false n 0 f.1)

pub passed_by : (n : ℕ) {u : Unit {0}} → Ok u ≡ allowed n → n ≡ 0
passed_by n q = eqb-true n 0 (by_flag-ok (refused n) (eqb n 0) q)
