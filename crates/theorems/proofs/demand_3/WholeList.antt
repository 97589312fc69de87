-- The call on a lent frame, by demand 3: where nothing is refused, it leaves the frame's header and its payload with the
-- whole list applied, encrypted and signed afresh; where its answer is not Ok, the frame as it was.
-- Assumes nothing.
use native.Mathlib.Omega.{arith}
use Rattle.std.specs.Prelude.{Result, Ok, Err}
use Rattle.base.proofs.Cases.{by_bool}
use Rattle.amend.specs.OpenFrame.{opened_of}
use Rattle.amend.specs.SignedOnce.{all_inside_of, amend_list_of}
use Rattle.amend.specs.Amending.{payload_length_of}
use Rattle.amend.proofs.Accepted.{accepted_opens}
use Rattle.amend.proofs.SignedOnce.{list_inside, list_outside, list_alike}
use Rattle.frame.specs.Refusals.{by_result}
use Rattle.amend.specs.OpenFrame.{state_in}
use Rattle.frame.specs.Refusals.{refusal_in}
use mathlib.Core.Path.{◌≡◌, refl, sym, ap, ◌∙◌, subst}
use mathlib.Core.List.{List}
use Prim.Native.Nat.{ℕ}
use lib.ListN.{length, take}
use Rattle.frame.specs.Layout.{header}
use Rattle.frame_security.specs.Sealing.{sealed}
use Rattle.amend.specs.declared.amending.Open.{Open}
use Rattle.amend.specs.Amending.{Amended}
use Rattle.frame.specs.declared.refusals.Refusal.{Refusal}
use Rattle.amend.specs.OpenFrame.{open_of}
use Rattle.amend.specs.AmendmentLists.{amended_by, payload_by, clear_of, decoded_all, amend_all_of, amend_frame_of, amended_frame}
use Rattle.amend.proofs.Accepted.{opens_accepted}
use Rattle.amend.proofs.Demand3.{demand_3}
use Rattle.theorems.proofs.demand_3.Kept.{Keeps, sealed_keeps}

-- a list of amendments is answered, and leaves the state, by the test of all its offsets
all_passed : (s : Open) (es : List ℕ) → (refusal_in (amend_all_of s es).answer).number ≡ 0
    → amend_list_of s es ≡ record { answer = Ok tt; state = amended_by s (decoded_all es) }
all_passed s es z =
    by_bool (all_inside_of (payload_length_of s) es)
    (list_inside s es)
    (λ t.
    let e = sym (list_alike s es).answer ∙ ap (λ (x : Amended). x.answer) (list_outside s es t) in
    let none : ⊥ = omega (arith, ap (λ (x : Result (Unit {0}) Refusal). (refusal_in x).number) e, z) in
    absurd none)

all_answer : (s : Open) (es : List ℕ) → (refusal_in (amend_all_of s es).answer).number ≡ 0 → (amend_all_of s es).answer ≡ Ok tt
all_answer s es z = sym (list_alike s es).answer ∙ ap (λ (x : Amended). x.answer) (all_passed s es z)

all_state : (s : Open) (es : List ℕ) → (refusal_in (amend_all_of s es).answer).number ≡ 0 → (amend_all_of s es).state ≡ amended_by s (decoded_all es)
all_state s es z =
    let listed = all_passed s es z in
    sym ((list_alike s es).state (ap (λ (x : Amended). (refusal_in x.answer).number) listed))
    ∙ ap (λ (x : Amended). x.state) listed

-- an opening that the call does not refuse is accepted
opening_passed : {A : Type 0} (g : Open → Result A Refusal) (x : Result Open Refusal) → (refusal_in (by_result g Err x)).number ≡ 0
    → (refusal_in x).number ≡ 0
opening_passed g (Ok s) z = refl
opening_passed g (Err r) z = z

-- what a refused call leaves
left_as : (x : Result (Unit {0}) Refusal) (g f : List ℕ) → (x ≡ Ok tt → ⊥) → by_result (λ u. g) (λ r. f) x ≡ f
left_as (Ok u) g f n = absurd (n refl)
left_as (Err r) g f n = refl

module _ (f nwk app : List ℕ) (counter : ℕ) (es : List ℕ) where
  abbrev o : Result Open Refusal
  o = open_of f nwk app counter

  abbrev a : Amended
  a = amend_all_of (state_in o) es

  abbrev call : Result Open Refusal → Result (Unit {0}) Refusal
  call x = by_result (λ s. (amend_all_of s es).answer) Err x

  -- the outcome is 0 only where opening and list are accepted
  both : (refusal_in (amend_frame_of f nwk app counter es)).number ≡ 0 → ((refusal_in o).number ≡ 0) × ((refusal_in a.answer).number ≡ 0)
  unfolding amend_frame_of
  both z =
      let opened = opening_passed (λ s. (amend_all_of s es).answer) o z in
      let is = accepted_opens f nwk app counter (opens_accepted f nwk app counter opened) in (
        opened,
        ap (λ (x : Result Open Refusal). (refusal_in (amend_all_of (state_in x) es).answer).number) is
            ∙ sym (ap (λ (x : Result Open Refusal). (refusal_in (call x)).number) is)
            ∙ z,
      )

  -- and then it is Ok
  pub frame_passed : (refusal_in (amend_frame_of f nwk app counter es)).number ≡ 0 → amend_frame_of f nwk app counter es ≡ Ok tt
  unfolding amend_frame_of
  frame_passed z =
      let is = accepted_opens f nwk app counter (opens_accepted f nwk app counter (both z).0) in
      ap call is
      ∙ all_answer (opened_of f nwk app counter) es
      (sym (ap (λ (x : Result Open Refusal). (refusal_in (amend_all_of (state_in x) es).answer).number) is) ∙ (both z).1)

  pub amended_frame_lem : (refusal_in (amend_frame_of f nwk app counter es)).number ≡ 0
      → amended_frame f nwk app counter es
      ≡ sealed nwk app counter (header f) (payload_by (clear_of f nwk app counter) (decoded_all es))
  unfolding amended_frame
  amended_frame_lem z =
      let s = amended_by (state_in o) (decoded_all es) in
      let stands = demand_3 f nwk app counter (both z).0 (decoded_all es) in
      ap (by_result (λ u. take (length f) a.state.frame) (λ r. f)) (frame_passed z)
      ∙ ap (λ (t : Open). take (length f) t.frame) (all_state (state_in o) es (both z).1)
      ∙ ap (λ (n : ℕ). take n s.frame) (sym stands.long)
      ∙ stands.frame

  pub refused_frame : (amend_frame_of f nwk app counter es ≡ Ok tt → ⊥) → amended_frame f nwk app counter es ≡ f
  unfolding amended_frame
  refused_frame n = left_as (amend_frame_of f nwk app counter es) (take (length f) a.state.frame) f n

  -- no other byte of the lent frame differs than those that the list names and the MIC
  pub frame_keeps : (refusal_in (amend_frame_of f nwk app counter es)).number ≡ 0 → Keeps f (decoded_all es) (amended_frame f nwk app counter es)
  frame_keeps z =
      subst (λ (g : List ℕ). Keeps f (decoded_all es) g) (sym (amended_frame_lem z))
      (sealed_keeps f nwk app counter (opens_accepted f nwk app counter (both z).0) (decoded_all es))
