-- The call that takes a frame and a whole list of amendments: the three ways in which it ends, and an empty list.
-- Assumes nothing.
use Rattle.std.specs.Prelude.{Ok, Err, Result}
use mathlib.Core.Path.{◌≡◌, sym, ap, ◌∙◌}
use mathlib.Core.List.{List, [], ◌++◌, append-nil}
use Prim.Native.Nat.{ℕ, ◌+◌, ◌≤◌}
use native.Mathlib.Omega.{arith}
use lib.ListN.{length, take, drop, drop_of_length-le}
use lib.Seq.{sets, sets-eq, take_all}
use Rattle.frame.specs.Refusals.{refusal_in, by_result}
use Rattle.frame.specs.declared.refusals.Refusal.{Refusal}
use Rattle.amend.specs.declared.amending.Open.{Open}
use Rattle.amend.specs.Amending.{Amended}
use Rattle.amend.specs.OpenFrame.{opened_of, open_of, state_in}
use Rattle.amend.specs.AmendmentLists.{amend_all_of, amend_frame_of, amended_frame}
use Rattle.amend.specs.SignedOnce.{amend_list_of}
use Rattle.amend.proofs.Accepted.{Accepted, accepted_opens, opens_accepted}
use Rattle.amend.proofs.OneByte.{held-take}
use Rattle.amend.proofs.SignedOnce.{list_alike, list_none}

-- a string that takes the place of another of its length
pub whole_stored : (f g : List ℕ) → length g ≡ length f → sets f 0 g ≡ g
whole_stored f g e =
    let none : drop (0 + length g) f ≡ [] = drop_of_length-le f {i = 0 + length g} (omega arith) in
    sets-eq g f 0 (omega arith) ∙ ap (λ (l : List ℕ). g ++ l) none ∙ append-nil g

module _ (f nwk app : List ℕ) (counter : ℕ) (es : List ℕ) where
  -- the frame by the answer of the call
  left : {a : Result (Unit {0}) Refusal} → a ≡ amend_frame_of f nwk app counter es
      → by_result (λ u. take (length f) (amend_all_of (state_in (open_of f nwk app counter)) es).state.frame) (λ r. f) a
      ≡ amended_frame f nwk app counter es
  unfolding amended_frame
  left e = ap (by_result (λ u. take (length f) (amend_all_of (state_in (open_of f nwk app counter)) es).state.frame) (λ r. f)) e

  pub refused_opening : {r : Refusal} → Err r ≡ open_of f nwk app counter
      → (Err r ≡ amend_frame_of f nwk app counter es) × (f ≡ amended_frame f nwk app counter es)
  unfolding amend_frame_of
  refused_opening o =
      let e : Err _ ≡ amend_frame_of f nwk app counter es = ap (by_result (λ s. (amend_all_of s es).answer) Err) o in
      (e, left e)

  module _ {s : Open} (o : Ok s ≡ open_of f nwk app counter) where
    accepted : Accepted f nwk counter
    accepted = opens_accepted f nwk app counter (sym (ap (λ (x : Result Open Refusal). (refusal_in x).number) o))

    -- an accepted frame has at most 255 bytes
    pub accepted_most : length f ≤ 255
    accepted_most = accepted.data_frame.most

    outcome : (amend_list_of s es).answer ≡ amend_frame_of f nwk app counter es
    unfolding amend_frame_of
    outcome = (list_alike s es).answer ∙ ap (by_result (λ t. (amend_all_of t es).answer) Err) o

    pub refused_list : {r : Refusal} → Err r ≡ (amend_list_of s es).answer
        → (Err r ≡ amend_frame_of f nwk app counter es) × (f ≡ amended_frame f nwk app counter es)
    refused_list q = (q ∙ outcome, left (q ∙ outcome))

    pub whole_list : {u : Unit {0}} → Ok u ≡ (amend_list_of s es).answer
        → (Ok u ≡ amend_frame_of f nwk app counter es)
        × (take (length f) (amend_list_of s es).state.frame ≡ amended_frame f nwk app counter es)
    whole_list q = (
      q ∙ outcome,
      ap (λ (t : Open). take (length f) t.frame)
          ((list_alike s es).state (sym (ap (λ (x : Result (Unit {0}) Refusal). (refusal_in x).number) q)))
          ∙ ap (λ (x : Result Open Refusal). take (length f) (amend_all_of (state_in x) es).state.frame) o
          ∙ left (q ∙ outcome),
    )

    -- the state holds the frame
    frame_held : take (length f) s.frame ≡ f
    unfolding opened_of
    frame_held =
        ap (λ (x : Result Open Refusal). take (length f) (state_in x).frame) (o ∙ accepted_opens f nwk app counter accepted)
        ∙ held-take f accepted_most (length f) (omega arith)
        ∙ take_all (length f) f (omega arith)

    -- an empty list leaves the frame as it was opened
    pub empty_list : length es ≡ 0 → (Ok tt ≡ amend_frame_of f nwk app counter es) × (f ≡ amended_frame f nwk app counter es)
    empty_list h =
        let none = list_none s es h in
        let law = whole_list (sym (ap (λ (a : Amended). a.answer) none)) in (
          law.0,
          sym frame_held ∙ sym (ap (λ (a : Amended). take (length f) a.state.frame) none) ∙ law.1,
        )
