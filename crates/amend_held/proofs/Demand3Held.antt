-- Demand 3 of a frame that a buffer holds: each call on the buffer is the call on the state that it holds, so that after an
-- accepted opening and any history of calls, single ones and lists, accepted and refused, the buffer holds the state that
-- demand 3 speaks of, and the frame taken out of it is the original header and the payload amended by the calls that
-- answered 0, sealed.
-- Assumes nothing.
use Rattle.std.specs.Prelude.{Ok, Err, Result}
use mathlib.Core.Path.{◌≡◌, refl, sym, ap, ap₂, ◌∙◌, subst}
use mathlib.Core.Bool.{Bool, true}
use mathlib.Core.List.{List, [], ◌∷◌, ◌++◌}
use Prim.Native.Nat.{ℕ, ◌≤◌, ◌<◌}
use native.Mathlib.Omega.{arith}
use lib.Dec.{leb}
use lib.ListN.{length, take}
use lib.Seq.{sets}
use borrow.Author.Tests.{le-leb}
use Rattle.base.specs.Bytes.{pick}
use Rattle.base.proofs.Cases.{by_bool, by_order}
use Rattle.frame.specs.Layout.{header}
use Rattle.frame.specs.Refusals.{refused, refusal_in, by_result}
use Rattle.frame.specs.declared.refusals.Refusal.{Refusal}
use Rattle.frame_security.specs.Sealing.{sealed}
use Rattle.amend.specs.declared.amending.Open.{Open}
use Rattle.amend.specs.Amending.{Amended, payload_length_of, amend_of}
use Rattle.amend.specs.OpenFrame.{open_of, state_in}
use Rattle.amend.specs.AmendmentLists.{Amendment, amended_by, payload_by, clear_of, Stands}
use Rattle.amend.specs.SignedOnce.{all_inside_of}
use Rattle.amend.proofs.Accepted.{accepted_opens, opens_accepted}
use Rattle.amend.proofs.Demand3.{demand_3}
use Rattle.amend.proofs.SignedOnce.{list_inside, list_outside}
use Rattle.amend.proofs.Within.{amend_inside, amend_outside}
use Rattle.amend_held.specs.HeldBuffer.{stored_open, loaded_open}
use Rattle.amend_held.specs.HeldCalls.{opened_into, amended_into, taken_of, taken_into, Call, one, many, given, amendments, held_after, held_by_of, made_by}
use Rattle.amend_held.proofs.HeldUndone.{Holds, loaded_stored}
use Rattle.amend_held.proofs.HeldStates.{opened_holds, by_holds}

-- ---- one call on the state

-- it makes its amendments, or is refused by 15 with the state as it was
either : {A : Type 0} (s : Open) (c : Call)
    → (given c s ≡ record { answer = Ok tt; state = amended_by s (amendments c) } → A)
    → (given c s ≡ record { answer = Err (refused 15); state = s } → A) → A
unfolding amended_by
either s (one k v) does not_so =
    by_order (payload_length_of s) k (λ l. not_so (amend_outside s k v l))
    (λ l.
    let e = amend_inside s k v l in
    does (e ∙ ap (λ (t : Open). record { answer = Ok tt; state = t }) (sym (ap (λ (a : Amended). a.state) e))))
either s (many es) does not_so =
    by_bool (all_inside_of (payload_length_of s) es) (λ t. does (list_inside s es t)) (λ t. not_so (list_outside s es t))

-- the amendments that it makes
abbrev made : Open → Call → List Amendment
made s c = by_result (λ u. amendments c) (λ r. []) (given c s).answer

-- the buffer after it holds the state after these
call_stored : (s : Open) (c : Call) → amended_into (given c s) (stored_open s) ≡ stored_open (amended_by s (made s c))
unfolding amended_by
call_stored s c =
    let left : Amended → List ℕ = λ a. amended_into a (stored_open s) in
    let right : Amended → List ℕ = λ a. stored_open (amended_by s (by_result (λ u. amendments c) (λ r. []) a.answer)) in
    either s c (λ e. ap left e ∙ sym (ap right e)) (λ e. ap left e ∙ sym (ap right e))

-- ---- a history of calls

by_append : (s : Open) (xs ys : List Amendment) → amended_by s (xs ++ ys) ≡ amended_by (amended_by s xs) ys
unfolding amended_by
by_append s [] ys = refl
by_append s (a ∷ xs) ys = by_append (amend_of s a.offset a.value).state xs ys

history : (calls : List Call) (s : Open) → Holds s
    → held_by_of (stored_open s) calls ≡ stored_open (amended_by s (made_by (stored_open s) calls))
unfolding held_by_of made_by amended_by
history [] s h = refl
history (c ∷ calls) s h =
    let t = amended_by s (made s c) in
    let back = loaded_stored s h in
    let next : held_after (stored_open s) c ≡ stored_open t =
    ap (λ (x : Open). amended_into (given c x) (stored_open s)) back ∙ call_stored s c in
    let all : made (loaded_open (stored_open s)) c ++ made_by (held_after (stored_open s) c) calls ≡ made s c ++ made_by (stored_open t) calls =
    ap₂ (λ (x : Open) (b : List ℕ). made x c ++ made_by b calls) back next in
    ap (λ (b : List ℕ). held_by_of b calls) next
    ∙ history calls t (by_holds s h (made s c))
    ∙ ap stored_open (sym (by_append s (made s c) (made_by (stored_open t) calls)))
    ∙ ap (λ (list : List Amendment). stored_open (amended_by s list)) (sym all)

-- ---- the theorem

-- the opening answered 0; a counter has 32 bits; the buffer b held anything
module _ (f nwk app : List ℕ) (counter : ℕ) (e : (refusal_in (open_of f nwk app counter)).number ≡ 0) (below : counter < 4294967296) (b : List ℕ) (calls : List Call) where
  -- the buffer after the opening and all calls, and the amendments of those that answered 0
  abbrev buffer : List ℕ
  buffer = held_by_of (opened_into (open_of f nwk app counter) b) calls

  abbrev list : List Amendment
  list = made_by (opened_into (open_of f nwk app counter) b) calls

  abbrev s₀ : Open
  s₀ = state_in (open_of f nwk app counter)

  begins : Holds s₀
  begins =
      let a = opens_accepted f nwk app counter e in
      subst (λ (s : Open). Holds s) (sym (ap state_in (accepted_opens f nwk app counter a)))
      (opened_holds f nwk app counter a.data_frame.most below)

  opened : opened_into (open_of f nwk app counter) b ≡ stored_open s₀
  opened =
      let is = accepted_opens f nwk app counter (opens_accepted f nwk app counter e) in
      ap (λ (o : Result Open Refusal). opened_into o b) is ∙ sym (ap (λ (o : Result Open Refusal). stored_open (state_in o)) is)

  -- the buffer holds what the calls on the state give
  pub held_state : loaded_open buffer ≡ amended_by s₀ list
  held_state =
      ap (λ (c : List ℕ). loaded_open (held_by_of c calls)) opened
      ∙ ap loaded_open (history calls s₀ begins)
      ∙ loaded_stored (amended_by s₀ (made_by (stored_open s₀) calls)) (by_holds s₀ begins (made_by (stored_open s₀) calls))
      ∙ sym (ap (λ (c : List ℕ). amended_by s₀ (made_by c calls)) opened)

  -- demand 3 of it
  pub held_stands : Stands f nwk app counter list (loaded_open buffer)
  held_stands = subst (λ (s : Open). Stands f nwk app counter list s) (sym held_state) (demand_3 f nwk app counter e list)

  -- and of the frame that is taken out where there is room
  pub held_frame : (l : List ℕ) → length f ≤ length l
      → (taken_of (loaded_open buffer) (length l) ≡ Ok (length f))
      × (taken_into (loaded_open buffer) l
      ≡ sets l 0 (sealed nwk app counter (header f) (payload_by (clear_of f nwk app counter) list)))
  unfolding taken_of taken_into
  held_frame l room =
      let s = loaded_open buffer in
      let fits : leb s.length (length l) ≡ true = le-leb s.length (length l) (omega (arith, held_stands.long)) in (
        ap (λ (t : Bool). pick t (Ok s.length) (Err (refused 7))) fits ∙ ap Ok held_stands.long,
        ap (λ (t : Bool). pick t (sets l 0 (take s.length s.frame)) l) fits ∙ ap (sets l 0) held_stands.frame,
      )
