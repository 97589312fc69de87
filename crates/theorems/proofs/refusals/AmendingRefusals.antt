-- Opening for amendments, amending, alone and by a list, and taking a frame out refuse exactly where they are to (docs/RULES.md,
-- Refusals). Amending is said of every state, also one that no call made, and so of every buffer that holds one.
-- Assumes nothing.
use Rattle.frame.specs.Refusals.{by_result}
use Rattle.std.specs.Prelude.{Result, Ok, Err}
use Rattle.frame.specs.Refusals.{refusal_in}
use mathlib.Core.Path.{◌≡◌, refl, sym, ap, ap₂, ◌∙◌, subst}
use mathlib.Core.Bool.{Bool, true, false, not}
use mathlib.Core.List.{List, [], ◌∷◌}
use Prim.Native.Nat.{ℕ, suc, ◌/◌, ◌%◌, ◌≤◌, ◌<◌}
use native.Mathlib.Omega.{arith}
use lib.Dec.{T, eqb, leb, ltb}
use lib.ListN.{length}
use borrow.Author.Tests.{ltb-false, le-ltb}
use Rattle.base.specs.Bytes.{pick, at}
use Rattle.frame.specs.Conditions.{IsData}
use Rattle.frame.specs.Layout.{fcnt, payload, mic_of}
use Rattle.frame.specs.Refusals.{refused}
use Rattle.frame.specs.declared.refusals.Refusal.{Refusal}
use Rattle.frame_security.specs.Mic.{same_bytes}
use Rattle.frame_security.specs.Security.{covered, data_mic_of}
use Rattle.frame_security.proofs.MicCompared.{same_of_test, test_of_same}
use Rattle.amend.specs.Amending.{payload_length_of, amended_to, amend_of}
use Rattle.amend.specs.AmendmentLists.{amended_by, decoded_all, amend_all_of, amend_frame_of}
use Rattle.amend.specs.OpenFrame.{opened_of, open_checked_of, open_data, open_of}
use Rattle.amend.specs.SignedOnce.{all_inside_of, amend_list_of}
use Rattle.amend.specs.Amending.{Amended}
use Rattle.amend.specs.declared.amending.Open.{Open}
use Rattle.amend.proofs.Accepted.{accepted_opens, opens_accepted}
use Rattle.amend.proofs.OneByte.{payload_count}
use Rattle.amend.proofs.SignedOnce.{list_alike}
use Rattle.amend_held.specs.HeldCalls.{taken_of}
use Rattle.theorems.specs.Exactly.{Exactly, Condition, ◌when◌, ◌unless◌, Clear, Accepts, Refuses}
use Rattle.theorems.specs.ByReading.{data_frame, AfterReading}
use Rattle.theorems.specs.OpeningConditions.{RightDataMic}
use Rattle.theorems.specs.AmendingConditions.{Outside, outside, open_then, open_conditions, amend_conditions, list_conditions, frame_conditions, taken_conditions}
use Rattle.theorems.proofs.demand_3.WholeList.{frame_passed}
use Rattle.theorems.proofs.refusals.FirstDue.{if_when, if_unless, if_not, if_below, if_most, if_equal, by_none, with_none, fresh, Gives, through, nothing_left, past, refuses, clear_test, accepts}
use Rattle.theorems.proofs.refusals.ReadFirst.{on_through, refusal_after}
use Rattle.theorems.proofs.refusals.SomeIndex.{if_some}

-- ---- what the tests tell

-- the MIC is compared
if_right : (s t : List ℕ) → Exactly (same_bytes t s ≡ true) (s ≡ t)
if_right s t = record { there = λ e. sym (same_of_test t s e); back = λ e. test_of_same t s (sym e) }

-- a list whose offsets do not all lie inside has one at some index that does not
either_outside : (a b : Bool) → not (pick a b false) ≡ pick (not a) true (not b)
either_outside true b = refl
either_outside false b = refl

if_outside : (count : ℕ) (es : List ℕ) → Exactly (not (all_inside_of count es) ≡ true) (Outside count es)
unfolding all_inside_of
if_outside count es =
    let some =
    if_some (λ e. count ≤ e / 256) (λ e. not (ltb (e / 256) count))
    (λ e. if_not (ltb (e / 256) count) (record { there = ltb-false (e / 256) count; back = le-ltb (e / 256) count }))
    (λ l. not (all_inside_of count l)) refl (λ e l. either_outside (ltb (e / 256) count) (all_inside_of count l)) es in
    record {
      there = λ t. let h = some.there t in outside h.0 h.1 h.2;
      back = λ o. some.back (out_at o);
    }
  where
    out_at : Outside count es → (i : ℕ) × (i < length es) × (count ≤ at es i / 256)
    out_at (outside i l h) = (i, l, h)

-- ---- opening

-- what a call makes of an opening, h, past both tests: as it is where the opening is refused
module _ (f nwk app : List ℕ) (counter : ℕ) (h : Result Open Refusal → Refusal)
    (keeps : (n : ℕ) → h (Err (refused (suc n))) ≡ refused (suc n)) where
  opened_gives : {cs : List Condition} → T (fresh 14 (5 unless RightDataMic nwk counter f ∷ cs)) → T (fresh 5 cs)
      → Gives refused cs (h (Ok (opened_of f nwk app counter)))
      → Gives refused (open_then nwk counter f cs) (h (open_data f nwk app counter))
  unfolding open_data open_checked_of
  opened_gives {cs} new-14 new-5 g =
      let low = eqb (counter % 65536) (fcnt f) in
      let right = same_bytes (data_mic_of nwk (covered f) counter) (mic_of f) in
      let opened = Ok (opened_of f nwk app counter) in
      let path : h (open_data f nwk app counter) ≡ pick low (pick right (h opened) (refused 5)) (refused 14) =
      through h low (pick right opened (Err (refused 5))) (Err (refused 14))
      ∙ ap (λ (r : Refusal). pick low r (h (Err (refused 14)))) (through h right opened (Err (refused 5)))
      ∙ ap₂ (λ (r s : Refusal). pick low (pick right (h opened) r) s) (keeps 4) (keeps 13) in
      subst (λ (r : Refusal). Gives refused (open_then nwk counter f cs) r) (sym path)
      (past new-14 low (if_unless low (if_equal (counter % 65536) (fcnt f)))
      (past new-5 right (if_unless right (if_right (mic_of f) (data_mic_of nwk (covered f) counter))) g))

module _ (f nwk app : List ℕ) (counter : ℕ) where
  opening_refuses : AfterReading (λ r. r) refused data_frame f (open_conditions nwk counter f) (refusal_in (open_of f nwk app counter))
  unfolding open_of
  opening_refuses =
      rw (on_through refusal_in data_frame f (open_data f nwk app counter) Err (λ r. r) (λ r n. refl))
      (refusal_after data_frame f (λ i. opened_gives f nwk app counter refusal_in (λ n. refl) tt tt nothing_left))

  -- reading, 14, 5, and the frame opened
  pub opening : AfterReading (λ r. r) refused data_frame f (open_conditions nwk counter f) (refusal_in (open_of f nwk app counter))
      × Clear (open_of f nwk app counter) (opened_of f nwk app counter)
  opening = (
    opening_refuses,
    λ e. accepted_opens f nwk app counter (opens_accepted f nwk app counter (ap (λ (r : Refusal). r.number) e)),
  )

-- ---- amending an open frame, in every state

-- by the test of the offsets
answered : (inside : Bool) (s t : Open)
    → Clear (pick {A = Amended} inside (record { answer = Ok tt; state = s }) (record { answer = Err (refused 15); state = t })).answer tt
answered inside s t =
    rw (through (λ (a : Amended). a.answer) inside (record { answer = Ok tt; state = s }) (record { answer = Err (refused 15); state = t }))
    (clear_test inside tt 14)

-- 15
pub amending : (s : Open) (k v : ℕ) → Refuses (amend_conditions s k) (refusal_in (amend_of s k v).answer) × Clear (amend_of s k v).answer tt
unfolding amend_of
amending s k v =
    let inside = ltb k (payload_length_of s) in (
      rw (through (λ (a : Amended). refusal_in a.answer) inside (record { answer = Ok tt; state = amended_to s k v }) (record { answer = Err (refused 15); state = s }))
          (refuses (past tt inside (if_unless inside (if_below k (payload_length_of s))) nothing_left)),
      answered inside (amended_to s k v) s,
    )

-- a list of amendments, by the test of all its offsets
list_gives : (s : Open) (es : List ℕ) → Gives refused (list_conditions s es) (refusal_in (amend_list_of s es).answer)
unfolding amend_list_of
list_gives s es =
    let inside = all_inside_of (payload_length_of s) es in
    rw (through (λ (a : Amended). refusal_in a.answer) inside (record { answer = Ok tt; state = amended_by s (decoded_all es) }) (record { answer = Err (refused 15); state = s }))
    (past tt inside (if_when (not inside) (if_outside (payload_length_of s) es)) nothing_left)

-- 15
pub amending_list : (s : Open) (es : List ℕ) → Refuses (list_conditions s es) (refusal_in (amend_list_of s es).answer) × Clear (amend_list_of s es).answer tt
unfolding amend_list_of
amending_list s es =
    (refuses (list_gives s es), answered (all_inside_of (payload_length_of s) es) (amended_by s (decoded_all es)) s)

-- ---- a frame that is lent as bytes

module _ (f nwk app : List ℕ) (counter : ℕ) (es : List ℕ) where
  -- the opening's refusal, or that of the list
  then_list : Result Open Refusal → Refusal
  then_list o = refusal_in (by_result (λ s. (amend_all_of s es).answer) Err o)

  -- a refused opening refuses the call
  refused_first : (r : Refusal) → (r.number ≡ 0 → ⊥) → then_list (Err r) ≡ r
  unfolding then_list
  refused_first r n = refl

  -- past the opening it goes by the list, in the payload of the frame
  list_then : IsData f → Gives refused (15 when Outside (length (payload f)) es ∷ []) (then_list (Ok (opened_of f nwk app counter)))
  unfolding then_list
  list_then i =
      let s = opened_of f nwk app counter in
      subst (λ (r : Result (Unit {0}) Refusal). Gives refused (15 when Outside (length (payload f)) es ∷ []) (refusal_in r)) (list_alike s es).answer
      (subst (λ (n : ℕ). Gives refused (15 when Outside n es ∷ []) (refusal_in (amend_list_of s es).answer)) (payload_count f nwk app counter i)
      (list_gives s es))

  frame_refuses : AfterReading (λ r. r) refused data_frame f (frame_conditions nwk counter f es) (refusal_in (amend_frame_of f nwk app counter es))
  unfolding amend_frame_of open_of then_list
  frame_refuses =
      rw (on_through then_list data_frame f (open_data f nwk app counter) Err (λ r. r) refused_first)
      (refusal_after data_frame f
      (λ i. opened_gives f nwk app counter then_list (λ n. refused_first (refused (suc n)) (λ e. omega arith)) tt tt (list_then i)))

  -- reading, 14, 5, 15
  pub amending_frame : AfterReading (λ r. r) refused data_frame f (frame_conditions nwk counter f es) (refusal_in (amend_frame_of f nwk app counter es))
      × Clear (amend_frame_of f nwk app counter es) tt
  amending_frame = (frame_refuses, λ e. frame_passed f nwk app counter es (ap (λ (r : Refusal). r.number) e))

-- ---- taking the frame out: 7

pub taking : (s : Open) (room : ℕ) → Refuses (taken_conditions s room) (refusal_in (taken_of s room)) × Clear (taken_of s room) s.length
unfolding taken_of
taking s room =
    let fits = leb s.length room in (
      rw (through refusal_in fits (Ok s.length) (Err (refused 7)))
          (refuses (past tt fits (if_unless fits (if_most s.length room)) nothing_left)),
      clear_test fits s.length 6,
    )

-- ---- the numbers of them and what is accepted, written out

module _ (f nwk app : List ℕ) (counter : ℕ) where
  pub open_14 : Exactly (refusal_in (open_of f nwk app counter) ≡ refused 14) (IsData f × (counter % 65536 ≡ fcnt f → ⊥))
  open_14 = (opening f nwk app counter).0.own 14 tt

  pub open_5 : Exactly (refusal_in (open_of f nwk app counter) ≡ refused 5)
      (IsData f × ((counter % 65536 ≡ fcnt f) × (RightDataMic nwk counter f → ⊥)))
  open_5 = (opening f nwk app counter).0.own 5 tt

  pub open_accepted : Accepts (open_of f nwk app counter) (opened_of f nwk app counter)
      (IsData f × ((counter % 65536 ≡ fcnt f) × RightDataMic nwk counter f))
  open_accepted =
      let o = opening f nwk app counter in accepts o.1 (with_none (open_conditions nwk counter f) tt (o.0.own 0 tt))

  pub frame_15 : (es : List ℕ)
      → Exactly (refusal_in (amend_frame_of f nwk app counter es) ≡ refused 15)
      (IsData f × ((counter % 65536 ≡ fcnt f) × (RightDataMic nwk counter f × Outside (length (payload f)) es)))
  frame_15 es = (amending_frame f nwk app counter es).0.own 15 tt

  pub frame_accepted : (es : List ℕ)
      → Accepts (amend_frame_of f nwk app counter es) tt
      (IsData f × ((counter % 65536 ≡ fcnt f) × (RightDataMic nwk counter f × (Outside (length (payload f)) es → ⊥))))
  frame_accepted es =
      let a = amending_frame f nwk app counter es in accepts a.1 (with_none (frame_conditions nwk counter f es) tt (a.0.own 0 tt))

module _ (s : Open) where
  pub amend_15 : (k v : ℕ) → Exactly (refusal_in (amend_of s k v).answer ≡ refused 15) (k < payload_length_of s → ⊥)
  amend_15 k v = (amending s k v).0.exactly 15

  pub amend_accepted : (k v : ℕ) → Accepts (amend_of s k v).answer tt (k < payload_length_of s)
  amend_accepted k v = let a = amending s k v in accepts a.1 (by_none (amend_conditions s k) tt (a.0.exactly 0))

  pub list_15 : (es : List ℕ) → Exactly (refusal_in (amend_list_of s es).answer ≡ refused 15) (Outside (payload_length_of s) es)
  list_15 es = (amending_list s es).0.exactly 15

  pub list_accepted : (es : List ℕ) → Accepts (amend_list_of s es).answer tt (Outside (payload_length_of s) es → ⊥)
  list_accepted es = let a = amending_list s es in accepts a.1 (by_none (list_conditions s es) tt (a.0.exactly 0))

  pub taken_7 : (room : ℕ) → Exactly (refusal_in (taken_of s room) ≡ refused 7) (s.length ≤ room → ⊥)
  taken_7 room = (taking s room).0.exactly 7

  pub taken_accepted : (room : ℕ) → Accepts (taken_of s room) s.length (s.length ≤ room)
  taken_accepted room = let t = taking s room in accepts t.1 (by_none (taken_conditions s room) tt (t.0.exactly 0))
