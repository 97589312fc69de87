-- MIC tests, openings, session keys and the readers of one type refuse exactly where they are to (docs/RULES.md, Refusals): they hand on what reading
-- gives, and 5 and 6 are given of a frame of the right type alone, each exactly where it is due.
-- Assumes nothing.
use Rattle.std.specs.Prelude.{None}
use Rattle.std.specs.Prelude.{is_some, Result}
use Rattle.frame.specs.Refusals.{refusal_in}
use Rattle.std.specs.Prelude.{Err, Ok, Option, Some}
use mathlib.Core.Path.{◌≡◌, refl, sym, ap, ◌∙◌, subst}
use mathlib.Core.Logic.{⊎_elim}
use mathlib.Core.Bool.{Bool, true, false, not}
use mathlib.Core.List.{List, []}
use Prim.Native.Nat.{ℕ, ◌<◌}
use native.Mathlib.Omega.{arith}
use lib.Dec.{eqb}
use lib.ListN.{length}
use borrow.Author.Tests.{eqb-true, eqb-false, eq-eqb, ne_eqb}
use Rattle.base.specs.Bytes.{pick}
use Rattle.base.proofs.Cases.{by_bool, by_order}
use Rattle.frame.specs.Conditions.{IsJoinAccept, IsData}
use Rattle.frame.specs.JoinFields.{request_fields_of, join_request_fields_of, accept_fields_of, join_accept_fields_of}
use Rattle.frame.specs.ReadingNumbers.{request_in, accept_in, data_in}
use Rattle.frame.specs.Layout.{fport, payload, mic_of}
use Rattle.frame.specs.Reading.{Reading, read_of, port_of, data_of}
use Rattle.frame.specs.Refusals.{refused, not_refused}
use Rattle.frame.specs.declared.refusals.Refusal.{Refusal}
use Rattle.frame.specs.declared.parser.Frame.TheVariants.{JoinRequest, JoinAccept, Data}
use Rattle.frame.proofs.LayoutLaws.{length-payload}
use Rattle.frame.proofs.ReadingLaws.{Says, answers}
use Rattle.frame.proofs.ReadingSteps.{port_there}
use Rattle.frame_security.specs.JoinAcceptCipher.{accept_decrypted}
use Rattle.frame_security.specs.Mic.{same_bytes}
use Rattle.frame_security.specs.Security.{frame_key, covered, data_mic_of, join_mic}
use Rattle.frame_security.proofs.MicCompared.{same_of_test, test_of_same}
use Rattle.frame_opening.specs.FrameOpening.{join_passes, data_passes, join_request_test, join_accept_test, data_test_of, Outcome, unopened, outcome, opened_under, data_opened}
use Rattle.frame_opening.specs.JoinAcceptOpening.{accept_opened}
use Rattle.frame_opening.specs.SessionKeys.{derived_keys, session_keys_of}
use Rattle.frame_opening.specs.CheckedOpening.{opened_tested, data_opened_checked, accept_tested, accept_opened_checked}
use Rattle.theorems.specs.Exactly.{Exactly, Condition, Clear}
use Rattle.theorems.specs.ByReading.{Needs, join_request, join_accept, data_frame, Is, ByReading, AfterReading}
use Rattle.theorems.specs.OpeningConditions.{RightDataMic, RightJoinMic, Tests, KeyMissing, empty, zero, other, plain_conditions, checked_conditions, checked_accept_conditions, opening_of}
use Rattle.theorems.proofs.refusals.KeyChoice.{by_empty, by_its_port}
use Rattle.theorems.proofs.refusals.FirstDue.{apart, if_when, if_unless, if_not, with_none, Gives, no_more, passed, nothing_left, says_told, through}
use Rattle.theorems.proofs.refusals.ReadFirst.{on, on_through, either_way, needed, handed_on, clear_on, after_reading, refusal_after}

-- ---- what the tests tell

-- the MIC is compared
if_right : (s t : List ℕ) → Exactly (same_bytes s t ≡ true) (s ≡ t)
if_right s t = record { there = same_of_test s t; back = test_of_same s t }

-- the key of the payload
module _ (f : List ℕ) (h : IsData f) (nwk app : Option (List ℕ)) where
  -- without a byte of payload it is the network key that is missing
  missing_empty : length (payload f) ≡ 0 → KeyMissing f nwk app → is_some nwk ≡ false
  missing_empty none (empty q m) = m
  missing_empty none (zero q m) = m
  missing_empty none (other p q n some m) = absurd (omega arith)

  -- with one it is the key that the port selects
  missing_port : port_of f ≡ Some (fport f) → 0 < length (payload f) → KeyMissing f nwk app
      → is_some (pick (eqb (fport f) 0) nwk app) ≡ false
  missing_port e some (empty none m) = absurd (omega arith)
  missing_port e some (zero q m) =
      ap (λ (b : Bool). is_some (pick b nwk app)) (eq-eqb (fport f) 0 (cc)) ∙ m
  missing_port e some (other p q n l m) =
      ap (λ (b : Bool). is_some (pick b nwk app)) (ne_eqb (fport f) 0 (λ z. n (cc))) ∙ m

  port_missing : port_of f ≡ Some (fport f) → 0 < length (payload f) → is_some (pick (eqb (fport f) 0) nwk app) ≡ false
      → KeyMissing f nwk app
  port_missing e some m =
      by_bool (eqb (fport f) 0)
      (λ t. zero (e ∙ ap Some (eqb-true (fport f) 0 t)) (sym (ap (λ (b : Bool). is_some (pick b nwk app)) t) ∙ m))
      (λ t. other (fport f) e (eqb-false (fport f) 0 t) some (sym (ap (λ (b : Bool). is_some (pick b nwk app)) t) ∙ m))

  -- and so the test of the key tells whether it is missing
  if_missing : Exactly (is_some (frame_key f nwk app) ≡ false) (KeyMissing f nwk app)
  if_missing =
      by_order (length (payload f)) 0
      (λ l.
      let none : length (payload f) ≡ 0 = omega arith in
      let key = ap (λ (k : Option (List ℕ)). is_some k) (by_empty f h none nwk app) in
      record { there = λ m. empty none (sym key ∙ m); back = λ m. key ∙ missing_empty none m })
      (λ l.
      let one = port_there f (omega (arith, length-payload f)) in
      let key = ap (λ (k : Option (List ℕ)). is_some k) (by_its_port f h l nwk app) in
      record { there = λ m. port_missing one l (sym key ∙ m); back = λ m. key ∙ missing_port one l m })

-- ---- openings

-- an opening tells its refusal
told_opening : (n : ℕ) → refusal_in (opening_of n) ≡ refused n
told_opening = says_told Err (Ok tt) refusal_in (λ r. refl) refl

-- an opening that goes on past reading: its answer where the frame is what it needs
opens_after : (k : Needs) (f : List ℕ) {cs : List Condition} (x : Outcome) → (Is k f → Gives opening_of cs x.answer)
    → AfterReading Err opening_of k f cs (on k x (unopened f) (read_of f)).answer
opens_after k f x g =
    rw (on_through (λ (r : Outcome). r.answer) k f x (unopened f) Err (λ r n. refl))
    (after_reading Err opening_of refusal_in (λ r. refl) told_opening k f g)

-- by a key that may not be given
under_answer : (key : Option (List ℕ)) (counter : ℕ) (f : List ℕ)
    → (opened_under key counter f).answer ≡ pick (is_some key) (Ok tt) (Err (refused 6))
unfolding opened_under
under_answer None counter f = refl
under_answer (Some key) counter f = refl

key_gives : (nwk app : Option (List ℕ)) (counter : ℕ) (f : List ℕ) → IsData f
    → Gives opening_of (plain_conditions nwk app f) (opened_under (frame_key f nwk app) counter f).answer
key_gives nwk app counter f h =
    let given = is_some (frame_key f nwk app) in
    rw (under_answer (frame_key f nwk app) counter f)
    (passed opening_of refusal_in told_opening tt given
    (if_when (not given) (if_not given (if_missing f h nwk app)))
    (no_more opening_of refusal_in told_opening))

-- past a test of the MIC
tested_gives : (nwk : List ℕ) (app : Option (List ℕ)) (counter : ℕ) (f : List ℕ) → IsData f
    → Gives opening_of (checked_conditions nwk app counter f) (opened_tested nwk app counter f).answer
unfolding opened_tested data_passes
tested_gives nwk app counter f h =
    let right = same_bytes (mic_of f) (data_mic_of nwk (covered f) counter) in
    rw (through (λ (r : Outcome). r.answer) right (opened_under (frame_key f (Some nwk) app) counter f) (unopened f (refused 5)))
    (passed opening_of refusal_in told_opening tt right (if_unless right (if_right (mic_of f) (data_mic_of nwk (covered f) counter)))
    (key_gives (Some nwk) app counter f h))

-- a join-accept, past the test of its clear MIC
accept_gives : (key f : List ℕ) → Gives opening_of (checked_accept_conditions key f) (accept_tested key f).answer
unfolding accept_tested join_passes
accept_gives key f =
    let clear = accept_decrypted key f in
    let right = same_bytes (mic_of clear) (join_mic key (covered clear)) in
    rw (through (λ (r : Outcome). r.answer) right (outcome (Ok tt) clear) (unopened f (refused 5)))
    (passed opening_of refusal_in told_opening tt right (if_unless right (if_right (mic_of clear) (join_mic key (covered clear))))
    (no_more opening_of refusal_in told_opening))

-- plain decryption of a data frame: reading, 6
pub data_opening : (nwk app : Option (List ℕ)) (counter : ℕ) (f : List ℕ)
    → AfterReading Err opening_of data_frame f (plain_conditions nwk app f) (data_opened nwk app counter f).answer
unfolding data_opened
data_opening nwk app counter f = opens_after data_frame f (opened_under (frame_key f nwk app) counter f) (key_gives nwk app counter f)

-- checked decryption of a data frame: reading, 5, 6
pub checked_opening : (nwk : List ℕ) (app : Option (List ℕ)) (counter : ℕ) (f : List ℕ)
    → AfterReading Err opening_of data_frame f (checked_conditions nwk app counter f) (data_opened_checked nwk app counter f).answer
unfolding data_opened_checked
checked_opening nwk app counter f = opens_after data_frame f (opened_tested nwk app counter f) (tested_gives nwk app counter f)

-- plain decryption of a join-accept: reading
pub accept_opening : (key f : List ℕ) → AfterReading Err opening_of join_accept f [] (accept_opened key f).answer
unfolding accept_opened
accept_opening key f =
    opens_after join_accept f (outcome (Ok tt) (accept_decrypted key f)) (λ h. no_more opening_of refusal_in told_opening)

-- checked opening of a join-accept: reading, 5
pub checked_accept : (key f : List ℕ)
    → AfterReading Err opening_of join_accept f (checked_accept_conditions key f) (accept_opened_checked key f).answer
unfolding accept_opened_checked
checked_accept key f = opens_after join_accept f (accept_tested key f) (λ h. accept_gives key f)

-- ---- the numbers 5 and 6 of them and what is opened, written out

module _ (nwk app : Option (List ℕ)) (counter : ℕ) (f : List ℕ) where
  pub data_6 : Exactly ((data_opened nwk app counter f).answer ≡ Err (refused 6)) (IsData f × KeyMissing f nwk app)
  data_6 = (data_opening nwk app counter f).own 6 tt

  pub data_opened_lem : Exactly ((data_opened nwk app counter f).answer ≡ (Ok tt)) (IsData f × (KeyMissing f nwk app → ⊥))
  data_opened_lem = with_none (plain_conditions nwk app f) tt ((data_opening nwk app counter f).own 0 tt)

module _ (nwk : List ℕ) (app : Option (List ℕ)) (counter : ℕ) (f : List ℕ) where
  pub checked_5 : Exactly ((data_opened_checked nwk app counter f).answer ≡ Err (refused 5)) (IsData f × (RightDataMic nwk counter f → ⊥))
  checked_5 = (checked_opening nwk app counter f).own 5 tt

  pub checked_6 : Exactly ((data_opened_checked nwk app counter f).answer ≡ Err (refused 6))
      (IsData f × (RightDataMic nwk counter f × KeyMissing f (Some nwk) app))
  checked_6 = (checked_opening nwk app counter f).own 6 tt

  pub checked_opened : Exactly ((data_opened_checked nwk app counter f).answer ≡ (Ok tt))
      (IsData f × (RightDataMic nwk counter f × (KeyMissing f (Some nwk) app → ⊥)))
  checked_opened = with_none (checked_conditions nwk app counter f) tt ((checked_opening nwk app counter f).own 0 tt)

module _ (key f : List ℕ) where
  pub accept_5 : Exactly ((accept_opened_checked key f).answer ≡ Err (refused 5))
      (IsJoinAccept f (length f) × (RightJoinMic key (accept_decrypted key f) → ⊥))
  accept_5 = (checked_accept key f).own 5 tt

  pub accept_opened_lem : Exactly ((accept_opened_checked key f).answer ≡ (Ok tt))
      (IsJoinAccept f (length f) × RightJoinMic key (accept_decrypted key f))
  accept_opened_lem = with_none (checked_accept_conditions key f) tt ((checked_accept key f).own 0 tt)

-- ---- MIC tests

-- what an answer says of the comparison
passes_where : (b : Bool) → ◌≡◌ {A = Result Bool Refusal} (Ok b) (Ok true) → b ≡ true
passes_where true e = refl
passes_where false e = cc

fails_where : (b : Bool) → ◌≡◌ {A = Result Bool Refusal} (Ok b) (Ok false) → b ≡ false
fails_where true e = cc
fails_where false e = refl

never_refused : (b : Bool) (r : Refusal) → Ok b ≡ Err r → ⊥
never_refused true r e = apart (cc)
never_refused false r e = apart (cc)

-- a test that compares s and u, of a frame that it needs
module _ (k : Needs) (f s u : List ℕ) where
  -- its answer, where the frame is what it needs and where reading refuses
  abbrev test : Result Bool Refusal
  test = on k (Ok (same_bytes s u)) Err (read_of f)

  made : Is k f → test ≡ Ok (same_bytes s u)
  made i = needed (Ok (same_bytes s u)) Err f k i

  handed : (r : Refusal) → ByReading k f r → test ≡ Err r
  handed r h = handed_on (Ok (same_bytes s u)) Err f k r h

  another : (r : Refusal) → ByReading k f r → (t : Result Bool Refusal) → test ≡ t → t ≡ Err r
  another r h t q = sym q ∙ handed r h

  tests : Tests k f (s ≡ u) test
  tests =
      record {
        passes =
            record {
              there =
                  λ q.
                  ⊎_elim (λ i. (i, same_of_test s u (passes_where (same_bytes s u) (sym (made i) ∙ q))))
                  (λ h. let e = another h.0 h.1 (Ok true) q in apart (cc)) (either_way f k);
              back = λ h. made h.0 ∙ ap Ok (test_of_same s u h.1);
            };
        fails =
            record {
              there =
                  λ q.
                  ⊎_elim
                  (λ i. (i, λ e. apart (sym (test_of_same s u e) ∙ fails_where (same_bytes s u) (sym (made i) ∙ q))))
                  (λ h. let e = another h.0 h.1 (Ok false) q in apart (cc)) (either_way f k);
              back =
                  λ h.
                  made h.0
                  ∙ by_bool (same_bytes s u) (λ e. absurd (h.1 (same_of_test s u e))) (λ e. ap Ok e);
            };
        reading =
            λ r.
            record {
              there =
                  λ q.
                  ⊎_elim (λ i. absurd (never_refused (same_bytes s u) r (sym (made i) ∙ q)))
                  (λ h.
                  let e = another h.0 h.1 (Err r) q in
                  let is : h.0 ≡ r = cc in
                  subst (λ (t : Refusal). ByReading k f t) is h.1)
                  (either_way f k);
              back = handed r;
            };
      }

pub request_test : (key f : List ℕ) → Tests join_request f (RightJoinMic key f) (join_request_test key f)
unfolding join_request_test join_passes
request_test key f = tests join_request f (mic_of f) (join_mic key (covered f))

pub accept_test : (key f : List ℕ) → Tests join_accept f (RightJoinMic key f) (join_accept_test key f)
unfolding join_accept_test join_passes
accept_test key f = tests join_accept f (mic_of f) (join_mic key (covered f))

pub data_test : (key : List ℕ) (counter : ℕ) (f : List ℕ) → Tests data_frame f (RightDataMic key counter f) (data_test_of key counter f)
unfolding data_test_of data_passes
data_test key counter f = tests data_frame f (mic_of f) (data_mic_of key (covered f) counter)

-- ---- calls with a refusal beside their values: reading alone

-- the refusal beside values that are given of a frame of the right type
values_after : (k : Needs) (f : List ℕ) → AfterReading (λ r. r) refused k f [] (on k not_refused (λ r. r) (read_of f))
values_after k f = refusal_after k f (λ i. nothing_left)

-- the refusal in each of these answers
pub session_refusal : (key dev_nonce_of f : List ℕ) → refusal_in (session_keys_of key dev_nonce_of f) ≡ on join_accept not_refused (λ r. r) (read_of f)
unfolding session_keys_of
session_refusal key dev_nonce_of f =
    on_through refusal_in join_accept f (Ok (derived_keys key dev_nonce_of f)) Err (λ r. r) (λ r n. refl)

pub request_refusal : (f : List ℕ) → refusal_in (join_request_fields_of f) ≡ on join_request not_refused (λ r. r) (read_of f)
request_refusal f =
    on_through refusal_in join_request f (Ok (request_fields_of f)) Err (λ r. r) (λ r n. refl)

pub accept_refusal : (f : List ℕ) → refusal_in (join_accept_fields_of f) ≡ on join_accept not_refused (λ r. r) (read_of f)
accept_refusal f =
    on_through refusal_in join_accept f (Ok (accept_fields_of f)) Err (λ r. r) (λ r n. refl)

-- what is given where it says none
pub session_clear : (key dev_nonce_of f : List ℕ) → Clear (session_keys_of key dev_nonce_of f) (derived_keys key dev_nonce_of f)
unfolding session_keys_of
session_clear key dev_nonce_of f = clear_on join_accept f (derived_keys key dev_nonce_of f)

-- and what it goes by
pub session_keys : (key dev_nonce_of f : List ℕ)
    → AfterReading (λ r. r) refused join_accept f [] (refusal_in (session_keys_of key dev_nonce_of f))
    × Clear (session_keys_of key dev_nonce_of f) (derived_keys key dev_nonce_of f)
session_keys key dev_nonce_of f =
    (rw (session_refusal key dev_nonce_of f) (values_after join_accept f), session_clear key dev_nonce_of f)

pub request_fields : (f : List ℕ)
    → AfterReading (λ r. r) refused join_request f [] (refusal_in (join_request_fields_of f))
    × Clear (join_request_fields_of f) (request_fields_of f)
request_fields f = (rw (request_refusal f) (values_after join_request f), clear_on join_request f (request_fields_of f))

pub accept_fields : (f : List ℕ)
    → AfterReading (λ r. r) refused join_accept f [] (refusal_in (join_accept_fields_of f))
    × Clear (join_accept_fields_of f) (accept_fields_of f)
accept_fields f = (rw (accept_refusal f) (values_after join_accept f), clear_on join_accept f (accept_fields_of f))

-- ---- reading a frame of one type: reading alone

-- a call that gives x of a frame of the right type and does no more
reading_after : (k : Needs) (f : List ℕ) {A : Type 0} (x : A) {answer : Result A Refusal} → answer ≡ on k (Ok x) Err (read_of f)
    → AfterReading (λ r. r) refused k f [] (refusal_in answer) × Clear answer x
reading_after k f {A} x e =
    subst (λ (a : Result A Refusal). AfterReading (λ r. r) refused k f [] (refusal_in a) × Clear a x) (sym e)
    (rw (on_through refusal_in k f (Ok x) Err (λ r. r) (λ r n. refl)) (values_after k f), clear_on k f x)

request_given : (r : Reading) → request_in r ≡ on join_request (Ok tt) Err r
request_given (Ok JoinRequest) = refl
request_given (Ok (JoinAccept n)) = refl
request_given (Ok (Data d)) = refl
request_given (Err q) = refl

accept_given : (f : List ℕ) (r : Reading) → Says f r → accept_in r ≡ on join_accept (Ok (length f)) Err r
accept_given f (Ok JoinRequest) s = refl
accept_given f (Ok (JoinAccept n)) s = ap Ok (sym s.long)
accept_given f (Ok (Data d)) s = refl
accept_given f (Err q) s = refl

data_given : (f : List ℕ) (r : Reading) → Says f r → data_in r ≡ on data_frame (Ok (data_of f)) Err r
data_given f (Ok JoinRequest) s = refl
data_given f (Ok (JoinAccept n)) s = refl
data_given f (Ok (Data d)) s = ap Ok s.1
data_given f (Err q) s = refl

-- a join-request
pub as_request : (f : List ℕ)
    → AfterReading (λ r. r) refused join_request f [] (refusal_in (request_in (read_of f))) × Clear (request_in (read_of f)) tt
as_request f = reading_after join_request f tt (request_given (read_of f))

-- a join-accept, and its length
pub as_accept : (f : List ℕ)
    → AfterReading (λ r. r) refused join_accept f [] (refusal_in (accept_in (read_of f))) × Clear (accept_in (read_of f)) (length f)
as_accept f = reading_after join_accept f (length f) (accept_given f (read_of f) (answers f))

-- a data frame, and its fields
pub as_data : (f : List ℕ)
    → AfterReading (λ r. r) refused data_frame f [] (refusal_in (data_in (read_of f))) × Clear (data_in (read_of f)) (data_of f)
as_data f = reading_after data_frame f (data_of f) (data_given f (read_of f) (answers f))
