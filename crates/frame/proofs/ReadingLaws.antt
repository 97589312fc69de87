-- What an answer of the reader says of the frame, and which frames get which answer. One statement, `answers`, goes
-- through the tests of reading once and says of every answer what holds of the frame; the laws take it apart.
-- Assumes nothing.
use Rattle.std.specs.Prelude.{Err, Ok}
use mathlib.Core.Path.{◌≡◌, refl, sym, ap, ◌∙◌, subst}
use mathlib.Core.List.{List}
use mathlib.Core.Logic.{inl, inr, ⊎_elim}
use Prim.Native.Nat.{ℕ, ◌+◌, ◌≤◌, ◌<◌}
use native.Mathlib.Omega.{arith}
use lib.ListN.{length}
use Rattle.base.proofs.Cases.{by_order, by_equal}
use Rattle.frame.specs.Layout.{mtype, major, fhdr_length_of}
use Rattle.frame.specs.Faults.{Fault, too_long, too_short, version, type, join_length, header, number_of_fault}
use Rattle.frame.specs.Reading.{refuse, data_of, read_of}
use Rattle.frame.specs.Conditions.{IsJoinRequest, IsJoinAccept, IsData, WrongJoinLength, request, accept, Found, Gives}
use Rattle.frame.specs.declared.refusals.Refusal.{Refusal}
use Rattle.frame.specs.declared.parser.DataFrame.{DataFrame}
use Rattle.frame.specs.Reading.{Reading}
use Rattle.frame.specs.declared.parser.Frame.TheVariants.{JoinRequest, JoinAccept, Data}
use Rattle.frame.proofs.ReadingSteps as steps

-- ---- from the frame to its answer

wrong_join : (f : List ℕ) → 12 ≤ length f → length f ≤ 255 → major f ≡ 0 → WrongJoinLength f → read_of f ≡ refuse join_length f
wrong_join f h k v (request t n) = steps.by_type f h k v ∙ steps.type_request f t ∙ steps.request_wrong f n
wrong_join f h k v (accept t n m) = steps.by_type f h k v ∙ steps.type_accept f t ∙ steps.accept_wrong f n m

pub reads_fault : (f : List ℕ) (x : Fault) → Found x f → read_of f ≡ refuse x f
reads_fault f too_long h = steps.too_long f h.long
reads_fault f too_short h = steps.too_short f h.short
reads_fault f version h = steps.other_version f h.not_1 h.not_12 h.other
reads_fault f type h = steps.by_type f h.not_1 h.not_12 h.not_2 ∙ steps.type_other f h.other
reads_fault f join_length h = wrong_join f h.not_1 h.not_12 h.not_2 h.wrong
reads_fault f header h =
    steps.by_type f h.not_1 h.not_12 h.not_2
    ∙ steps.type_data f h.data_frame h.not_3
    ∙ steps.data_wrong f h.short

pub reads_request : (f : List ℕ) → IsJoinRequest f → read_of f ≡ (Ok JoinRequest)
reads_request f h =
    steps.by_type f (omega (arith, h.long)) (omega (arith, h.long)) h.version
    ∙ steps.type_request f h.type
    ∙ steps.request_right f h.long

pub reads_accept : (f : List ℕ) (n : ℕ) → IsJoinAccept f n → read_of f ≡ Ok (JoinAccept n)
reads_accept f n h =
    ⊎_elim
    (λ e.
    steps.by_type f (omega (arith, h.long)) (omega (arith, h.long)) h.version
    ∙ steps.type_accept f h.type
    ∙ steps.accept_short f (h.long ∙ e)
    ∙ ap (λ x. Ok (JoinAccept x)) (sym e))
    (λ e.
    steps.by_type f (omega (arith, h.long)) (omega (arith, h.long)) h.version
    ∙ steps.type_accept f h.type
    ∙ steps.accept_long f (h.long ∙ e)
    ∙ ap (λ x. Ok (JoinAccept x)) (sym e))
    h.either

pub reads_data : (f : List ℕ) → IsData f → read_of f ≡ Ok (Data (data_of f))
reads_data f h =
    steps.by_type f h.least h.most h.version ∙ steps.type_data f h.from h.below ∙ steps.data_right f h.fits

-- ---- from the answer to the frame

-- what an answer says of the frame
abbrev pub Says : List ℕ → Reading → Type 0
Says f (Ok JoinRequest) = IsJoinRequest f
Says f (Ok (JoinAccept n)) = IsJoinAccept f n
Says f (Ok (Data d)) = IsData f × (d ≡ data_of f)
Says f (Err r) = Gives f r

-- an answer that is given where what it says holds
given : (f : List ℕ) (r : Reading) → read_of f ≡ r → Says f r → Says f (read_of f)
given f r e h = subst (λ (x : Reading). Says f x) (sym e) h

-- a fault that is found is answered
faulty : (f : List ℕ) (x : Fault) → Found x f → Says f (read_of f)
faulty f x h = given f (refuse x f) (reads_fault f x h) (record { fault = x; found = h; is = refl })

module _ (f : List ℕ) (l : 12 ≤ length f) (m : length f ≤ 255) (v : major f ≡ 0) where
  wrong : WrongJoinLength f → Says f (read_of f)
  wrong w = faulty f join_length (record { not_12 = m; not_1 = l; not_2 = v; wrong = w })

  answer_request : mtype f ≡ 0 → Says f (read_of f)
  answer_request t =
      by_equal (length f) 23
      (λ e.
      let g : IsJoinRequest f = record { version = v; type = t; long = e } in
      given f (Ok JoinRequest) (reads_request f g) g)
      (λ n. wrong (request t n))

  answer_accept : mtype f ≡ 1 → Says f (read_of f)
  answer_accept t =
      by_equal (length f) 17
      (λ e.
      let g : IsJoinAccept f 17 = record { version = v; type = t; long = e; either = inl refl } in
      given f (Ok (JoinAccept 17)) (reads_accept f 17 g) g)
      (λ n.
      by_equal (length f) 33
      (λ e.
      let g : IsJoinAccept f 33 = record { version = v; type = t; long = e; either = inr refl } in
      given f (Ok (JoinAccept 33)) (reads_accept f 33 g) g)
      (λ k. wrong (accept t n k)))

  answer_data : 2 ≤ mtype f → mtype f < 6 → Says f (read_of f)
  answer_data t u =
      by_order (5 + fhdr_length_of f) (length f)
      (λ h.
      let g : IsData f = record { least = l; most = m; version = v; from = t; below = u; fits = h } in
      given f (Ok (Data (data_of f))) (reads_data f g) (g, refl))
      (λ h. faulty f header (record { not_12 = m; not_1 = l; not_2 = v; not_3 = u; data_frame = t; short = h }))

  answer_type : Says f (read_of f)
  answer_type =
      by_order 6 (mtype f) (λ h. faulty f type (record { not_12 = m; not_1 = l; not_2 = v; other = h }))
      (λ u.
      by_equal (mtype f) 0 answer_request
      (λ z. by_equal (mtype f) 1 answer_accept (λ o. answer_data (omega arith) u)))

pub answers : (f : List ℕ) → Says f (read_of f)
answers f =
    by_order (length f) 255
    (λ m.
    by_order 12 (length f)
    (λ l.
    by_equal (major f) 0 (answer_type f l m) (λ n. faulty f version (record { not_12 = m; not_1 = l; other = n })))
    (λ s. faulty f too_short (record { not_12 = m; short = s })))
    (λ h. faulty f too_long (record { long = h }))

pub said : (f : List ℕ) {r : Reading} → read_of f ≡ r → Says f r
said f e = subst (λ (x : Reading). Says f x) e (answers f)

pub request_read : (f : List ℕ) → read_of f ≡ (Ok JoinRequest) → IsJoinRequest f
request_read f e = said f e

pub accept_read : (f : List ℕ) {n : ℕ} → read_of f ≡ Ok (JoinAccept n) → IsJoinAccept f n
accept_read f e = said f e

pub data_read : (f : List ℕ) {d : DataFrame} → read_of f ≡ Ok (Data d) → IsData f
data_read f e = (said f e).0

pub data_fields : (f : List ℕ) {d : DataFrame} → read_of f ≡ Ok (Data d) → d ≡ data_of f
data_fields f e = (said f e).1

pub refusal_read : (f : List ℕ) {r : Refusal} → read_of f ≡ Err r → Gives f r
refusal_read f e = said f e

-- ---- the numbers of reading's refusals

-- each is of a fault, and so between 1 and 255
pub fault_number : (x : Fault) → (0 < number_of_fault x) × (number_of_fault x < 256)
fault_number too_long = (omega arith, omega arith)
fault_number too_short = (omega arith, omega arith)
fault_number version = (omega arith, omega arith)
fault_number type = (omega arith, omega arith)
fault_number join_length = (omega arith, omega arith)
fault_number header = (omega arith, omega arith)

pub given-number : (f : List ℕ) (r : Refusal) → Gives f r → (0 < r.number) × (r.number < 256)
given-number f r g = rw g.is (fault_number g.fault)
