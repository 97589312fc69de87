-- A call that reads a frame first hands on what reading gives, and goes by its own conditions exactly where the frame is what it
-- needs. By cases on what the reader answers, once for all calls.
-- Assumes nothing.
use Rattle.std.specs.Prelude.{Err, Ok}
use mathlib.Core.Path.{◌≡◌, refl, sym, ap, ◌∙◌, subst}
use mathlib.Core.List.{List}
use mathlib.Core.Logic.{◌⊎◌, inl, inr, ⊎_elim}
use Prim.Native.Nat.{ℕ}
use native.Mathlib.Omega.{arith}
use lib.Dec.{T}
use lib.ListN.{length}
use Rattle.frame.specs.Conditions.{IsJoinAccept, Passes}
use Rattle.frame.specs.Faults.{Fault, too_long, too_short, version, type, join_length, header, number_of_fault}
use Rattle.frame.specs.Reading.{read_of, data_of}
use Rattle.frame.specs.ReadingNumbers.{number_of, other_refusal_of, on_request, on_accept, on_data}
use Rattle.frame.specs.Refusals.{refused, not_refused, refusal_in}
use Rattle.frame.specs.declared.refusals.Refusal.{Refusal}
use Rattle.frame.specs.Reading.{Reading}
use Rattle.frame.specs.declared.parser.Frame.TheVariants.{JoinRequest, JoinAccept, Data}
use Rattle.frame.proofs.Others.{not_request, not_accept, not_data}
use Rattle.frame.proofs.ReadingLaws.{Says, answers, refusal_read, reads_request, reads_accept, reads_data}
use Rattle.theorems.specs.Exactly.{Condition, Clear}
use Rattle.theorems.specs.ByReading.{Needs, join_request, join_accept, data_frame, Is, ByReading, keeps, other, of_reading, AfterReading}
use Rattle.theorems.proofs.refusals.FirstDue as due
use Rattle.theorems.proofs.refusals.ReadingRefusals.{passes, not_both}

-- what a call gives that needs a frame of one type: x there, e at the refusal of any other
abbrev pub on : {A : Type 0} → Needs → A → (Refusal → A) → Reading → A
on join_request x e r = on_request x e r
on join_accept x e r = on_accept (λ n. x) e r
on data_frame x e r = on_data (λ d. x) e r

-- ---- which frames are needed, and what reading gives of the others

module _ (f : List ℕ) where
  -- the reading of a frame that is needed
  read_as : Needs → Reading
  read_as join_request = (Ok JoinRequest)
  read_as join_accept = Ok (JoinAccept (length f))
  read_as data_frame = Ok (Data (data_of f))

  reads_as : (k : Needs) → Is k f → read_of f ≡ read_as k
  unfolding read_as
  reads_as join_request h = reads_request f h
  reads_as join_accept h = reads_accept f (length f) h
  reads_as data_frame h = reads_data f h

  -- a join-accept has the length that it has
  own_length : (n : ℕ) → IsJoinAccept f n → IsJoinAccept f (length f)
  own_length n h = record { version = h.version; type = h.type; long = refl; either = rw h.long h.either }

  -- an accepted frame of another type gives 4
  another : (k : Needs) (r : Reading) → Says f r → number_of r ≡ 0 → (Is k f → ⊥) → (s : Refusal) × ByReading k f s
  another k r s z n = (refused 4, other (passes f r s z) n refl)

  -- to a call that needs yet another
  gives_4 : (r : Reading) → Says f r → Passes f → other_refusal_of r ≡ refused 4
  gives_4 (Ok JoinRequest) s p = refl
  gives_4 (Ok (JoinAccept n)) s p = refl
  gives_4 (Ok (Data d)) s p = refl
  gives_4 (Err r) s p = absurd (not_both f r s p)

  -- the frame is what is needed, or reading gives a refusal
  sorted : (k : Needs) (r : Reading) → read_of f ≡ r → Says f r → Is k f ⊎ ((s : Refusal) × ByReading k f s)
  sorted join_request (Ok JoinRequest) q s = inl s
  sorted join_request (Ok (JoinAccept n)) q s = inr (another join_request (Ok (JoinAccept n)) s refl (λ h. omega arith))
  sorted join_request (Ok (Data d)) q s = inr (another join_request (Ok (Data d)) s refl (λ h. omega arith))
  sorted join_request (Err r) q s = inr (r, keeps q)
  sorted join_accept (Ok JoinRequest) q s = inr (another join_accept (Ok JoinRequest) s refl (λ h. omega arith))
  sorted join_accept (Ok (JoinAccept n)) q s = inl (own_length n s)
  sorted join_accept (Ok (Data d)) q s = inr (another join_accept (Ok (Data d)) s refl (λ h. omega arith))
  sorted join_accept (Err r) q s = inr (r, keeps q)
  sorted data_frame (Ok JoinRequest) q s = inr (another data_frame (Ok JoinRequest) s refl (λ h. omega arith))
  sorted data_frame (Ok (JoinAccept n)) q s = inr (another data_frame (Ok (JoinAccept n)) s refl (λ h. omega arith))
  sorted data_frame (Ok (Data d)) q s = inl s.0
  sorted data_frame (Err r) q s = inr (r, keeps q)

  pub either_way : (k : Needs) → Is k f ⊎ ((s : Refusal) × ByReading k f s)
  either_way k = sorted k (read_of f) refl (answers f)

  -- the number that reading gives is one of its own
  of_fault : (x : Fault) → T (of_reading (number_of_fault x))
  of_fault too_long = tt
  of_fault too_short = tt
  of_fault version = tt
  of_fault type = tt
  of_fault join_length = tt
  of_fault header = tt

  pub reading_number : (k : Needs) (r : Refusal) → ByReading k f r → T (of_reading r.number)
  reading_number k r (keeps q) = let g = refusal_read f q in rw g.is (of_fault g.fault)
  reading_number k r (other p n e) = rw e tt

-- ---- what the call gives

module _ {A : Type 0} (x : A) (e : Refusal → A) (f : List ℕ) where
  -- of a frame that is needed, x
  pub needed : (k : Needs) → Is k f → on k x e (read_of f) ≡ x
  unfolding read_as
  needed join_request h = ap (on join_request x e) (reads_as f join_request h)
  needed join_accept h = ap (on join_accept x e) (reads_as f join_accept h)
  needed data_frame h = ap (on data_frame x e) (reads_as f data_frame h)

  -- of a refused reading, its own refusal
  keeps_refusal : (k : Needs) (r : Refusal) → on k x e (Err r) ≡ e r
  keeps_refusal join_request r = refl
  keeps_refusal join_accept r = refl
  keeps_refusal data_frame r = refl

  -- of a frame of another type, 4
  other_reading : (k : Needs) (r : Reading) → Says f r → (Is k f → ⊥) → on k x e r ≡ e (other_refusal_of r)
  other_reading join_request r s n = not_request e x r (λ q. n (subst (λ (t : Reading). Says f t) q s))
  other_reading join_accept r s n = not_accept e (λ m. x) r (λ m q. n (own_length f m (subst (λ (t : Reading). Says f t) q s)))
  other_reading data_frame r s n = not_data e (λ d. x) r (λ d q. n (subst (λ (t : Reading). Says f t) q s).0)

  other_gives : (k : Needs) (r : Reading) → Says f r → Passes f → (Is k f → ⊥) → on k x e r ≡ e (refused 4)
  other_gives k r s p n = other_reading k r s n ∙ ap e (gives_4 f r s p)

  -- so what reading gives is handed on
  pub handed_on : (k : Needs) (r : Refusal) → ByReading k f r → on k x e (read_of f) ≡ e r
  handed_on k r (keeps q) = ap (on k x e) q ∙ keeps_refusal k r
  handed_on k r (other p n q) = other_gives k (read_of f) (answers f) p n ∙ ap e (sym q)

-- a part h of what the call gives, where h finds the refusal
pub on_through : {A B : Type 0} (h : A → B) (k : Needs) (f : List ℕ) (x : A) (e : Refusal → A) (e' : Refusal → B)
    → ((r : Refusal) → (r.number ≡ 0 → ⊥) → h (e r) ≡ e' r) → h (on k x e (read_of f)) ≡ on k (h x) e' (read_of f)
on_through h k f x e e' found =
    ⊎_elim (λ i. ap h (needed x e f k i) ∙ sym (needed (h x) e' f k i))
    (λ s.
    ap h (handed_on x e f k s.0 s.1)
    ∙ found s.0 (λ z. rw z at (reading_number f k s.0 s.1))
    ∙ sym (handed_on (h x) e' f k s.0 s.1))
    (either_way f k)

-- a call that does no more gives x where it says no refusal
pub clear_on : {A : Type 0} (k : Needs) (f : List ℕ) (x : A) → Clear (on k (Ok x) Err (read_of f)) x
clear_on k f x e =
    ⊎_elim (λ i. needed (Ok x) Err f k i)
    (λ s.
    let is : s.0 ≡ not_refused = sym (ap refusal_in (handed_on (Ok x) Err f k s.0 s.1)) ∙ e in
    absurd (subst (λ (r : Refusal). T (of_reading r.number)) is (reading_number f k s.0 s.1)))
    (either_way f k)

-- ---- the law

-- an answer tells the refusal that it says
module _ {A : Type 0} (e : Refusal → A) (says : ℕ → A) (told : A → Refusal) (told-e : (r : Refusal) → told (e r) ≡ r)
    (told-says : (n : ℕ) → told (says n) ≡ refused n) where
  pub after_reading : (k : Needs) (f : List ℕ) {cs : List Condition} {x : A} → (Is k f → due.Gives says cs x)
      → AfterReading e says k f cs (on k x e (read_of f))
  after_reading k f {cs} {x} g =
      record {
        reading =
            λ r o.
            record {
              there =
                  λ q.
                  ⊎_elim
                  (λ i. absurd (due.no_other says told told-says (g i) r o (ap told (sym (needed x e f k i) ∙ q) ∙ told-e r)))
                  (λ s.
                  subst (λ (t : Refusal). ByReading k f t)
                  (sym (told-e s.0) ∙ ap told (sym (handed_on x e f k s.0 s.1) ∙ q) ∙ told-e r) s.1)
                  (either_way f k);
              back = handed_on x e f k r;
            };
        own =
            λ n p.
            record {
              there =
                  λ q.
                  ⊎_elim (λ i. (i, ((g i).exactly n).there (sym (needed x e f k i) ∙ q)))
                  (λ s.
                  let is : s.0 ≡ refused n =
                  sym (told-e s.0) ∙ ap told (sym (handed_on x e f k s.0 s.1) ∙ q) ∙ told-says n in
                  absurd
                  (due.refuted (of_reading n) (subst (λ (t : Refusal). T (of_reading t.number)) is (reading_number f k s.0 s.1)) p))
                  (either_way f k);
              back = λ h. needed x e f k h.0 ∙ ((g h.0).exactly n).back h.1;
            };
      }

-- of a refusal that stands beside other values
pub refusal_after : (k : Needs) (f : List ℕ) {cs : List Condition} {x : Refusal} → (Is k f → due.Gives refused cs x)
    → AfterReading (λ r. r) refused k f cs (on k x (λ r. r) (read_of f))
refusal_after = after_reading (λ r. r) refused (λ r. r) (λ r. refl) (λ n. refl)
