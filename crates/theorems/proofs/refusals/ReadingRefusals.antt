-- Each refusal of reading, number and place, is given exactly where its fault is found, and accepted frames are exactly the rest. The
-- way there is `answers`; the way back `reads_fault`.
-- Assumes nothing.
use Rattle.std.specs.Prelude.{Err, Ok}
use mathlib.Core.Path.{◌≡◌, refl, sym, ◌∙◌, subst}
use mathlib.Core.Bool.{false}
use mathlib.Core.List.{List}
use mathlib.Core.Logic.{⊎_elim}
use Prim.Native.Nat.{ℕ, ◌≤◌}
use native.Mathlib.Omega.{arith}
use lib.Dec.{eqb}
use lib.ListN.{length}
use borrow.Author.Tests.{eqb-true, ne_eqb}
use Rattle.base.proofs.Cases.{by_bool}
use Rattle.frame.specs.Faults.{Fault, too_long, too_short, version, type, join_length, header, fault_refusal}
use Rattle.frame.specs.Reading.{refuse, read_of}
use Rattle.frame.specs.ReadingNumbers.{number_of}
use Rattle.frame.specs.Refusals.{refusal}
use Rattle.frame.specs.Conditions.{IsJoinRequest, IsJoinAccept, IsData, WrongJoinLength, request, accept, Gives12, Gives1, Gives2, Gives3, Gives4Join, Gives4Header, Found, Passes, Gives}
use Rattle.frame.specs.declared.refusals.Refusal.{Refusal}
use Rattle.frame.specs.Reading.{Reading}
use Rattle.frame.specs.declared.parser.Frame.TheVariants.{JoinRequest, JoinAccept, Data}
use Rattle.theorems.specs.Exactly.{Exactly, choice}
use Rattle.frame.proofs.ReadingLaws.{Says, answers, refusal_read, reads_fault, given-number}

module _ (f : List ℕ) where
  -- ---- from a refusal to its condition

  -- what number n at place p says of the frame; 4 is at place 5 where a header does not fit
  abbrev Said : ℕ → ℕ → Type 0
  Said n p =
      choice (eqb n 12) (Gives12 f)
      (choice (eqb n 1) (Gives1 f)
      (choice (eqb n 2) (Gives2 f) (choice (eqb n 3) (Gives3 f) (choice (eqb p 5) (Gives4Header f) (Gives4Join f)))))

  abbrev SaidBy : Refusal → Type 0
  SaidBy r = Said r.number r.place

  -- a join message of five bytes is refused before its length is looked at
  not_five : 12 ≤ length f → eqb (length f) 5 ≡ false
  not_five h = ne_eqb (length f) 5 (λ e. omega arith)

  found_said : (x : Fault) → Found x f → SaidBy (fault_refusal x f)
  found_said too_long h = h
  found_said too_short h = h
  found_said version h = h
  found_said type h = h
  found_said join_length h = rw (not_five h.not_1) h
  found_said header h = h

  said_found : (x : Fault) → SaidBy (fault_refusal x f) → Found x f
  said_found too_long h = h
  said_found too_short h = h
  said_found version h = h
  said_found type h = h
  said_found join_length h = by_bool (eqb (length f) 5)
      (λ e.
      let g : Gives4Header f = rw e at h in
      absurd (omega (arith, eqb-true (length f) 5 e, g.not_1)))
      (λ e. rw e at h)
  said_found header h = h

  only : (x : Fault) → Gives f (fault_refusal x f) → Found x f
  only x g = said_found x (subst (λ (r : Refusal). SaidBy r) (sym g.is) (found_said g.fault g.found))

  -- ---- accepted frames

  request_right : IsJoinRequest f → WrongJoinLength f → ⊥
  request_right h (request t n) = n h.long
  request_right h (accept t n m) = omega arith

  accept_right : (n : ℕ) → IsJoinAccept f n → WrongJoinLength f → ⊥
  accept_right n h (request t m) = omega arith
  accept_right n h (accept t m k) = ⊎_elim (λ e. m (h.long ∙ e)) (λ e. k (h.long ∙ e)) h.either

  data_right : IsData f → WrongJoinLength f → ⊥
  data_right h (request t n) = omega arith
  data_right h (accept t n m) = omega arith

  -- a fault that is found and what an accepted frame says do not go together
  not_found : (x : Fault) → Found x f → Passes f → ⊥
  not_found too_long h p = omega arith
  not_found too_short h p = omega arith
  not_found version h p = h.other p.not_2
  not_found type h p = omega arith
  not_found join_length h p = p.not_join h.wrong
  not_found header h p = omega (arith, h.short, p.not_header h.data_frame)

  pub not_both : (r : Refusal) → Gives f r → Passes f → ⊥
  not_both r g p = not_found g.fault g.found p

  pub passes : (r : Reading) → Says f r → number_of r ≡ 0 → Passes f
  passes (Ok JoinRequest) s e =
      record { not_12 = omega arith; not_1 = omega arith; not_2 = s.version; not_3 = omega arith; not_join = request_right s; not_header = λ h. omega arith }
  passes (Ok (JoinAccept n)) s e =
      let long : (12 ≤ n) × (n ≤ 255) = ⊎_elim (λ q. (omega arith, omega arith)) (λ q. (omega arith, omega arith)) s.either in
      record { not_12 = omega arith; not_1 = omega arith; not_2 = s.version; not_3 = omega arith; not_join = accept_right n s; not_header = λ h. omega arith }
  passes (Ok (Data d)) s e =
      record { not_12 = s.0.most; not_1 = s.0.least; not_2 = s.0.version; not_3 = s.0.below; not_join = data_right s.0; not_header = λ h. s.0.fits }
  passes (Err r) s e = absurd (omega (arith, given-number f r s, e))

  accepts : (r : Reading) → Says f r → Passes f → number_of r ≡ 0
  accepts (Ok JoinRequest) s h = refl
  accepts (Ok (JoinAccept n)) s h = refl
  accepts (Ok (Data d)) s h = refl
  accepts (Err r) s h = absurd (not_both r s h)

  -- ---- the theorem: each fault is answered, by its number and at its place, exactly where it is found

  pub refuses : (x : Fault) → Exactly (read_of f ≡ refuse x f) (Found x f)
  refuses x = record { there = λ e. only x (refusal_read f e); back = reads_fault f x }

  -- accepted: number 0
  pub number_0 : Exactly (number_of (read_of f) ≡ 0) (Passes f)
  number_0 = record { there = passes (read_of f) (answers f); back = accepts (read_of f) (answers f) }

  -- and no other refusal is given
  pub no_other : (r : Refusal) → read_of f ≡ Err r → Gives f r
  no_other r e = refusal_read f e

  -- ---- number by number, written out

  pub number_12 : Exactly (read_of f ≡ Err (refusal 12 (length f))) (Gives12 f)
  number_12 = refuses too_long

  pub number_1 : Exactly (read_of f ≡ Err (refusal 1 (length f))) (Gives1 f)
  number_1 = refuses too_short

  pub number_2 : Exactly (read_of f ≡ Err (refusal 2 0)) (Gives2 f)
  number_2 = refuses version

  pub number_3 : Exactly (read_of f ≡ Err (refusal 3 0)) (Gives3 f)
  number_3 = refuses type

  pub number_4_join : Exactly (read_of f ≡ Err (refusal 4 (length f))) (Gives4Join f)
  number_4_join = refuses join_length

  pub number_4_header : Exactly (read_of f ≡ Err (refusal 4 5)) (Gives4Header f)
  number_4_header = refuses header
