-- What an accepted opening says of the frame, and which frames opening accepts.
-- Assumes nothing.
use Rattle.std.specs.Prelude.{Err, Ok, Result}
use mathlib.Core.Path.{◌≡◌, refl, ap, ◌∙◌}
use mathlib.Core.Bool.{Bool, true, false}
use mathlib.Core.List.{List}
use Prim.Native.Nat.{ℕ, ◌%◌}
use native.Mathlib.Omega.{arith}
use lib.Dec.{eqb}
use borrow.Author.Tests.{eqb-true}
use Rattle.base.specs.Bytes.{pick}
use Rattle.frame_security.specs.Mic.{same_bytes}
use Rattle.frame_security.proofs.MicCompared.{same_of_test, test_of_same}
use Rattle.frame.specs.Conditions.{IsData}
use Rattle.frame.specs.Layout.{fcnt, mic_of}
use Rattle.frame.specs.ReadingNumbers.{on_data}
use Rattle.frame.specs.Reading.{read_of}
use Rattle.frame_security.specs.Security.{covered, data_mic_of}
use Rattle.frame.specs.Reading.{Reading}
use Rattle.frame.specs.declared.parser.Frame.TheVariants.{JoinRequest, JoinAccept, Data}
use Rattle.frame.proofs.ReadingLaws.{Says, answers, given-number}
use Rattle.frame.specs.Refusals.{refused, refusal_in}
use Rattle.frame.specs.declared.refusals.Refusal.{Refusal}
use Rattle.amend.specs.declared.amending.Open.{Open}
use Rattle.amend.specs.OpenFrame.{opened_of, open_checked_of, open_data, open_of}
use Rattle.amend.proofs.OpeningLaws.{open_data_lem, counter_right}

-- a data frame whose counter and MIC are right
pub record Accepted (f nwk : List ℕ) (counter : ℕ) : Type 0 where
  pub data_frame : IsData f
  pub low_half : counter % 65536 ≡ fcnt f
  pub signed : data_mic_of nwk (covered f) counter ≡ mic_of f

-- two tests that were both passed
both_passed : (a b : Bool) (x y z : Result Open Refusal) → (refusal_in (pick a (pick b x y) z)).number ≡ 0
    → ((refusal_in y).number ≡ 0 → ⊥) → ((refusal_in z).number ≡ 0 → ⊥) → (a ≡ true) × (b ≡ true)
both_passed true true x y z e hy hz = (refl, refl)
both_passed true false x y z e hy hz = absurd (hy e)
both_passed false b x y z e hy hz = absurd (hz e)

module _ (f nwk app : List ℕ) (counter : ℕ) where
  pub accepted_opens : Accepted f nwk counter → open_of f nwk app counter ≡ Ok (opened_of f nwk app counter)
  unfolding open_checked_of
  accepted_opens a =
      open_data_lem f nwk app counter a.data_frame
      ∙ counter_right f nwk app counter a.low_half
      ∙ ap (λ (t : Bool). pick t (Ok (opened_of f nwk app counter)) (Err (refused 5)))
      (test_of_same (data_mic_of nwk (covered f) counter) (mic_of f) a.signed)

  data_passed : IsData f → (refusal_in (open_data f nwk app counter)).number ≡ 0 → Accepted f nwk counter
  unfolding open_data open_checked_of
  data_passed h e =
      let passed = both_passed (eqb (counter % 65536) (fcnt f)) (same_bytes (data_mic_of nwk (covered f) counter) (mic_of f))
      (Ok (opened_of f nwk app counter)) (Err (refused 5)) (Err (refused 14)) e
      (λ q. omega arith) (λ q. omega arith) in
      record {
        data_frame = h;
        low_half = eqb-true (counter % 65536) (fcnt f) passed.0;
        signed = same_of_test (data_mic_of nwk (covered f) counter) (mic_of f) passed.1;
      }

  by_reading : (r : Reading) → Says f r → (refusal_in (on_data (λ d. open_data f nwk app counter) Err r)).number ≡ 0
      → Accepted f nwk counter
  by_reading (Ok JoinRequest) s e = let none : ⊥ = omega arith in absurd none
  by_reading (Ok (JoinAccept n)) s e = let none : ⊥ = omega arith in absurd none
  by_reading (Ok (Data d)) s e = data_passed s.0 e
  by_reading (Err r) s e = absurd (omega (arith, given-number f r s, e))

  pub opens_accepted : (refusal_in (open_of f nwk app counter)).number ≡ 0 → Accepted f nwk counter
  unfolding open_of
  opens_accepted e = by_reading (read_of f) (answers f) e
