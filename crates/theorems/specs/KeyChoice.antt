-- Which key a payload is under (docs/RULES.md, Cryptography), and what that means for a frame whose port has nothing behind it.
-- Assumes nothing.
use Rattle.std.specs.Prelude.{is_some}
use Rattle.std.specs.Prelude.{◌≡◌, true, false, List, ℕ, ◌+◌, ltb, eqb, length, None, Ok, Option, Some}
use Rattle.base.specs.Bytes.{pick}
use Rattle.frame.specs.Layout.{fhdr_length_of, fport}
use Rattle.frame.specs.Reading.{read_of}
use Rattle.frame.specs.ReadingNumbers.{on_data}
use Rattle.frame.specs.Refusals.{refused}
use Rattle.frame_opening.specs.FrameOpening.{Outcome, outcome, unopened, opened_under, data_opened}

-- 4.3.2 the port that the crate reports, and this codec did before: that of a frame with a byte of payload behind it
abbrev pub crate_reports : List ℕ → (Option ℕ)
crate_reports f = pick (ltb (fhdr_length_of f + 6) (length f)) (Some (fport f)) None

-- 4.3.3 the key that such a report selects: the network key for port 0 and for none, the application key for every other
abbrev pub selected_by : {A : Type 0} → Option ℕ → A → A → A
selected_by None nwk app = nwk
selected_by (Some n) nwk app = pick (eqb n 0) nwk app

-- what opening gives of any bytes where that key is taken
abbrev pub opened_as_before : Option (List ℕ) → Option (List ℕ) → ℕ → List ℕ → Outcome
opened_as_before nwk app counter f = on_data (λ d. opened_under (selected_by (crate_reports f) nwk app) counter f) (unopened f) (read_of f)

-- opening a data frame f that has no byte of payload: 6 without the network key, and with it alone it opens; every byte stays
pub record OpensEmpty (f : List ℕ) : Type 0 where
  pub without : (nwk app : Option (List ℕ)) (counter : ℕ) → is_some nwk ≡ false → data_opened nwk app counter f ≡ unopened f (refused 6)
  pub with_it : (nwk app : Option (List ℕ)) (counter : ℕ) → is_some nwk ≡ true → data_opened nwk app counter f ≡ outcome (Ok tt) f
