-- "Reading" in the order of a call's tests (docs/RULES.md, Refusals): a frame that the reader refuses keeps the reader's refusal,
-- number and place, and a frame that it accepts but that is of another type than the call needs gives 4 at place 0.
-- Assumes nothing.
use Rattle.std.specs.Prelude.{◌≡◌, Bool, true, not, List, ℕ, T, eqb, length, Err}
use Rattle.base.specs.Bytes.{pick}
use Rattle.frame.specs.Conditions.{IsJoinRequest, IsJoinAccept, IsData, Passes}
use Rattle.frame.specs.Reading.{read_of}
use Rattle.frame.specs.Refusals.{refused}
use Rattle.frame.specs.declared.refusals.Refusal.{Refusal}
use Rattle.theorems.specs.Exactly.{Exactly, Condition, Due, NotOwn}

-- the frame that a call needs
pub data Needs : Type 0 where
  join_request : Needs
  join_accept : Needs
  data_frame : Needs

-- f is one
abbrev pub Is : Needs → List ℕ → Type 0
Is join_request f = IsJoinRequest f
Is join_accept f = IsJoinAccept f (length f)
Is data_frame f = IsData f

-- reading gives the refusal r
pub data ByReading (k : Needs) (f : List ℕ) (r : Refusal) : Type 0 where
  keeps : read_of f ≡ Err r → ByReading k f r
  other : Passes f → (Is k f → ⊥) → r ≡ refused 4 → ByReading k f r

-- the numbers that reading may give
abbrev pub of_reading : ℕ → Bool
of_reading n =
    pick (eqb n 12) true (pick (eqb n 1) true (pick (eqb n 2) true (pick (eqb n 3) true (eqb n 4))))

-- What a call answers that reads a frame first and then goes by conditions of its own: `refuses r` where it refuses by r, and
-- `says n` for its own number n, 0 where it accepts.
pub record AfterReading {A : Type 0} (refuses : Refusal → A) (says : ℕ → A) (k : Needs) (f : List ℕ) (cs : List Condition) (x : A) : Type 0 where
  -- a refusal that is none of its own: exactly where reading gives it, and so no other
  pub reading : (r : Refusal) → NotOwn cs r → Exactly (x ≡ refuses r) (ByReading k f r)
  -- a number of its own: exactly where the frame is what it needs and the number is due
  pub own : (n : ℕ) → T (not (of_reading n)) → Exactly (x ≡ says n) (Is k f × Due cs n)
