-- When opening refuses past reading, in the words of docs/RULES.md, Refusals: a proposition for each condition, and the order in
-- which each call tests them.
-- Assumes nothing.
use Rattle.std.specs.Prelude.{is_some}
use Rattle.std.specs.Prelude.{◌≡◌, false, List, [], ◌∷◌, ℕ, ◌<◌, eqb, length, Bool, Err, Ok, Option, Result, Some, true}
use Rattle.base.specs.Bytes.{pick}
use Rattle.frame.specs.Layout.{payload, mic_of}
use Rattle.frame.specs.Reading.{port_of}
use Rattle.frame.specs.Refusals.{refused}
use Rattle.frame.specs.declared.refusals.Refusal.{Refusal}
use Rattle.frame_security.specs.JoinAcceptCipher.{accept_decrypted}
use Rattle.frame_security.specs.Security.{covered, data_mic_of, join_mic}
use Rattle.theorems.specs.Exactly.{Exactly, Condition, ◌when◌, ◌unless◌}
use Rattle.theorems.specs.ByReading.{Needs, Is, ByReading}

-- the last four bytes are the MIC of those ahead of them: of a data frame, and of a join message, a join-accept clear
abbrev pub RightDataMic : List ℕ → ℕ → List ℕ → Type 0
RightDataMic nwk counter f = mic_of f ≡ data_mic_of nwk (covered f) counter

abbrev pub RightJoinMic : List ℕ → List ℕ → Type 0
RightJoinMic key f = mic_of f ≡ join_mic key (covered f)

-- t is what a MIC test answers of a frame that may have a right MIC
pub record Tests (k : Needs) (f : List ℕ) (Right : Type 0) (t : Result Bool Refusal) : Type 0 where
  pub passes : Exactly (t ≡ (Ok true)) (Is k f × Right)
  pub fails : Exactly (t ≡ (Ok false)) (Is k f × (Right → ⊥))
  pub reading : (r : Refusal) → Exactly (t ≡ Err r) (ByReading k f r)

-- 6: the key of the payload was not given: the network key where the payload is empty or its port is 0, the application key of
-- a payload on every other port
pub data KeyMissing (f : List ℕ) (nwk app : Option (List ℕ)) : Type 0 where
  empty : length (payload f) ≡ 0 → is_some nwk ≡ false → KeyMissing f nwk app
  zero : port_of f ≡ Some 0 → is_some nwk ≡ false → KeyMissing f nwk app
  other : (p : ℕ) → port_of f ≡ Some p → (p ≡ 0 → ⊥) → 0 < length (payload f) → is_some app ≡ false → KeyMissing f nwk app

-- plain decryption of a data frame
abbrev pub plain_conditions : Option (List ℕ) → Option (List ℕ) → List ℕ → List Condition
plain_conditions nwk app f = 6 when KeyMissing f nwk app ∷ []

-- checked decryption of a data frame, for which the network key is always given
abbrev pub checked_conditions : List ℕ → Option (List ℕ) → ℕ → List ℕ → List Condition
checked_conditions nwk app counter f =
    5 unless RightDataMic nwk counter f
    ∷ 6 when KeyMissing f (Some nwk) app
    ∷ []

-- checked opening of a join-accept
abbrev pub checked_accept_conditions : List ℕ → List ℕ → List Condition
checked_accept_conditions key f = 5 unless RightJoinMic key (accept_decrypted key f) ∷ []

-- what an opening answers by its own number, 0 where it opens
abbrev pub opening_of : ℕ → Result (Unit {0}) Refusal
opening_of n = pick (eqb n 0) (Ok tt) (Err (refused n))
