-- The data frames that are built, whole, from LoRaWAN 1.0 section 4.3 (docs/RULES.md, Building), and what any building
-- promises of its frame.
-- Assumes nothing.
use Rattle.std.specs.Prelude.{◌≡◌, List, ◌++◌, ℕ, eqb, length, drop, Err, Ok, Result}
use Rattle.base.specs.Bytes.{pick}
use Rattle.frame_build.specs.DataBuilding.{body_of, data_header}
use Rattle.frame.specs.Refusals.{unless_refused}
use Rattle.frame.specs.declared.refusals.Refusal.{Refusal}
use Rattle.frame_security.specs.Sealing.{sealed}
use Rattle.frame_build.specs.declared.creator.data_frame.DataParts.{DataParts}

-- a data frame, of the network key and the application key
abbrev pub data_frame_of : List ℕ → List ℕ → DataParts → List ℕ → List ℕ → List ℕ
data_frame_of nwk app d commands body = sealed nwk app d.fcnt (data_header d commands) (body_of d.port commands body)

-- what a building answers: the refusal where there is one (0 says none), else the frame's length
abbrev pub built_of : ℕ → ℕ → Result ℕ Refusal
built_of refusal n = unless_refused refusal n

-- its value: the frame's length, or the refusal's place
abbrev pub built_value : Result ℕ Refusal → ℕ
built_value (Ok n) = n
built_value (Err r) = r.place

-- what the output holds afterwards: nothing changed by a refusal; else the frame, then the bytes that were there
abbrev pub out_of : ℕ → List ℕ → List ℕ → List ℕ
out_of refusal frame out = pick (eqb refusal 0) (frame ++ drop (length frame) out) out

-- what a building promises: its answer r, and the output e, of the output l as it was
pub record Builds (refusal : ℕ) (frame l : List ℕ) (r : Result ℕ Refusal) (e : List ℕ) : Type 0 where
  pub answer : r ≡ built_of refusal (length frame)
  pub output : e ≡ out_of refusal frame l
