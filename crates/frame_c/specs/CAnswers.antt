-- What the functions for C answer: one number for each case of each answer, the refusal's number (docs/RULES.md, Refusals; 0 where
-- there is none) in its low byte, and above it the place of the refusal or the value that the call gives: the length of a frame that
-- was built or taken out of a buffer, the place past a command that was written. `numbered` puts them so; it takes the value
-- modulo 2 ^ 56.
-- Assumes nothing.
use Rattle.std.specs.Prelude.{◌≡◌, List, ℕ, length, Bool, Err, Ok, Result, false, true}
use Rattle.frame_build.specs.DataFrames.{out_of, built_of}
use Rattle.frame.specs.PackedReading.{numbered}
use Rattle.frame.specs.Refusals.{refusal_in}
use Rattle.frame.specs.declared.refusals.Refusal.{Refusal}

-- a refusal, or none
abbrev pub refusal_answer_of : Refusal → ℕ
refusal_answer_of r = numbered r.number r.place

-- a call that gives nothing else: an opening, amendments
abbrev pub done_answer_of : Result (Unit {0}) Refusal → ℕ
done_answer_of done = refusal_answer_of (refusal_in done)

-- a call that gives a value
abbrev pub value_answer_of : Result ℕ Refusal → ℕ
value_answer_of (Ok n) = numbered 0 n
value_answer_of (Err r) = refusal_answer_of r

-- a MIC test
abbrev pub test_answer_of : Result Bool Refusal → ℕ
test_answer_of t = refusal_answer_of (refusal_in t)

-- 1 where it passes, 0 where it fails; what was there where it is refused
abbrev pub passes_of : Result Bool Refusal → ℕ → ℕ
passes_of (Ok true) was = 1
passes_of (Ok false) was = 0
passes_of (Err r) was = was

-- what a call promises that builds a frame, or is refused by a number that is not 0: its answer r, and the output e, of
-- the output l as it was
pub record BuildsInC (refusal : ℕ) (frame l : List ℕ) (r : ℕ) (e : List ℕ) : Type 0 where
  pub answer : r ≡ value_answer_of (built_of refusal (length frame))
  pub output : e ≡ out_of refusal frame l
