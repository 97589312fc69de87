-- What the calls on a buffer leave in it and give, by the calls on the state that it holds (docs/RULES.md, Amendments), and
-- a history of such calls. They model the code; `held_state` in proofs/Demand3Held.antt ties them to demand 3.
-- Assumes nothing.
use Rattle.std.specs.Prelude.{List, [], ◌∷◌, ◌++◌, ℕ, leb, length, take, Result, Ok, Err}
use Rattle.std.proofs.lemmas.List.Edits.{sets}
use Rattle.base.specs.Bytes.{pick}
use Rattle.frame.specs.Refusals.{refused, by_result}
use Rattle.frame.specs.declared.refusals.Refusal.{Refusal}
use Rattle.amend.specs.declared.amending.Open.{Open}
use Rattle.amend.specs.Amending.{Amended, amend_of}
use Rattle.amend.specs.AmendmentLists.{Amendment, decoded_all}
use Rattle.amend.specs.SignedOnce.{amend_list_of}
use Rattle.amend_held.specs.HeldBuffer.{stored_open, loaded_open}

-- what a call answers that keeps the state: a refusal, or nothing
abbrev pub answer_in : Result Open Refusal → Result (Unit {0}) Refusal
answer_in o = by_result (λ s. Ok tt) Err o

-- the buffer b after a call that gave a state: as it was where that is refused
abbrev pub opened_into : Result Open Refusal → List ℕ → List ℕ
opened_into o b = by_result stored_open (λ r. b) o

abbrev pub amended_into : Amended → List ℕ → List ℕ
amended_into a b = by_result (λ u. stored_open a.state) (λ r. b) a.answer

-- the frame of a state taken out into a string of so many bytes: how many it has, or 7 where it does not fit
unfoldable pub taken_of : Open → ℕ → Result ℕ Refusal
taken_of s room = pick (leb s.length room) (Ok s.length) (Err (refused 7))

unfoldable pub taken_into : Open → List ℕ → List ℕ
taken_into s l = pick (leb s.length (length l)) (sets l 0 (take s.length s.frame)) l

-- ---- a history of calls

-- a call on a buffer: one amendment, or a list of them
pub data Call : Type 0 where
  one : ℕ → ℕ → Call
  many : List ℕ → Call

-- what the call gives on a state
abbrev pub given : Call → Open → Amended
given (one k v) s = amend_of s k v
given (many es) s = amend_list_of s es

-- the amendments in it
abbrev pub amendments : Call → List Amendment
amendments (one k v) = record { offset = k; value = v } ∷ []
amendments (many es) = decoded_all es

-- the buffer after it
abbrev pub held_after : List ℕ → Call → List ℕ
held_after b c = amended_into (given c (loaded_open b)) b

-- the buffer after a history of calls, refused ones among them
unfoldable pub held_by_of : List ℕ → List Call → List ℕ
held_by_of b [] = b
held_by_of b (c ∷ calls) = held_by_of (held_after b c) calls

-- the amendments of the calls that answer 0, in order
unfoldable pub made_by : List ℕ → List Call → List Amendment
made_by b [] = []
made_by b (c ∷ calls) =
    by_result (λ u. amendments c) (λ r. []) (given c (loaded_open b)).answer ++ made_by (held_after b c) calls
