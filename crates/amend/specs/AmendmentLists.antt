-- Lists of amendments. `amended_by` goes on past a refused amendment, which changes nothing; the call that takes a
-- frame and a whole list stops at the first refusal, and then changes nothing at all (docs/RULES.md, Amendments).
-- Assumes nothing.
use Rattle.std.specs.Prelude.{◌≡◌, List, [], ◌∷◌, ℕ, ◌/◌, ◌%◌, ltb, length, take, set, Result, Ok, Err}
use Rattle.base.specs.Bytes.{pick}
use Rattle.frame.specs.Layout.{header, payload}
use Rattle.frame_security.specs.Security.{crypted, frame_key}
use Rattle.amend.specs.declared.amending.Open.{Open}
use Rattle.frame.specs.Refusals.{by_result}
use Rattle.frame.specs.declared.refusals.Refusal.{Refusal}
use Rattle.amend.specs.Amending.{Amended, amend_of}
use Rattle.frame_security.specs.Sealing.{sealed}
use Rattle.amend.specs.OpenFrame.{open_of, state_in}

-- an amendment: a payload offset and the clear value there
pub record Amendment : Type 0 where
  pub offset : ℕ
  pub value : ℕ

-- the state after a list of amendments, refused ones among them
unfoldable pub amended_by : Open → List Amendment → Open
amended_by s [] = s
amended_by s (a ∷ list) = amended_by (amend_of s a.offset a.value).state list

-- the clear payload of a frame
abbrev pub clear_of : List ℕ → List ℕ → List ℕ → ℕ → List ℕ
clear_of f nwk app counter = crypted (frame_key f nwk app) (header f) counter (payload f)

-- a clear payload after the amendments of a list that name a byte of it
unfoldable pub payload_by : List ℕ → List Amendment → List ℕ
payload_by p [] = p
payload_by p (a ∷ list) = payload_by (pick (ltb a.offset (length p)) (set p a.offset a.value) p) list

-- a number as an amendment: offset * 256 + value
abbrev pub decoded : ℕ → Amendment
decoded e = record { offset = e / 256; value = e % 256 }

unfoldable pub decoded_all : List ℕ → List Amendment
decoded_all [] = []
decoded_all (e ∷ es) = decoded e ∷ decoded_all es

-- the first refusal, or the state after the whole list
unfoldable pub amend_all_of : Open → List ℕ → Amended
amend_all_of s [] = record { answer = Ok tt; state = s }
amend_all_of s (e ∷ es) =
    let a = amend_of s (e / 256) (e % 256) in
    by_result (λ u. amend_all_of a.state es) (λ r. a) a.answer

-- the opening's refusal, or that of the first refused amendment, or none
unfoldable pub amend_frame_of : List ℕ → List ℕ → List ℕ → ℕ → List ℕ → Result (Unit {0}) Refusal
amend_frame_of f nwk app counter es = by_result (λ s. (amend_all_of s es).answer) Err (open_of f nwk app counter)

-- the frame as it then stands; where anything is refused, as it was
unfoldable pub amended_frame : List ℕ → List ℕ → List ℕ → ℕ → List ℕ → List ℕ
amended_frame f nwk app counter es =
    by_result (λ u. take (length f) (amend_all_of (state_in (open_of f nwk app counter)) es).state.frame) (λ r. f)
    (amend_frame_of f nwk app counter es)

-- ---- demand 3

-- what holds of the state after a list of amendments to an opened frame
pub record Stands (f nwk app : List ℕ) (counter : ℕ) (list : List Amendment) (s : Open) : Type 0 where
  -- the frame in it: the original header, the payload so amended and encrypted, and the MIC of that
  pub frame : take s.length s.frame ≡ sealed nwk app counter (header f) (payload_by (clear_of f nwk app counter) list)
  -- as long as the original
  pub long : s.length ≡ length f
  -- and opening that frame gives this state, chain values included
  pub opens : open_of (take s.length s.frame) nwk app counter ≡ Ok s
