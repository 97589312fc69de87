-- A list of amendments on an open frame as the code makes it: every offset tested, every byte stored, the frame signed once.
-- `stored_all` and `lowest` model the code; `signed_once` in proofs/SignedOnce.antt ties them to amending byte by byte, and
-- `list_alike` there ties `amend_list_of` to `amend_all_of`, which stops at the first refusal. An amendment is a number, offset * 256
-- + value. For every state, also one that no call made (docs/RULES.md, Amendments).
-- Assumes nothing.
use Rattle.std.specs.Prelude.{Bool, true, false, List, [], ◌∷◌, ℕ, ◌+◌, ◌/◌, ◌%◌, min, ltb, set, Ok, Err}
use Rattle.base.specs.Bytes.{pick, ◌⊕◌}
use Rattle.frame.specs.Refusals.{refused}
use Rattle.frame_security.specs.Security.{stream_at}
use Rattle.amend.specs.declared.amending.Open.{Open}
use Rattle.amend.specs.Amending.{Amended, payload_length_of}
use Rattle.amend.specs.AmendmentLists.{amended_by, decoded_all}

-- each offset of a list lies inside a payload of so many bytes
unfoldable pub all_inside_of : ℕ → List ℕ → Bool
all_inside_of count [] = true
all_inside_of count (e ∷ es) = pick (ltb (e / 256) count) (all_inside_of count es) false

-- what the list gives: 15 where any offset lies outside, with the state as it was
unfoldable pub amend_list_of : Open → List ℕ → Amended
amend_list_of s es =
    pick (all_inside_of (payload_length_of s) es) (record { answer = Ok tt; state = amended_by s (decoded_all es) })
    (record { answer = Err (refused 15); state = s })

-- the frame f with each byte stored, encrypted by the first bytes h; the payload begins at start
unfoldable pub stored_all : List ℕ → List ℕ → ℕ → ℕ → List ℕ → List ℕ → List ℕ
stored_all ks h counter start f [] = f
stored_all ks h counter start f (e ∷ es) =
    stored_all ks h counter start (set f (start + e / 256) (e % 256 ⊕ stream_at ks h counter (e / 256))) es

-- the lowest place that a list changes, or p
unfoldable pub lowest : ℕ → ℕ → List ℕ → ℕ
lowest start p [] = p
lowest start p (e ∷ es) = lowest start (min p (start + e / 256)) es
