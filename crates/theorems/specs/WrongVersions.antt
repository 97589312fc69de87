-- The versions that docs/RULES.md names for trial under "What each call is held to", and what each would have to meet.
-- Assumes nothing.
use Rattle.frame.specs.declared.refusals.Refusal.{Refusal}
use Rattle.amend.specs.OpenFrame.{state_in}
use Rattle.frame.specs.Refusals.{refusal_in}
use Rattle.std.specs.Prelude.{◌≡◌, List, [], ◌∷◌, ℕ, ◌+◌, length, take, set, Ok, Result}
use Rattle.frame.specs.Layout.{payload_start_of, mic_of}
use Rattle.frame.specs.ReadingNumbers.{number_of, values_of}
use Rattle.frame.specs.Reading.{read_of}
use Rattle.frame.specs.Reading.{Reading}
use Rattle.frame_build.specs.DataBuilding.{data_refusal_of}
use Rattle.frame_build.specs.DataFrames.{built_of, data_frame_of}
use Rattle.frame_build.specs.declared.creator.data_frame.DataParts.{DataParts}
use Rattle.amend.specs.Amending.{open_state, encrypted_byte, amend_of}
use Rattle.amend.specs.AmendmentLists.{Amendment, Stands}
use Rattle.amend.specs.OpenFrame.{open_of}
use Rattle.amend.specs.declared.amending.Open.{Open}

-- ---- readers

abbrev pub Reads : (List ℕ → Reading) → Type 0
Reads read = (f : List ℕ) → read f ≡ read_of f

-- one that refuses each frame
abbrev pub RefusesEach : (List ℕ → Reading) → Type 0
RefusesEach read = (f : List ℕ) → number_of (read f) ≡ 0 → ⊥

-- one that shows the same fields for all frames that are to be accepted
abbrev pub SameForAll : (List ℕ → Reading) → Type 0
SameForAll read = (f g : List ℕ) → number_of (read_of f) ≡ 0 → number_of (read_of g) ≡ 0 → values_of (read f) ≡ values_of (read g)

-- ---- builders: of both keys, the fields, commands, payload and the room for the frame

abbrev pub Builder : Type 0
Builder = List ℕ → List ℕ → DataParts → List ℕ → List ℕ → ℕ → Result ℕ Refusal

abbrev pub BuildsData : Builder → Type 0
BuildsData build =
    (nwk app : List ℕ) (d : DataParts) (commands payload : List ℕ) (room : ℕ)
    → build nwk app d commands payload room
    ≡ built_of (data_refusal_of d commands payload room) (length (data_frame_of nwk app d commands payload))

-- one that reports the length n, whatever it builds
abbrev pub Reports : ℕ → Builder → Type 0
Reports n build =
    (nwk app : List ℕ) (d : DataParts) (commands payload : List ℕ) (room : ℕ) → data_refusal_of d commands payload room ≡ 0
    → build nwk app d commands payload room ≡ Ok n

-- ---- amendments: the state after a list

abbrev pub Amends : (Open → List Amendment → Open) → Type 0
Amends amend =
    (f nwk app : List ℕ) (counter : ℕ) → (refusal_in (open_of f nwk app counter)).number ≡ 0 → (list : List Amendment)
    → Stands f nwk app counter list (amend (state_in (open_of f nwk app counter)) list)

-- one that returns its state untouched
abbrev pub untouched : Open → List Amendment → Open
untouched s list = s

-- the encrypted byte stored, and nothing else
abbrev pub stored : Open → ℕ → ℕ → Open
stored s k v =
    open_state (set s.frame (payload_start_of s.frame + k) (encrypted_byte s k v)) s.length s.nwk_schedule
    s.app_schedule s.counter s.chains

unfoldable pub stores_only : Open → List Amendment → Open
stores_only s [] = s
stores_only s (a ∷ list) = stores_only (stored s a.offset a.value) list

-- one that signs properly the first time, and later only stores the byte
unfoldable pub signs_first : Open → List Amendment → Open
signs_first s [] = s
signs_first s (a ∷ list) = stores_only (amend_of s a.offset a.value).state list

-- one under which every frame ends in the same MIC
abbrev pub ConstantMic : (Open → List Amendment → Open) → Type 0
ConstantMic amend =
    (s t : Open) (a b : List Amendment)
    → mic_of (take (amend s a).length (amend s a).frame) ≡ mic_of (take (amend t b).length (amend t b).frame)
