-- What opening a frame for amendments gives (docs/RULES.md, Amendments): refusals of reading, 4 for a frame of another
-- type, 14 and 5, in that order; or the frame, both keys, the counter and the chain values of its MIC.
-- Assumes nothing.
use Rattle.std.specs.Prelude.{List, ◌++◌, ℕ, ◌+◌, ◌-◌, ◌/◌, ◌%◌, leb, eqb, length, Result, Ok, Err}
use Rattle.base.specs.Bytes.{pick, tab, at, zeros}
use Rattle.aes.specs.KeyExpansion.{key_expansion_of}
use Rattle.cmac.specs.Rfc4493.{chain}
use Rattle.frame_security.specs.Mic.{same_bytes}
use Rattle.frame.specs.Layout.{fcnt, mic_of}
use Rattle.frame.specs.ReadingNumbers.{on_data}
use Rattle.frame.specs.Reading.{read_of}
use Rattle.frame.specs.Refusals.{refused}
use Rattle.frame.specs.declared.refusals.Refusal.{Refusal}
use Rattle.frame_security.specs.Security.{covered, message, data_mic_of}
use Rattle.amend.specs.declared.amending.Open.{Open}
use Rattle.amend.specs.Amending.{open_state, last_place}

-- a frame as a state holds it: zeros behind it up to 255 bytes
unfoldable pub held : List ℕ → List ℕ
held f = f ++ zeros (255 - length f)

-- the chain values of the message m ahead of the frame's blocks 0 to last, sixteen bytes each, then zeros
unfoldable pub chains_of : List ℕ → List ℕ → ℕ → List ℕ
chains_of ks m last = tab 256 (λ j. pick (leb (j / 16) last) (at (chain ks m (j / 16 + 1)) (j % 16)) 0)

-- the state of an open frame
unfoldable pub opened_of : List ℕ → List ℕ → List ℕ → ℕ → Open
opened_of f nwk app counter =
    open_state (held f) (length f) (key_expansion_of nwk) (key_expansion_of app) counter
    (chains_of (key_expansion_of nwk) (message (covered f) counter) (last_place (length f - 4)))

-- 5 where the MIC differs
unfoldable pub open_checked_of : List ℕ → List ℕ → List ℕ → ℕ → Result Open Refusal
open_checked_of f nwk app counter =
    pick (same_bytes (data_mic_of nwk (covered f) counter) (mic_of f)) (Ok (opened_of f nwk app counter)) (Err (refused 5))

-- of a data frame: 14 where the counter's low half is not the frame's
unfoldable pub open_data : List ℕ → List ℕ → List ℕ → ℕ → Result Open Refusal
open_data f nwk app counter =
    pick (eqb (counter % 65536) (fcnt f)) (open_checked_of f nwk app counter) (Err (refused 14))

-- a refused reading keeps its number, a frame of another type answers 4, a data frame goes on
unfoldable pub open_of : List ℕ → List ℕ → List ℕ → ℕ → Result Open Refusal
open_of f nwk app counter = on_data (λ d. open_data f nwk app counter) Err (read_of f)

-- no state: all zeros
unfoldable pub nothing : Open
nothing = open_state (zeros 255) 0 (zeros 176) (zeros 176) 0 (zeros 256)

-- the state of an opening, which is that of zeros where it was refused
abbrev pub state_in : Result Open Refusal → Open
state_in (Ok s) = s
state_in (Err r) = nothing
