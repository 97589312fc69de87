-- What a checked opening gives, from LoRaWAN 1.0 sections 4.3.3, 4.4 and 6.2.5: the refusals of reading, then 5 where the MIC
-- differs, then 6; what is refused leaves every byte as it was.
-- Assumes nothing.
use Rattle.std.specs.Prelude.{Some, List, ℕ, Ok, Option}
use Rattle.base.specs.Bytes.{pick}
use Rattle.frame.specs.ReadingNumbers.{on_accept, on_data}
use Rattle.frame.specs.Reading.{read_of}
use Rattle.frame.specs.Refusals.{refused}
use Rattle.frame_security.specs.Security.{frame_key}
use Rattle.frame_security.specs.JoinAcceptCipher.{accept_decrypted}
use Rattle.frame_opening.specs.FrameOpening.{join_passes, data_passes, Outcome, outcome, unopened, opened_under}

-- ---- a data frame, under NwkSKey and the whole 32-bit counter

-- 5 where the MIC differs
unfoldable pub opened_tested : List ℕ → Option (List ℕ) → ℕ → List ℕ → Outcome
opened_tested nwk app counter f =
    pick (data_passes nwk counter f) (opened_under (frame_key f (Some nwk) app) counter f) (unopened f (refused 5))

unfoldable pub data_opened_checked : List ℕ → Option (List ℕ) → ℕ → List ℕ → Outcome
data_opened_checked nwk app counter f =
    on_data (λ d. opened_tested nwk app counter f) (unopened f) (read_of f)

-- ---- 6.2.5 a join-accept

-- 5 where the MIC of the clear text differs
unfoldable pub accept_tested : List ℕ → List ℕ → Outcome
accept_tested key f =
    pick (join_passes key (accept_decrypted key f)) (outcome (Ok tt) (accept_decrypted key f)) (unopened f (refused 5))

unfoldable pub accept_opened_checked : List ℕ → List ℕ → Outcome
accept_opened_checked key f = on_accept (λ n. accept_tested key f) (unopened f) (read_of f)
