-- The opening of a join-accept, from LoRaWAN 1.0 section 6.2.5.
-- Assumes nothing.
use Rattle.std.specs.Prelude.{List, ℕ, Ok}
use Rattle.frame.specs.Reading.{read_of}
use Rattle.frame.specs.ReadingNumbers.{on_accept}
use Rattle.frame_security.specs.JoinAcceptCipher.{accept_decrypted}
use Rattle.frame_opening.specs.FrameOpening.{Outcome, outcome, unopened}

-- what a device does to it; a frame of another type is refused, and stays as it was
unfoldable pub accept_opened : List ℕ → List ℕ → Outcome
accept_opened key f = on_accept (λ n. outcome (Ok tt) (accept_decrypted key f)) (unopened f) (read_of f)
