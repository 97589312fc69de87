-- What testing and opening a frame gives, from LoRaWAN 1.0: the MIC (4.4, 6.2.4, 6.2.5) and the payload (4.3.3). The refusals
-- come in the order reading, 6 (docs/RULES.md, Refusals); what is refused leaves every byte as it was.
-- Assumes nothing.
use Rattle.std.specs.Prelude.{Some, None, Bool, List, ℕ, Err, Ok, Option, Result}
use Rattle.frame_security.specs.Mic.{same_bytes}
use Rattle.frame.specs.Layout.{fcnt, header_end_of, payload_end_of, mic_of}
use Rattle.frame.specs.ReadingNumbers.{on_request, on_accept, on_data}
use Rattle.frame.specs.Refusals.{refused}
use Rattle.frame.specs.declared.refusals.Refusal.{Refusal}
use Rattle.frame.specs.Reading.{read_of}
use Rattle.frame_security.specs.Security.{crypted_part, frame_key, full_counter_of, covered, data_mic_of, join_mic}

-- ---- 4.4, 6.2.4, 6.2.5 the MIC

-- 6.2.4, 6.2.5 a join message under AppKey, a join-accept given clear
unfoldable pub join_passes : List ℕ → List ℕ → Bool
join_passes key f = same_bytes (mic_of f) (join_mic key (covered f))

-- 4.4 a data message under NwkSKey and the whole 32-bit counter
unfoldable pub data_passes : List ℕ → ℕ → List ℕ → Bool
data_passes key counter f = same_bytes (mic_of f) (data_mic_of key (covered f) counter)

unfoldable pub join_request_test : List ℕ → List ℕ → Result Bool Refusal
join_request_test key f = on_request (Ok (join_passes key f)) Err (read_of f)

unfoldable pub join_accept_test : List ℕ → List ℕ → Result Bool Refusal
join_accept_test key f = on_accept (λ n. Ok (join_passes key f)) Err (read_of f)

unfoldable pub data_test_of : List ℕ → ℕ → List ℕ → Result Bool Refusal
data_test_of key counter f = on_data (λ d. Ok (data_passes key counter f)) Err (read_of f)

-- ---- opening: the answer, and the bytes of the lent frame as the call returns

pub record Outcome : Type 0 where
  pub answer : Result (Unit {0}) Refusal
  pub bytes : List ℕ

abbrev pub outcome : Result (Unit {0}) Refusal → List ℕ → Outcome
outcome a f = record { answer = a; bytes = f }

-- a refusal leaves the frame as it was
abbrev pub unopened : List ℕ → Refusal → Outcome
unopened f r = outcome (Err r) f

-- ---- 4.3.3 the payload of a data frame

-- the payload decrypted where it lies: the counter's high half is the caller's, its low half the frame's
unfoldable pub decrypted : List ℕ → ℕ → List ℕ → List ℕ
decrypted key counter f = crypted_part key f (full_counter_of counter (fcnt f)) (header_end_of f) (payload_end_of f)

-- 6 where the key was not given
unfoldable pub opened_under : Option (List ℕ) → ℕ → List ℕ → Outcome
opened_under None counter f = unopened f (refused 6)
opened_under (Some key) counter f = outcome (Ok tt) (decrypted key counter f)

unfoldable pub data_opened : Option (List ℕ) → Option (List ℕ) → ℕ → List ℕ → Outcome
data_opened nwk app counter f =
    on_data (λ d. opened_under (frame_key f nwk app) counter f) (unopened f) (read_of f)
