-- An open frame in a buffer of 868 bytes: the frame with the zeros behind it (255), its length (1), the schedule of the
-- network key (176) and of the application key (176), the chain values (256) and the counter (4, low byte first).
-- Every buffer holds some state, also one that no call made: its length has one byte, so that it is at most 255.
-- `loaded_stored` and `stored_loaded` in proofs/HeldUndone.antt say that the two definitions undo each other.
-- Assumes nothing.
use Rattle.std.specs.Prelude.{List, [], ◌∷◌, ◌++◌, ℕ, ◌%◌}
use Rattle.base.specs.Bytes.{at, part, four_bytes_of, from_four_bytes}
use Rattle.amend.specs.declared.amending.Open.{Open}
use Rattle.amend.specs.Amending.{open_state}

-- a state as a buffer holds it
unfoldable pub stored_open : Open → List ℕ
stored_open s =
    s.frame ++ (s.length % 256) ∷ [] ++ s.nwk_schedule ++ s.app_schedule ++ s.chains ++ four_bytes_of s.counter

-- the state that a buffer holds
unfoldable pub loaded_open : List ℕ → Open
loaded_open b =
    open_state (part 0 255 b) (at b 255) (part 256 176 b) (part 432 176 b) (from_four_bytes (part 864 4 b)) (part 608 256 b)
