-- Sealing a data frame, from LoRaWAN 1.0 sections 4.3.3 and 4.4: a header and a clear payload, encrypted and signed. Building
-- and amending speak of it alike.
-- Assumes nothing.
use Rattle.std.specs.Prelude.{List, ◌++◌, ℕ, ◌+◌, ◌-◌, leb, length, take, drop}
use Rattle.base.specs.Bytes.{pick, part}
use Rattle.frame_security.specs.Security.{payload_key_of, crypted, data_mic_of}

-- 4.3.3 the header, then the payload encrypted
unfoldable pub enciphered : List ℕ → List ℕ → ℕ → List ℕ → List ℕ → List ℕ
enciphered nwk app counter hdr p = hdr ++ crypted (payload_key_of hdr (length p) nwk app) hdr counter p

-- 4.4 these and their MIC
unfoldable pub sealed : List ℕ → List ℕ → ℕ → List ℕ → List ℕ → List ℕ
sealed nwk app counter hdr p =
    enciphered nwk app counter hdr p ++ data_mic_of nwk (enciphered nwk app counter hdr p) counter

-- sealing where it lies: of a buffer, the header up to start, the clear payload from there to end, and room for the MIC behind
-- it; the bytes past the MIC stay. Where these do not lie within the buffer, or a header of eight bytes does not lie ahead of
-- start, all of it stays.
unfoldable pub sealed_in : List ℕ → List ℕ → ℕ → ℕ → ℕ → List ℕ → List ℕ
sealed_in nwk app counter start end l =
    pick (leb 8 start)
    (pick (leb start end)
    (pick (leb (end + 4) (length l))
    (sealed nwk app counter (take start l) (part start (end - start) l) ++ drop (end + 4) l)
    l)
    l)
    l
