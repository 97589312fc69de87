-- Keys and secrets of a frame, from LoRaWAN 1.0: payload encryption (4.3.3), the frame counter (4.3.1.5), the MIC (4.4,
-- 6.2.4, 6.2.5). Over the cipher of FIPS 197 and the MAC of RFC 4493 by their definitions.
-- Assumes nothing.
use Rattle.std.specs.Prelude.{Bool, true, List, [], ◌∷◌, ◌++◌, ℕ, ◌+◌, ◌-◌, ◌*◌, ◌/◌, ◌%◌, leb, eqb, length, take, drop}
use Rattle.base.specs.Bytes.{pick, tab, at, part}
use Rattle.base.specs.Mask.{masked}
use Rattle.aes.specs.KeyExpansion.{key_expansion_of}
use Rattle.aes.specs.Fips197.{cipher}
use Rattle.frame_security.specs.Mic.{mic}
use Rattle.frame.specs.Layout.{direction, fport, header, payload}

-- the first five bytes of a frame, MHDR and DevAddr, which hold all that a helper block takes of it; 0 where there is
-- none
abbrev pub start_of : List ℕ → List ℕ
start_of f = tab 5 (at f)

-- 4.3.3.1 A_i and 4.4 B_0: the first byte, four zeros, direction, DevAddr, the counter low byte first, 0, and the last
-- byte. The direction and the address are those of a frame's own first bytes.
unfoldable pub helper_block_of : ℕ → List ℕ → ℕ → ℕ → List ℕ
helper_block_of first f counter last =
    first ∷ 0 ∷ 0 ∷ 0 ∷ 0 ∷ direction f ∷ at f 1 ∷ at f 2 ∷ at f 3 ∷ at f 4
    ∷ (counter % 256) ∷ (counter / 256 % 256) ∷ (counter / 65536 % 256) ∷ (counter / 16777216 % 256) ∷ 0 ∷ last ∷ []

-- 4.3.3.1 the number of the block that holds byte j of a payload: from 1, in one byte
abbrev pub block_number_of : ℕ → ℕ
block_number_of j = (j / 16 + 1) % 256

-- 4.3.3.1 the block of the key stream that holds byte j of a payload, under a key schedule: the cipher of A_i
unfoldable pub stream_block_of : List ℕ → List ℕ → ℕ → ℕ → List ℕ
stream_block_of ks f counter j = cipher ks (helper_block_of 1 f counter (block_number_of j))

-- 4.3.3.1 byte j of the key stream S_1 S_2 ..
unfoldable pub stream_at : List ℕ → List ℕ → ℕ → ℕ → ℕ
stream_at ks f counter j = at (stream_block_of ks f counter j) (j % 16)

-- 4.3.3.1 a payload exclusive-or the key stream: what encrypts also decrypts
unfoldable pub crypted : List ℕ → List ℕ → ℕ → List ℕ → List ℕ
crypted key f counter p = masked p (stream_at (key_expansion_of key) f counter)

-- a frame whose bytes start..end are encrypted, or decrypted, where they lie
unfoldable pub crypted_part : List ℕ → List ℕ → ℕ → ℕ → ℕ → List ℕ
crypted_part key f counter start end = take start f ++ crypted key f counter (part start (end - start) f) ++ drop end f

-- the same of any two places: where they do not lie in order within the frame, it stays
unfoldable pub crypted_in : List ℕ → List ℕ → ℕ → ℕ → ℕ → List ℕ
crypted_in key f counter start end = pick (leb start end) (pick (leb end (length f)) (crypted_part key f counter start end) f) f

-- 4.3.3 whether a payload of n bytes is under the network key: where the port of the header ahead of it is 0 or there is none,
-- and where there is nothing to encrypt
unfoldable pub by_network_key_of : List ℕ → ℕ → Bool
by_network_key_of hdr n = pick (eqb n 0) true (eqb (fport hdr) 0)

-- 4.3.3 the payload's key, of two keys, two key schedules or two keys that may not be given
abbrev pub payload_key_of : {A : Type 0} → List ℕ → ℕ → A → A → A
payload_key_of hdr n nwk app = pick (by_network_key_of hdr n) nwk app

-- 4.3.3 the same of a data frame's own payload
abbrev pub frame_key : {A : Type 0} → List ℕ → A → A → A
frame_key f nwk app = payload_key_of (header f) (length (payload f)) nwk app

-- 4.3.1.5 a frame carries the low half of its 32-bit counter; the high half is the caller's
unfoldable pub full_counter_of : ℕ → ℕ → ℕ
full_counter_of counter fcnt = counter / 65536 * 65536 + fcnt

-- 4.4, 6.2.4, 6.2.5 what the MIC of a frame covers: every byte ahead of it
abbrev pub covered : List ℕ → List ℕ
covered f = take (length f - 4) f

-- 4.4 B_0 of what the MIC of a data frame covers: its last byte is how many bytes those are
unfoldable pub mic_block_of : List ℕ → ℕ → List ℕ
mic_block_of msg counter = helper_block_of 0x49 msg counter (length msg % 256)

-- 4.4 the message of that MIC: B_0, and what is covered
unfoldable pub message : List ℕ → ℕ → List ℕ
message msg counter = mic_block_of msg counter ++ msg

-- 4.4 the MIC of a data frame, of what it covers
unfoldable pub data_mic_of : List ℕ → List ℕ → ℕ → List ℕ
data_mic_of key msg counter = mic key (message msg counter)

-- 6.2.4, 6.2.5 the MIC of a join message, of what it covers
unfoldable pub join_mic : List ℕ → List ℕ → List ℕ
join_mic key msg = mic key msg
