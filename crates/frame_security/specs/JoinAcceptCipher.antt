-- A join-accept's encryption, from LoRaWAN 1.0 section 6.2.5: the network applies AES decryption to each block of sixteen bytes
-- from byte 1, so that a device needs AES encryption alone.
-- Assumes nothing.
use denote.Ref.{Bor}
use Rattle.std.specs.Prelude.{◌≡◌, List, ◌++◌, ℕ, zero, suc, ◌/◌, length, take, drop}
use Rattle.aes.specs.KeyExpansion.{key_expansion_of}
use Rattle.aes.specs.Fips197.{cipher, inv_cipher}

-- f on each of the first n blocks of sixteen bytes; the rest as it is
unfoldable pub each_block_of : (List ℕ → List ℕ) → ℕ → List ℕ → List ℕ
each_block_of f zero s = s
each_block_of f (suc n) s = f (take 16 s) ++ each_block_of f n (drop 16 s)

-- a step, of a key schedule and a block, computes f: what it gives, as `gives` says, is what f is there
pub record Computes (gives : Bor (List ℕ) → List ℕ → List ℕ → Type 0) (f : List ℕ → List ℕ → List ℕ) : Type 0 where
  pub same : (w : Bor (List ℕ)) (b r : List ℕ) → gives w b r → r ≡ f w.now b
  pub long : (w b : List ℕ) → length (f w b) ≡ 16

-- f on each whole block of sixteen bytes from byte 1
abbrev pub from_one : (List ℕ → List ℕ) → List ℕ → List ℕ
from_one f s = take 1 s ++ each_block_of f (length (drop 1 s) / 16) (drop 1 s)

-- what the network does to a clear join-accept, and what a device does to it
unfoldable pub accept_encrypted : List ℕ → List ℕ → List ℕ
accept_encrypted key clear = from_one (inv_cipher (key_expansion_of key)) clear

unfoldable pub accept_decrypted : List ℕ → List ℕ → List ℕ
accept_decrypted key frame = from_one (cipher (key_expansion_of key)) frame
