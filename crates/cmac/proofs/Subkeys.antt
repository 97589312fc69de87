-- The subkeys are bytes.
-- Assumes nothing.
use mathlib.Core.List.{List}
use Prim.Native.Nat.{ℕ}
use native.Mathlib.Omega.{arith}
use Rattle.base.specs.Bytes.{AreBytes}
use Rattle.base.proofs.Parts.{bytes_replicate}
use Rattle.cmac.specs.Doubling.{const_zero}
use Rattle.cmac.proofs.DoublingLaws.{doubled_byte}
use Rattle.aes.specs.Fips197.{cipher}
use Rattle.aes.proofs.CipherLaws.{cipher_byte}
use Rattle.cmac.specs.Rfc4493.{subkey1, subkey2}

zeros_byte : AreBytes const_zero
zeros_byte = bytes_replicate 16 0 (omega arith)

pub subkey1_byte : (ks : List ℕ) → AreBytes ks → AreBytes (subkey1 ks)
unfolding subkey1
subkey1_byte ks h = doubled_byte (cipher ks const_zero) (cipher_byte ks const_zero h zeros_byte)

pub subkey2_byte : (ks : List ℕ) → AreBytes ks → AreBytes (subkey2 ks)
unfolding subkey2
subkey2_byte ks h = doubled_byte (subkey1 ks) (subkey1_byte ks h)
