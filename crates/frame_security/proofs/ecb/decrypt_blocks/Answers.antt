-- `decrypt_blocks`: what the step computes of a block is AES decryption under the key's schedule.
-- Assumes nothing.
use borrow.Author.Rules.{rules}
use Rattle.aes.specs.Fips197.{inv_cipher}
use Rattle.aes.proofs.CipherLaws.{inv_cipher_long}
use Rattle.frame_security.proofs.ecb.decrypt_blocks.Goals as goal

pub returns : goal.returns
returns c = c.each_block.ensures inv_cipher (record { same = λ w b r h. search rules; long = inv_cipher_long })
