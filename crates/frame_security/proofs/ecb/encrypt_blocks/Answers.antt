-- `encrypt_blocks`: what the step computes of a block is AES encryption under the key's schedule.
-- Assumes nothing.
use borrow.Author.Rules.{rules}
use Rattle.aes.specs.Fips197.{cipher}
use Rattle.aes.proofs.CipherLaws.{cipher_long}
use Rattle.frame_security.proofs.ecb.encrypt_blocks.Goals as goal

pub returns : goal.returns
returns c = c.each_block.ensures cipher (record { same = λ w b r h. search rules; long = cipher_long })
