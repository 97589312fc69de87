-- `aes::steps::sub_bytes` meets its contract: each call gives the substitution of its byte.
-- Assumes nothing.
use borrow.Author.Rules.{rules}
use Rattle.aes.specs.Field.{sub}
use Rattle.aes.specs.Fips197.{sub_bytes_of}
use Rattle.aes.proofs.Made.{mapped}
use Rattle.aes.proofs.steps.sub_bytes.Goals as goal

pub returns : goal.returns
unfolding sub_bytes_of
returns c = mapped sub 16 c.args.s c.map.result c.map.ensures.items (λ p q x y r. search rules)
