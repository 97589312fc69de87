-- `aes::steps::inv_sub_bytes` meets its contract: each call gives its byte substituted back.
-- Assumes nothing.
use borrow.Author.Rules.{rules}
use Rattle.aes.specs.Field.{inv_sub}
use Rattle.aes.specs.Fips197.{inv_sub_bytes_of}
use Rattle.aes.proofs.Made.{mapped}
use Rattle.aes.proofs.steps.inv_sub_bytes.Goals as goal

pub returns : goal.returns
unfolding inv_sub_bytes_of
returns c = mapped inv_sub 16 c.args.s c.map.result c.map.ensures.items (λ p q x y r. search rules)
