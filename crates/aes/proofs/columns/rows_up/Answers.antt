-- `aes::columns::rows_up` meets its contract: each call gives the byte below. Assumes nothing.
use borrow.Author.Rules.{rules}
use Rattle.base.specs.Bytes.{at}
use Rattle.aes.specs.Fips197.{below}
use Rattle.aes.proofs.Made.{made}
use Rattle.aes.proofs.columns.rows_up.Goals as goal

pub returns : goal.returns
returns c =
    made (λ i. at c.args.s (below i c.args.k)) 16 c.from_fn.result c.from_fn.ensures.items (λ i y q l r. (search rules, search rules))
