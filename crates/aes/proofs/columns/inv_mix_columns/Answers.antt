-- `aes::columns::inv_mix_columns` meets its contract: each byte is a row's. Assumes nothing.
use borrow.Author.Rules.{rules}
use Rattle.aes.specs.Fips197.{mixed_at, inv_mix_row, inv_mix_columns_of}
use Rattle.aes.proofs.Made.{table}
use Rattle.aes.proofs.columns.inv_mix_columns.Goals as goal

pub returns : goal.returns
unfolding inv_mix_columns_of
returns c =
    table (mixed_at inv_mix_row c.args.s) 16 c.by_columns.result c.by_columns.ensures.long
    (λ i l. let row = c.by_columns.ensures.rows i l in search rules)
