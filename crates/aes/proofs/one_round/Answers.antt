-- `aes::one_round` meets its contract: it is the four steps, one after the other.
-- Assumes nothing.
use mathlib.Core.Path.{ap, ◌∙◌}
use Rattle.aes.specs.Fips197.{shift_rows_of, mix_columns_of, add_round_key_of, round}
use Rattle.aes.proofs.one_round.Goals as goal

pub returns : goal.returns
unfolding round
returns c =
    let a = c.args in
    let shifted = c.shift_rows-shifted.ensures ∙ ap shift_rows_of c.sub_bytes.ensures in
    let mixed = c.mix_columns.ensures ∙ ap mix_columns_of shifted in
    c.add_round_key.ensures ∙ ap (add_round_key_of a.schedule.now a.r) mixed
