-- `aes::one_inverse_round` meets its contract: it is the four inverse steps, one after the other.
-- Assumes nothing.
use mathlib.Core.Path.{ap, ◌∙◌}
use Rattle.aes.specs.Fips197.{add_round_key_of, inv_sub_bytes_of, inv_mix_columns_of, inv_round}
use Rattle.aes.proofs.one_inverse_round.Goals as goal

pub returns : goal.returns
unfolding inv_round
returns c =
    let a = c.args in
    let substituted = c.inv_sub_bytes-substituted.ensures ∙ ap inv_sub_bytes_of c.inv_shift_rows.ensures in
    let keyed = c.add_round_key.ensures ∙ ap (add_round_key_of a.schedule.now a.r) substituted in
    c.inv_mix_columns.ensures ∙ ap inv_mix_columns_of keyed
