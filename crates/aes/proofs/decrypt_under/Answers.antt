-- `aes::decrypt_under` meets its contract. The invariant: the rounds that are left give what all nine would.
-- Assumes nothing.
use mathlib.Core.Path.{◌≡◌, ap, ◌∙◌}
use Prim.Native.Nat.{◌-◌}
use native.Mathlib.Omega.{arith}
use Rattle.aes.specs.Fips197.{add_round_key_of, inv_sub_bytes_of, inv_shift_rows_of, inv_rounds, inv_cipher}
use Rattle.aes.proofs.Rounds.{inv_round_more, inv_round-none}
use Rattle.aes.proofs.decrypt_under.Goals as goal

pub loop-r-preserved : goal.loop-r-preserved
loop-r-preserved c =
    let w = c.args.schedule.now in
    let l = c.loop-r in
    ap (inv_rounds w (l.r - 1 - 1)) c.one_inverse_round-next.ensures
    ∙ inv_round_more w (l.r - 1) l.s (omega arith)
    ∙ l.invariant

pub returns : goal.returns
unfolding inv_cipher
returns c =
    let w = c.args.schedule.now in
    let l = c.loop-r in
    let over : l.r - 1 ≡ 0 = omega arith in
    let after =
    inv_round-none w (l.r - 1) l.s _ over l.invariant
    ∙ ap (inv_rounds w 9) c.add_round_key-s.ensures in
    let substituted =
    c.inv_sub_bytes.ensures
    ∙ ap inv_sub_bytes_of (c.inv_shift_rows.ensures ∙ ap inv_shift_rows_of after) in
    c.add_round_key.ensures ∙ ap (add_round_key_of w 0) substituted
