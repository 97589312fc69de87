-- `aes::encrypt_under` meets its contract. The invariant: the state is that after the rounds before r.
-- Assumes nothing.
use mathlib.Core.Path.{◌≡◌, refl, ap, ap₂, ◌∙◌}
use Prim.Native.Nat.{◌-◌}
use native.Mathlib.Omega.{arith}
use Rattle.aes.specs.Fips197.{sub_bytes_of, shift_rows_of, add_round_key_of, round, rounds, cipher}
use Rattle.aes.proofs.Rounds.{round_more}
use Rattle.aes.proofs.encrypt_under.Goals as goal

pub loop-r-init : goal.loop-r-init
unfolding rounds
loop-r-init c = refl

pub loop-r-preserved : goal.loop-r-preserved
loop-r-preserved c =
    let w = c.args.schedule.now in
    let l = c.loop-r in
    c.one_round-next.ensures ∙ ap (round w l.r) l.invariant ∙ round_more w l.r c.add_round_key-s.result (omega arith)

pub returns : goal.returns
unfolding cipher
returns c =
    let w = c.args.schedule.now in
    let l = c.loop-r in
    let all : l.r - 1 ≡ 9 = omega arith in
    let after = l.invariant ∙ ap₂ (rounds w) all c.add_round_key-s.ensures in
    let shifted = c.shift_rows.ensures ∙ ap shift_rows_of (c.sub_bytes.ensures ∙ ap sub_bytes_of after) in
    c.add_round_key.ensures ∙ ap (add_round_key_of w 10) shifted
