-- `chains_of` makes the first chain value of B_0 and carries on. Assumes nothing.
use Prim.Native.Nat.{ℕ, ◌-◌}
use mathlib.Core.Path.{ap, ◌∙◌}
use native.Mathlib.Omega.{arith}
use lib.ListN.{length, replicate, length-take}
use lib.Seq.{sets}
use Rattle.amend.specs.Amending.{last_place, chained}
use Rattle.amend.proofs.OpeningLaws.{opened_table}
use Rattle.amend.proofs.opening.chains_of.Goals as goal

pub slice_bounds-mic_block-end : goal.slice_bounds-mic_block-end
slice_bounds-mic_block-end c = simp length-take (omega (arith, c.requires))

pub returns : goal.returns
returns c =
    let args = c.args in
    let f = args.frame.now in
    let ks = args.schedule.now in
    let last = last_place (length f - 4) in
    c.carry_on.ensures
    ∙ ap (chained ks f (last - 0) 0)
    (c.put.ensures.list ∙ ap (sets (replicate {A = ℕ} 256 0) 0) c.next_chain-ahead.ensures)
    ∙ opened_table ks f args.counter c.requires.0 c.requires.1 c.mic_block-first.result c.mic_block-first.ensures
