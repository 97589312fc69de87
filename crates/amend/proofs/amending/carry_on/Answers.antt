-- `carry_on` stores one chain value more a turn; what is still to be carried on gives the same. Assumes nothing.
use Prim.Native.Nat.{ℕ, ◌+◌, ◌-◌, ◌*◌}
use mathlib.Core.Path.{refl, sym, ap, ap₂, ◌∙◌}
use mathlib.Core.List.{List}
use borrow.Author.Rules.{rules}
use lib.Seq.{sets}
use Rattle.base.specs.Bytes.{xor_lists}
use Rattle.aes.specs.Fips197.{cipher}
use Rattle.base.proofs.StoringLaws.{run_inside}
use Rattle.amend.specs.Amending.{chained}
use Rattle.amend.proofs.Chains.{carry_step, carry_done}
use Rattle.amend.proofs.amending.carry_on.Goals as goal

pub loop-i-preserved : goal.loop-i-preserved
loop-i-preserved c =
    let args = c.args in
    let ks = args.schedule.now in
    let f = args.frame.now in
    let l = c.loop-i in (
      c.put.auto.out ∙ l.invariant.0,
      ap (chained ks f (args.to - (l.i + 1)) (l.i + 1))
          (c.put.ensures.list
          ∙ ap (sets l.chains (16 * (l.i + 1)))
          (c.next_chain-next.ensures
          ∙ ap₂ (λ (x y : List ℕ). cipher ks (xor_lists x y)) (c.run_at-chain.ensures ∙ run_inside 16 l.chains (16 * l.i) (search rules))
          (c.run_at-block.ensures ∙ run_inside 16 f (16 * l.i) (search rules))))
          ∙ carry_step ks f args.to l.i l.chains (search rules)
          ∙ l.invariant.1,
    )

pub returns : goal.returns
returns c =
    let args = c.args in
    let l = c.loop-i in
    sym (carry_done args.schedule.now args.frame.now args.to l.i l.chains c.loop-i-test.false)
    ∙ l.invariant.1

pub loop-i-init : goal.loop-i-init
loop-i-init c = (refl, refl)
