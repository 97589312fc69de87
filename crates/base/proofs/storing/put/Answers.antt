-- `put` stores from the front, one byte more a turn, as many as find room. Assumes nothing.
use Prim.Native.Nat.{ℕ, ◌+◌}
use mathlib.Core.Path.{◌≡◌, sym, ap, ◌∙◌}
use native.Mathlib.Omega.{arith}
use Rattle.base.proofs.Put.{start, step}
use Rattle.base.proofs.StoringLaws.{first_put, stored, no_room}
use Rattle.base.proofs.storing.put.Goals as goal

pub returns-then-out-at : goal.returns-then-out-at
returns-then-out-at c = no_room _ _ _ c.if-out-at.true

pub loop-i-init : goal.loop-i-init
loop-i-init c = start _ _ _

pub loop-i-preserved : goal.loop-i-preserved
loop-i-preserved c = step c.loop-i.invariant (omega arith)

pub returns : goal.returns
returns c =
    let whole : c.loop-i.i ≡ c.min-count.result = omega (arith, c.loop-i-test.false, c.loop-i.auto.i-end) in
    let p = first_put c.min-count.result c.loop-i.invariant whole in
    stored
    c.min-count.result
    (record { next = ap (λ (n : ℕ). c.args.at + n) (sym whole) ∙ p.next; list = p.list })
    c.min-count.ensures
