-- `pack` meets its contract: the values ahead of the field fit, and the number is their sum.
-- Assumes nothing.
use mathlib.Core.Path.{◌≡◌, ap, ◌∙◌}
use Prim.Native.Nat.{ℕ, ◌^◌}
use native.Mathlib.Omega.{arith}
use borrow.Author.Rules.{rules}
use lib.ListN.{length}
use Rattle.mac_commands.specs.Layout.{row, width_at}
use Rattle.mac_commands.proofs.TableLaws.{field_count}
use Rattle.mac_commands.proofs.Packing.{added, done, unfit, known_field}
use Rattle.mac_commands.proofs.maccommandcreator.pack.Goals as goal

pub bounds-x-k : goal.bounds-x-k
bounds-x-k c = (known_field (search rules) c.row_at.ensures.fields c.loop-k-test.true).index

pub power-requires : goal.power-requires
power-requires c = (known_field (search rules) c.row_at.ensures.fields c.loop-k-test.true).narrow

pub returns-then-power-y : goal.returns-then-power-y
returns-then-power-y c =
    let f = known_field (search rules) c.row_at.ensures.fields c.loop-k-test.true in
    let w : c.power.result ≡ 2 ^ width_at (row c.args.r) c.loop-k.k = c.power.ensures ∙ ap (λ (n : ℕ). 2 ^ n) f.width in
    unfit c.args.r _ c.loop-k.k (search rules) f.there (omega (arith, w, c.if-power-y.true))

pub power-requires-in-loop-k : goal.power-requires-in-loop-k
power-requires-in-loop-k c = (known_field (search rules) c.row_at.ensures.fields c.loop-k-test.true).low

pub overflow_mul-v : goal.overflow_mul-v
overflow_mul-v c =
    let f = known_field (search rules) c.row_at.ensures.fields c.loop-k-test.true in
    record { fits = (added c.loop-k.invariant f c.power.ensures c.if-power-y.false c.power-in-loop-k.ensures).small }

pub overflow_add-v : goal.overflow_add-v
overflow_add-v c =
    let f = known_field (search rules) c.row_at.ensures.fields c.loop-k-test.true in
    record { fits = (added c.loop-k.invariant f c.power.ensures c.if-power-y.false c.power-in-loop-k.ensures).fits }

pub loop-k-preserved : goal.loop-k-preserved
loop-k-preserved c =
    let f = known_field (search rules) c.row_at.ensures.fields c.loop-k-test.true in
    (added c.loop-k.invariant f c.power.ensures c.if-power-y.false c.power-in-loop-k.ensures).packing

pub returns : goal.returns
returns c = done c.loop-k.invariant (omega (arith, ap length c.row_at.ensures.fields, field_count (row c.args.r), c.loop-k-test.false))
