-- `frame_of` copies the frame where there is room. Assumes nothing.
use Rattle.std.specs.Prelude.{Err}
use mathlib.Core.Path.{ap, ◌∙◌}
use mir.Syntax.{w8}
use mir.Val.{Fits}
use native.Mathlib.Omega.{arith}
use borrow.Author.Rules.{rules}
use Rattle.base.specs.Bytes.{at}
use Rattle.amend_held.proofs.HeldCallLaws.{taken_short, taken_whole}
use Rattle.amend_held.proofs.calls.frame_of.Goals as goal

pub returns-then-out-n : goal.returns-then-out-n
returns-then-out-n c =
    let both = taken_short c.args.buffer.now c.args.out.now c.from-n.result c.from-n.ensures c.if-out-n.true in
    record { value = ap Err c.of.ensures ∙ both.0; out_after = both.1 }

pub returns : goal.returns
returns c =
    let byte : Fits w8 (at c.args.buffer.now 255) = search rules in
    let both = taken_whole c.args.buffer.now c.args.out.now c.from-n.result c.from-n.ensures (omega (arith, c.if-out-n.false))
    (omega (arith, byte.fits, c.from-n.ensures))
    c.put.ensures.list in
    record { value = both.0; out_after = both.1 }
