-- `cmac::Cmac::push_each` meets its contract: at each turn what is still to be taken in gives the same. Assumes nothing.
use mathlib.Core.Path.{sym, ap, ◌∙◌}
use Rattle.std.proofs.Common.{drop_of_length-le}
use Rattle.cmac.specs.Running.{absorbed}
use Rattle.cmac.proofs.Turns.{taken}
use Rattle.cmac.proofs.Cmac.push_each.Goals as goal

pub loop-byte-preserved : goal.loop-byte-preserved
loop-byte-preserved c =
    let l = c.loop-byte in
    taken l.self _ c.args.bytes.now l.byte-index c.loop-byte-test.true (sym c.push.ensures) ∙ l.invariant

pub returns : goal.returns
unfolding absorbed
returns c =
    let l = c.loop-byte in
    sym (ap (absorbed l.self) (drop_of_length-le c.args.bytes.now c.loop-byte-test.false)) ∙ l.invariant
