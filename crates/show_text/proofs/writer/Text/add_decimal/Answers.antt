-- After each turn the digits behind `first` and those of `rest` are the number's, and `rest` has no more of them than there is room
-- for.
-- Assumes nothing.
use native.Mathlib.Omega.{arith}
use Rattle.show_text.proofs.Decimal.{start, room, step, still_long, done}
use Rattle.show_text.proofs.Writing.{same}
use Rattle.show_text.proofs.writer.Text.add_decimal.Goals as goal

pub loop-rest-init : goal.loop-rest-init
loop-rest-init c = start _ c.ranges.n.fits

pub overflow_sub-first-in-loop-rest : goal.overflow_sub-first-in-loop-rest
overflow_sub-first-in-loop-rest c = room c.loop-rest.invariant c.loop-rest-test.true

pub loop-rest-preserved : goal.loop-rest-preserved
loop-rest-preserved c = step c.loop-rest.invariant c.loop-rest-test.true c.digit.ensures

pub slice_bounds-add-end : goal.slice_bounds-add-end
slice_bounds-add-end c = omega (arith, still_long c.loop-rest.invariant c.digit-2.result)

pub returns : goal.returns
returns c = same (done c.loop-rest.invariant (omega (arith, c.loop-rest-test.false)) c.digit-2.ensures) c.add.ensures
