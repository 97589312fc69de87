use native.Mathlib.Omega.{arith}
use Rattle.mac_commands.proofs.WriteLaws.{start, step, done}
use Rattle.mac_commands.proofs.maccommandcreator.put_number.Goals as goal

pub loop-place-init : goal.loop-place-init
loop-place-init c = start _ _ _ _

pub bounds-out-place : goal.bounds-out-place
bounds-out-place c = omega (arith, c.loop-place.invariant.long)

pub loop-place-preserved : goal.loop-place-preserved
loop-place-preserved c = step c.loop-place.invariant c.loop-place-test.true

pub returns : goal.returns
returns c = done c.loop-place.invariant c.loop-place-test.false
