-- `unsigned_of` meets its contract: a number that passes both tests is a natural one of 32 bits.
-- Assumes nothing.
use mathlib.Core.Path.{◌≡◌, ap, ◌∙◌}
use lib.IntN.{ℤ, pos, nat_abs}
use lib.Signed.{lt_z}
use mathlib.Core.Bool.{false}
use mir.Syntax.{w64}
use mir.Val.{SFits, to_z, of_z}
use mir.Facts.{to_z-of_z}
use Rattle.command_numbers.specs.Numbers.{unsigned_of}
use Rattle.command_numbers.proofs.NumberLaws.{negative, over, inside}
use Rattle.command_numbers.proofs.unsigned_of.Goals as goal

plain : {z : ℤ} → SFits w64 z → lt_z (to_z w64 (of_z w64 z)) (pos 0) ≡ false → lt_z (pos 4294967295) (to_z w64 (of_z w64 z)) ≡ false
    → to_z w64 (of_z w64 z) ≡ pos (unsigned_of z)
plain {z} f l h = let e : to_z w64 (of_z w64 z) ≡ z = to_z-of_z f in e ∙ inside z (rw e at l) (rw e at h)

pub returns-then-z-lt0 : goal.returns-then-z-lt0
returns-then-z-lt0 c = let e = to_z-of_z c.ranges.z in negative _ (rw e at c.if-z-lt0.true)

pub returns-then-z-gt4294967295 : goal.returns-then-z-gt4294967295
returns-then-z-gt4294967295 c = let e = to_z-of_z c.ranges.z in over _ (rw e at c.if-z-gt4294967295.true)

pub returns : goal.returns
returns c = ap nat_abs (plain c.ranges.z c.if-z-lt0.false c.if-z-gt4294967295.false)
