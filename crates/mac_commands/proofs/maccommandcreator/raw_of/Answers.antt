-- `raw_of` meets its contract: a margin that is below 0 gets 64 added, in 64 bits, which hold both.
-- Assumes nothing.
use mathlib.Core.Path.{◌≡◌, ap, ◌∙◌}
use native.Mathlib.Omega.{arith}
use lib.IntN.{ℤ, pos, negsuc, ◌+ℤ◌, nat_abs}
use mir.Syntax.{w64}
use mir.Val.{SFits, to_z, of_z}
use borrow.Author.Rules.{rules}
use lib.Signed.{lt_z}
use mathlib.Core.Bool.{true, false}
use Rattle.mac_commands.specs.Commands.{raw_of}
use mir.Facts.{to_z-of_z}
use Rattle.mac_commands.proofs.MarginLaws.{under, past_top, negative, natural, raw_most}
use Rattle.mac_commands.proofs.maccommandcreator.raw_of.Goals as goal

sum : {m : ℤ} → SFits w64 m → lt_z (to_z w64 (of_z w64 m)) (negsuc 31) ≡ false → lt_z (to_z w64 (of_z w64 m)) (pos 0) ≡ true
    → to_z w64 (of_z w64 (to_z w64 (of_z w64 m) +ℤ pos 64)) ≡ pos (raw_of m)
sum {m} f l h =
    let e : to_z w64 (of_z w64 m) ≡ m = to_z-of_z f in
    let s : to_z w64 (of_z w64 m) +ℤ pos 64 ≡ pos (raw_of m) =
    ap (λ (z : ℤ). z +ℤ pos 64) e ∙ negative m (rw e at l) (rw e at h) in
    ap (λ (z : ℤ). to_z w64 (of_z w64 z)) s ∙ to_z-of_z {w = w64} {z = pos (raw_of m)} (record { sfits = omega (arith, raw_most m) })

plain : {m : ℤ} → SFits w64 m → lt_z (to_z w64 (of_z w64 m)) (pos 32) ≡ true → lt_z (to_z w64 (of_z w64 m)) (pos 0) ≡ false
    → to_z w64 (of_z w64 m) ≡ pos (raw_of m)
plain {m} f l h = let e : to_z w64 (of_z w64 m) ≡ m = to_z-of_z f in e ∙ natural m (rw e at l) (rw e at h)

pub returns-in-minus32-to-minus1 : goal.returns-in-minus32-to-minus1
returns-in-minus32-to-minus1 c = ap nat_abs (sum c.ranges.m (search rules) (search rules))

pub returns-in-0-to-31 : goal.returns-in-0-to-31
returns-in-0-to-31 c = ap nat_abs (plain c.ranges.m (search rules) (search rules))

low : {m : ℤ} → SFits w64 m → lt_z (to_z w64 (of_z w64 m)) (negsuc 31) ≡ true → 64 ≡ raw_of m
low {m} f h = let e : to_z w64 (of_z w64 m) ≡ m = to_z-of_z f in under m (rw e at h)

high : {m : ℤ} → SFits w64 m → lt_z (to_z w64 (of_z w64 m)) (pos 32) ≡ false → 64 ≡ raw_of m
high {m} f h = let e : to_z w64 (of_z w64 m) ≡ m = to_z-of_z f in past_top m (rw e at h)

pub returns-in_default : goal.returns-in_default
returns-in_default c = low c.ranges.m (search rules)

pub returns-in_default-2 : goal.returns-in_default-2
returns-in_default-2 c = high c.ranges.m (search rules)
