-- `aes::columns::unmixed` meets its contract, by the law on the shorter way to unmix.
-- Assumes nothing.
use mathlib.Core.Path.{ap, ap₂, ◌∙◌}
use Prim.Native.Nat.{ℕ}
use Rattle.base.specs.Bytes.{◌⊕◌}
use Rattle.aes.specs.Field.{mul}
use Rattle.aes.specs.Fips197.{mix_row}
use Rattle.aes.proofs.Linear.{unmixed_right}
use Rattle.aes.proofs.columns.unmixed.Goals as goal

pub returns : goal.returns
returns c =
    let x = c.args in
    let fits = c.ranges in
    let u = c.doubled-u.ensures ∙ ap (mul 2) c.doubled.ensures in
    let v = c.doubled-v.ensures ∙ ap (mul 2) c.doubled-2.ensures in
    c.mixed.ensures
    ∙ ap₂ (λ (m n : ℕ). mix_row (x.a ⊕ m) (x.b ⊕ n) (x.c ⊕ m) (x.d ⊕ n)) u v
    ∙ unmixed_right x.a x.b x.c x.d fits.a.fits fits.b.fits fits.c.fits fits.d.fits
