-- `aes::columns::mixed` meets its contract, by the law on the shorter way to mix.
-- Assumes nothing.
use mathlib.Core.Path.{ap, ◌∙◌}
use Prim.Native.Nat.{ℕ}
use Rattle.base.specs.Bytes.{◌⊕◌}
use Rattle.aes.proofs.Linear.{mixed_right}
use Rattle.aes.proofs.columns.mixed.Goals as goal

pub returns : goal.returns
returns c =
    let x = c.args in
    let fits = c.ranges in
    ap (λ (n : ℕ). n ⊕ (x.b ⊕ (x.c ⊕ x.d))) c.doubled.ensures
    ∙ mixed_right x.a x.b x.c x.d fits.a.fits fits.b.fits fits.c.fits fits.d.fits
