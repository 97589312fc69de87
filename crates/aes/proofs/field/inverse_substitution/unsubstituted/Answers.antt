-- `aes::field::inverse_substitution::unsubstituted` gives what its rule gives: every entry is computed by the rule and compared, the
-- whole table in one test, in which the inverses are looked up.
-- Assumes nothing.
use mathlib.Core.Path.{ap, ◌∙◌}
use mathlib.Core.List.{List}
use Prim.Native.Nat.{ℕ}
use Rattle.base.specs.Bytes.{at}
use Rattle.aes.specs.Field.{from_bits, inv_affine, inv_sub}
use Rattle.aes.proofs.Tables.{inv_sbox-listed, inv_sbox_entry}
use Rattle.aes.proofs.field.inverse_substitution.unsubstituted.Goals as goal

pub returns : goal.returns
unfolding from_bits inv_affine inv_sub
returns c = ap (λ (t : List ℕ). at t c.args.b) inv_sbox-listed ∙ inv_sbox_entry c.args.b c.ranges.b.fits
