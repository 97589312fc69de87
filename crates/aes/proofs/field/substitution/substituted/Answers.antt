-- `aes::field::substitution::substituted` gives what its rule gives: every entry is computed by the rule and compared, the whole
-- table in one test, in which the inverses are looked up.
-- Assumes nothing.
use mathlib.Core.Path.{ap, ◌∙◌}
use mathlib.Core.List.{List}
use Prim.Native.Nat.{ℕ}
use Rattle.base.specs.Bytes.{at}
use Rattle.aes.specs.Field.{from_bits, affine, sub}
use Rattle.aes.proofs.Tables.{s_box-listed, s_box_entry}
use Rattle.aes.proofs.field.substitution.substituted.Goals as goal

pub returns : goal.returns
unfolding from_bits affine sub
returns c = ap (λ (t : List ℕ). at t c.args.b) s_box-listed ∙ s_box_entry c.args.b c.ranges.b.fits
