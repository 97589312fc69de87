-- `aes::steps::shift_rows` meets its contract: its way to find where a byte comes from is compared with the rule at each of the 16.
-- Assumes nothing.
use mathlib.Core.Path.{◌≡◌, ap, ◌∙◌}
use Prim.Native.Nat.{◌*◌, ◌%◌}
use borrow.Author.Rules.{rules}
use Rattle.base.specs.Bytes.{at}
use Rattle.base.proofs.Tested.{agree}
use Rattle.aes.specs.Fips197.{shifted_from, shift_rows_of}
use Rattle.aes.proofs.Made.{made}
use Rattle.aes.proofs.steps.shift_rows.Goals as goal

pub returns : goal.returns
unfolding shift_rows_of
returns c =
    let s = c.args.s in
    made (λ i. at s (shifted_from i)) 16 c.from_fn.result c.from_fn.ensures.items
    (λ i y q l r.
    let is : y ≡ at s (5 * i % 16) = search rules in
    (is ∙ ap (at s) (agree 16 (λ k. 5 * k % 16) shifted_from tt i l), search rules))
