-- `cmac::shift` meets its contract: each call gives the shifted byte at its place. Assumes nothing.
use mathlib.Core.Path.{◌≡◌}
use borrow.Author.Rules.{rules}
use Rattle.base.specs.Bytes.{at}
use Rattle.base.proofs.Tab.{at_past}
use Rattle.aes.proofs.Made.{made}
use Rattle.cmac.specs.Doubling.{shifted_at, shifted}
use Rattle.cmac.proofs.blocks.shift.Goals as goal

pub returns : goal.returns
unfolding shifted
returns c =
    let x = c.args.x in
    let past : at x 16 ≡ 0 = at_past x 16 (search rules) in
    made (shifted_at x) 16 c.from_fn.result c.from_fn.ensures.items (λ i y q l r. (search rules, search rules))
