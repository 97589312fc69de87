-- `cmac::xored` meets its contract: each call gives the sum at its place. Assumes nothing.
use mathlib.Core.Path.{sym, ◌∙◌}
use borrow.Author.Rules.{rules}
use Rattle.base.specs.Bytes.{at, ◌⊕◌}
use Rattle.base.proofs.Parts.{xor_lists-tab}
use Rattle.aes.proofs.Made.{made}
use Rattle.cmac.proofs.blocks.xored.Goals as goal

pub returns : goal.returns
returns c =
    let a = c.args.a in
    let b = c.args.b.now in
    made (λ i. at a i ⊕ at b i) 16 c.from_fn.result c.from_fn.ensures.items (λ i y q l r. (search rules, search rules))
    ∙ sym (xor_lists-tab 16 a b (search rules) (search rules))
