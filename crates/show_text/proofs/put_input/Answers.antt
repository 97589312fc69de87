-- `put_input` stores the text, which has room. Assumes nothing.
use mathlib.Core.Path.{◌≡◌, ap, ◌∙◌}
use native.Mathlib.Omega.{arith}
use lib.ListN.{length}
use Rattle.base.proofs.Put.{same}
use Rattle.base.proofs.StoringLaws.{fitted}
use Rattle.show_text.specs.Text.{text_of_input}
use Rattle.show_text.proofs.Lengths.{length-text_of_input}
use Rattle.show_text.proofs.Writing.{whole}
use Rattle.show_text.proofs.put_input.Goals as goal

pub as_slice-requires : goal.as_slice-requires
as_slice-requires c = c.add_input.ensures.inside (omega (arith, c.new-text.ensures.len))

pub returns : goal.returns
returns c =
    let a = c.args in
    let small = length-text_of_input a.start.now (λ i. (c.type_inv.start i).fits) a.count in
    let e : c.as_slice.result.now ≡ text_of_input a.start.now a.count =
    c.as_slice.ensures ∙ whole c.new-text.ensures.len small c.add_input.ensures in
    same e (fitted c.put.ensures (omega (arith, ap length e)))
