-- `amend_list` tests every offset; where all lie inside it is `amend_all_inside`. Assumes nothing.
use Rattle.std.specs.Prelude.{Err}
use Prim.Native.Nat.{ℕ}
use mathlib.Core.Path.{◌≡◌, sym, ap, ◌∙◌}
use borrow.Author.Rules.{rules}
use Rattle.amend.specs.Amending.{Amended, payload_length_of}
use Rattle.amend.specs.SignedOnce.{all_inside_of}
use Rattle.amend.proofs.SignedOnce.{list_none, list_inside, list_outside}
use Rattle.amend.proofs.list.amend_list.Goals as goal

-- an empty list
pub returns-then-is_empty : goal.returns-then-is_empty
returns-then-is_empty c =
    let is = list_none c.args.state.now c.args.amendments.now (search rules) in
    record { value = sym (ap (λ (a : Amended). a.answer) is); state_after = sym (ap (λ (a : Amended). a.state) is) }

-- an offset outside
pub returns-then-not-all_inside : goal.returns-then-not-all_inside
returns-then-not-all_inside c =
    let s = c.args.state.now in
    let es = c.args.amendments.now in
    let tested : all_inside_of (payload_length_of s) es ≡ c.all_inside.result =
    sym (c.all_inside.ensures ∙ ap (λ (n : ℕ). all_inside_of n es) c.payload_length-count.ensures) in
    let is = list_outside s es (tested ∙ c.if-not-all_inside.true) in
    record {
      value = ap Err c.of.ensures ∙ sym (ap (λ (a : Amended). a.answer) is);
      state_after = sym (ap (λ (a : Amended). a.state) is);
    }

-- every offset inside, and there is one
pub amend_all_inside-requires : goal.amend_all_inside-requires
amend_all_inside-requires c =
    let s = c.args.state.now in
    let es = c.args.amendments.now in
    let tested : all_inside_of (payload_length_of s) es ≡ c.all_inside.result =
    sym (c.all_inside.ensures ∙ ap (λ (n : ℕ). all_inside_of n es) c.payload_length-count.ensures) in
    (tested ∙ c.if-not-all_inside.false, search rules)

pub returns : goal.returns
returns c =
    let s = c.args.state.now in
    let es = c.args.amendments.now in
    let tested : all_inside_of (payload_length_of s) es ≡ c.all_inside.result =
    sym (c.all_inside.ensures ∙ ap (λ (n : ℕ). all_inside_of n es) c.payload_length-count.ensures) in
    let is = list_inside s es (tested ∙ c.if-not-all_inside.false) in
    record {
      value = sym (ap (λ (a : Amended). a.answer) is);
      state_after = c.amend_all_inside.ensures ∙ sym (ap (λ (a : Amended). a.state) is);
    }
