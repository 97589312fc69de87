-- `amend` tests the offset; inside it is `amend_inside`. Assumes nothing.
use Rattle.std.specs.Prelude.{Err}
use Prim.Native.Nat.{ℕ, ◌<◌, ◌≤◌}
use mathlib.Core.Path.{sym, ap, ◌∙◌, subst}
use Rattle.amend.specs.Amending.{Amended}
use Rattle.amend.proofs.Within.{inside, amend_inside, amend_outside}
use Rattle.amend.proofs.amending.Open.amend.Goals as goal

pub returns-then-count-offset : goal.returns-then-count-offset
returns-then-count-offset c =
    let args = c.args in
    let is = amend_outside args.self.now args.offset args.value
    (subst (λ (n : ℕ). n ≤ args.offset) c.payload_length-count.ensures c.if-count-offset.true) in
    record {
      value = ap Err c.of.ensures ∙ sym (ap (λ (a : Amended). a.answer) is);
      state_after = sym (ap (λ (a : Amended). a.state) is);
    }

pub amend_inside-requires : goal.amend_inside-requires
amend_inside-requires c =
    let args = c.args in
    inside args.self.now args.offset (subst (λ (n : ℕ). args.offset < n) c.payload_length-count.ensures c.if-count-offset.false)

pub returns : goal.returns
returns c =
    let args = c.args in
    let is = amend_inside args.self.now args.offset args.value
    (subst (λ (n : ℕ). args.offset < n) c.payload_length-count.ensures c.if-count-offset.false) in
    record {
      value = sym (ap (λ (a : Amended). a.answer) is);
      state_after = c.amend_inside.ensures ∙ sym (ap (λ (a : Amended). a.state) is);
    }
