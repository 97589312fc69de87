-- `frame::join_fields::cf_list` meets its contract. Its tests are the definition's.
-- Assumes nothing.
use Rattle.std.proofs.Common.{Some, ap, ◌∙◌, arith}
use Rattle.base.proofs.StoringLaws.{run_inside}
use borrow.Author.Tests.{eq-eqb, ne_eqb}
use Rattle.frame.specs.JoinFields.{cf_list_of}
use Rattle.frame.specs.declared.join_fields.CfList.TheVariants.{Frequencies, Masks}
use Rattle.frame.proofs.join_fields.cf_list.Goals as goal

pub returns-then-frame-eq0 : goal.returns-then-frame-eq0
unfolding cf_list_of
returns-then-frame-eq0 c =
    simp (eq-eqb _ _ c.if-frame-eq-JOIN_ACCEPT_WITH_CFLIST_LEN.true, eq-eqb _ _ c.if-frame-eq0.true)
    (ap (λ q. Some (Frequencies q)) c.five_frequencies.ensures)

pub returns-then-frame-eq1 : goal.returns-then-frame-eq1
unfolding cf_list_of
returns-then-frame-eq1 c =
    simp (eq-eqb _ _ c.if-frame-eq-JOIN_ACCEPT_WITH_CFLIST_LEN.true, ne_eqb _ _ c.if-frame-eq0.false, eq-eqb _ _ c.if-frame-eq1.true)
    (ap (λ m. Some (Masks m)) (c.run_at.ensures ∙ run_inside 9 c.args.frame.now 13 (omega (arith, c.if-frame-eq-JOIN_ACCEPT_WITH_CFLIST_LEN.true))))

pub returns-else-frame-eq1 : goal.returns-else-frame-eq1
unfolding cf_list_of
returns-else-frame-eq1 c = simp (eq-eqb _ _ c.if-frame-eq-JOIN_ACCEPT_WITH_CFLIST_LEN.true, ne_eqb _ _ c.if-frame-eq0.false, ne_eqb _ _ c.if-frame-eq1.false)

pub returns-else-frame-eq-JOIN_ACCEPT_WITH_CFLIST_LEN : goal.returns-else-frame-eq-JOIN_ACCEPT_WITH_CFLIST_LEN
unfolding cf_list_of
returns-else-frame-eq-JOIN_ACCEPT_WITH_CFLIST_LEN c = simp (ne_eqb _ _ c.if-frame-eq-JOIN_ACCEPT_WITH_CFLIST_LEN.false)
