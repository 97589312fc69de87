-- `view::parts::field_place` meets its contract: its tests are those by which the definition picks.
-- Assumes nothing.
use borrow.Author.Tests.{eq-eqb, ne_eqb}
use Rattle.view.specs.Parts.{field_place_of}
use Rattle.view.proofs.parts.field_place.Goals as goal

pub returns-then-numbers-eq1 : goal.returns-then-numbers-eq1
unfolding field_place_of
returns-then-numbers-eq1 c = simp (eq-eqb _ _ c.if-numbers-eq1.true) c.join_place.ensures

pub returns-then-numbers-eq3 : goal.returns-then-numbers-eq3
unfolding field_place_of
returns-then-numbers-eq3 c = simp (ne_eqb _ _ c.if-numbers-eq1.false, eq-eqb _ _ c.if-numbers-eq3.true) c.data_place.ensures

pub returns : goal.returns
unfolding field_place_of
returns c = simp (ne_eqb _ _ c.if-numbers-eq1.false, ne_eqb _ _ c.if-numbers-eq3.false)
