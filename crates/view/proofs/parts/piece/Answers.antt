-- `view::parts::piece` meets its contract: its two tests are those by which the definition picks.
-- Assumes nothing.
use borrow.Author.Tests.{lt-ltb, le-ltb}
use Rattle.view.specs.Parts.{piece_of}
use Rattle.view.proofs.parts.piece.Goals as goal

pub returns-then-end-start : goal.returns-then-end-start
unfolding piece_of
returns-then-end-start c = simp (lt-ltb _ _ c.if-end-start.true)

pub returns-then-bytes-end : goal.returns-then-bytes-end
unfolding piece_of
returns-then-bytes-end c = simp (le-ltb _ _ c.if-end-start.false, lt-ltb _ _ c.if-bytes-end.true)

pub returns : goal.returns
unfolding piece_of
returns c = simp (le-ltb _ _ c.if-end-start.false, le-ltb _ _ c.if-bytes-end.false)
