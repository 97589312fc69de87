-- `join_accept_refusal` meets its contract: each way out is that of its tests.
-- Assumes nothing.
use mathlib.Core.Path.{sym, ◌∙◌}
use borrow.Author.Tests.{lt-ltb, le-ltb}
use Rattle.frame_build.specs.JoinBuilding.{join_accept_refusal_of}
use Rattle.frame_build.proofs.creator.join.join_accept_refusal.Goals as goal

pub returns-then-channels-gt5 : goal.returns-then-channels-gt5
unfolding join_accept_refusal_of
returns-then-channels-gt5 c = simp (c.of.ensures, c.if-j.true, lt-ltb _ _ c.if-channels-gt5.true)

pub returns-then-too_high : goal.returns-then-too_high
unfolding join_accept_refusal_of
returns-then-too_high c = simp (c.of-then-too_high.ensures, c.if-j.true, le-ltb _ _ c.if-channels-gt5.false, (sym c.too_high.ensures ∙ c.if-too_high.true))

pub returns-then-room-lt-JOIN_ACCEPT_WITH_CFLIST_LEN : goal.returns-then-room-lt-JOIN_ACCEPT_WITH_CFLIST_LEN
unfolding join_accept_refusal_of
returns-then-room-lt-JOIN_ACCEPT_WITH_CFLIST_LEN c = simp (c.of-then-room-lt-JOIN_ACCEPT_WITH_CFLIST_LEN.ensures, c.if-j.true, le-ltb _ _ c.if-channels-gt5.false, (sym c.too_high.ensures ∙ c.if-too_high.false), lt-ltb _ _ c.if-room-lt-JOIN_ACCEPT_WITH_CFLIST_LEN.true)

pub returns-then-j : goal.returns-then-j
unfolding join_accept_refusal_of
returns-then-j c = simp (c.if-j.true, le-ltb _ _ c.if-channels-gt5.false, (sym c.too_high.ensures ∙ c.if-too_high.false), le-ltb _ _ c.if-room-lt-JOIN_ACCEPT_WITH_CFLIST_LEN.false)

pub returns-then-room-lt-JOIN_ACCEPT_LEN : goal.returns-then-room-lt-JOIN_ACCEPT_LEN
unfolding join_accept_refusal_of
returns-then-room-lt-JOIN_ACCEPT_LEN c = simp (c.of-then-room-lt-JOIN_ACCEPT_LEN.ensures, c.if-j.false, lt-ltb _ _ c.if-room-lt-JOIN_ACCEPT_LEN.true)

pub returns : goal.returns
unfolding join_accept_refusal_of
returns c = simp (c.if-j.false, le-ltb _ _ c.if-room-lt-JOIN_ACCEPT_LEN.false)
