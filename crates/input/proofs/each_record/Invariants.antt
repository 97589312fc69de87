-- What was lent keeps its length.
-- Assumes nothing.
use Rattle.std.proofs.Common.{length, ◌≡◌}
use Rattle.input.proofs.each_record.Given as goal

abbrev pub invariant-loop-answered : goal.invariant-loop-answered
invariant-loop-answered g l = (length l.prefix ≡ length l.initial.prefix) × (length l.room ≡ length l.initial.room)
