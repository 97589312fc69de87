-- `too_high` meets its contract: whether any channel is too high is the test of each of them.
-- Assumes nothing.
use mathlib.Core.Path.{◌∙◌}
use Prim.Native.Nat.{ℕ}
use lib.Dec.{ltb}
use borrow.Author.Rules.{rules}
use borrow.Author.Tests.{tests}
use Rattle.std.proofs.lemmas.Iterator.{YieldsList-from_slice}
use Rattle.std.proofs.lemmas.Iterator.Search.{any_from_yields_List}
use Rattle.frame_build.proofs.JoinBodies.{any_high}
use Rattle.frame_build.proofs.creator.join.too_high.Goals as goal

pub returns : goal.returns
returns c =
    any_from_yields_List (λ (x : ℕ). ltb 16777215 x) _ _ _ c.any.ensures.ran (YieldsList-from_slice c.args.channels.now cc)
    (λ x b q k. search (rules, tests))
    ∙ any_high c.args.channels.now
