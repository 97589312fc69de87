-- `lowest_place` is std's fold of the places. Assumes nothing.
use Prim.Native.Nat.{ℕ, ◌+◌, ◌/◌, min}
use mathlib.Core.Path.{◌≡◌, ◌∙◌}
use borrow.Author.Rules.{rules}
use Rattle.std.specs.List.{fold}
use Rattle.std.proofs.iter.runs.Made.{chains}
use Rattle.amend.proofs.ListTurns.{lowest_fold}
use Rattle.amend.proofs.list.lowest_place.Goals as goal

pub returns : goal.returns
returns c =
    let a = c.args in
    let e : c.fold.result ≡ fold (λ (q e : ℕ). min q (a.start + e / 256)) a.top a.amendments.now = search (rules, chains) in
    e ∙ lowest_fold a.start a.top a.amendments.now
