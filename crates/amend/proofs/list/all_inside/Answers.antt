-- `all_inside` is std's test of all elements. Assumes nothing.
use Prim.Native.Nat.{ℕ, ◌/◌, ◌<◌}
use borrow.Author.Rules.{rules}
use Rattle.std.specs.Prelude.{IsTrue, ◌↔◌, All}
use Rattle.std.proofs.iter.runs.Made.{chains}
use Rattle.amend.proofs.ListTurns.{inside_all}
use Rattle.amend.proofs.list.all_inside.Goals as goal

pub returns : goal.returns
returns c =
    let n = c.args.count in
    let e : IsTrue c.all.result ↔ All (λ (e : ℕ). e / 256 < n) c.args.amendments.now = search (rules, chains) in
    inside_all c.all.result n c.args.amendments.now e
