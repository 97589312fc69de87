-- `aes::columns::by_columns` meets its contract: each call of `row` is at the four bytes of a column. Assumes nothing.
use mathlib.Core.Path.{ap, ◌∙◌}
use mathlib.Core.List.{List}
use Prim.Native.Nat.{ℕ}
use borrow.Author.Rules.{rules}
use Rattle.base.specs.Bytes.{at}
use Rattle.base.proofs.Tab.{at-tab}
use Rattle.aes.specs.Fips197.{below}
use Rattle.aes.proofs.Made.{each_made}
use Rattle.aes.proofs.columns.by_columns.Goals as goal

pub returns-clause-rows : goal.returns-clause-rows
returns-clause-rows g c =
    let s = c.args.s in
    let post = goal.F-post g c.args.row in
    each_made (λ i y. post (at s i) (at s (below i 1)) (at s (below i 2)) (at s (below i 3)) y) 16 c.from_fn.result c.from_fn.ensures.items
    (λ i y q l r.
    let called : post (at s i) (at c.rows_up-b.result i) (at c.rows_up-c.result i) (at c.rows_up-d.result i) y = search rules in
    let b = ap (λ (t : List ℕ). at t i) c.rows_up-b.ensures ∙ at-tab 16 (λ j. at s (below j 1)) i l in
    let e = ap (λ (t : List ℕ). at t i) c.rows_up-c.ensures ∙ at-tab 16 (λ j. at s (below j 2)) i l in
    let f = ap (λ (t : List ℕ). at t i) c.rows_up-d.ensures ∙ at-tab 16 (λ j. at s (below j 3)) i l in
    (rw (b, e, f) at called, search rules))
