-- `cmac::Cmac::update` meets its contract: what fits into the open block is taken in first, then the rest. Assumes nothing.
use mathlib.Core.Path.{◌≡◌, sym, subst, ap, ap₂, ◌∙◌}
use mathlib.Core.List.{List}
use Prim.Native.Nat.{ℕ, ◌-◌, ◌<◌, ◌≤◌, min}
use native.Mathlib.Omega.{arith}
use lib.ListN.{length, take, drop, take-append-drop}
use Rattle.cmac.specs.declared.Cmac.{Cmac}
use Rattle.cmac.specs.Running.{absorbed}
use Rattle.cmac.proofs.Turns.{absorb_append, full_then}
use Rattle.cmac.proofs.Cmac.update.Goals as goal

pub push_blocks-requires : goal.push_blocks-requires
push_blocks-requires c = λ h.
    let p = c.args.part.now in
    let n = c.min.result in
    let room : n ≡ min (16 - c.args.self.filled) (length p) = omega arith in
    let first = c.push_each.ensures ∙ ap (absorbed c.args.self) c.split_at.ensures.front in
    subst (λ (s : Cmac). 16 ≤ s.filled) (sym first)
    (full_then c.args.self p n room (subst (λ (t : List ℕ). 0 < length t) c.split_at.ensures.back h))

pub returns : goal.returns
returns c =
    let s = c.args.self in
    let p = c.args.part.now in
    let n = c.min.result in
    let first = c.push_each.ensures ∙ ap (absorbed s) c.split_at.ensures.front in
    c.push_blocks.ensures
    ∙ ap₂ absorbed first c.split_at.ensures.back
    ∙ sym (absorb_append s (take n p) (drop n p))
    ∙ ap (absorbed s) (take-append-drop n p)
