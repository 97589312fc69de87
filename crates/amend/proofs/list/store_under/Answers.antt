-- `store_under` stores one byte a turn; what is still to be stored gives the same. Assumes nothing.
use Prim.Native.Nat.{ℕ, ◌+◌, ◌-◌, ◌/◌, ◌%◌}
use mathlib.Core.Path.{refl, sym, ◌∙◌}
use native.Mathlib.Omega.{arith}
use lib.ListN.{length, length-set}
use Rattle.base.specs.Bytes.{at}
use Rattle.amend.proofs.ListTurns.{none_in_hand, stream_in_hand, there, Ready, made, kept, same_block, stored_on, stored_end}
use Rattle.amend.proofs.list.store_under.Goals as goal
use Rattle.amend.proofs.list.store_under.Goals.{then-ne, else-ne}

pub loop-a-init : goal.loop-a-init
loop-a-init c =
    let a = c.args in
    record { long = refl; in_hand = none_in_hand a.schedule.now a.first a.counter _; inside = c.requires.2; same = refl }

pub bounds-frame-start : goal.bounds-frame-start
bounds-frame-start c =
    let a = c.args in
    let i = c.loop-a.invariant in
    let t = there a.amendments.now c.loop-a.a-index (omega arith) (length a.frame.now - a.start) (omega arith) i.inside in
    omega (arith, t.here, i.long)

pub loop-a-preserved : goal.loop-a-preserved
loop-a-preserved c =
    let a = c.args in
    let es = a.amendments.now in
    let l = c.loop-a in
    let i = l.invariant in
    let k : ℕ = at es l.a-index / 256 in
    let t = there es l.a-index (omega arith) (length a.frame.now - a.start) (omega arith) i.inside in
    let ks = a.schedule.now in
    let ready : Ready ks a.first a.counter k c.if-ne.held c.if-ne.stream =
    elim c.if-ne.branch [
      | then-ne w ↦ made w.held-is (w.stream-is ∙ w.stream_block-stream.ensures)
      | else-ne w ↦ kept i.in_hand (same_block _ _ (sym c.ne.ensures ∙ w.if-ne.false)) w.held-is w.stream-is
    ] in
    record {
      long = length-set l.frame (a.start + k) _ ∙ i.long;
      in_hand = ready.hand;
      inside = t.rest;
      same =
          stored_on es l.a-index (omega arith) ks a.first a.counter a.start l.frame
          (stream_in_hand ks a.first a.counter (at es l.a-index % 256) k c.if-ne.held c.if-ne.stream ready.hand t.least ready.its)
          ∙ i.same;
    }

pub returns : goal.returns
returns c =
    let a = c.args in
    stored_end a.amendments.now c.loop-a.a-index (omega arith) a.schedule.now a.first a.counter a.start c.loop-a.frame
    ∙ c.loop-a.invariant.same
