-- `amend_inside` sets the encrypted byte and signs anew. Assumes nothing.
use Prim.Native.Nat.{ℕ, ◌+◌}
use mathlib.Core.Path.{◌≡◌, ap, ◌∙◌}
use mathlib.Core.List.{List}
use native.Mathlib.Omega.{arith}
use Rattle.frame_security.specs.Security.{stream_at, payload_key_of}
use Rattle.amend.specs.Amending.{schedule}
use borrow.Author.Rules.{rules}
use lib.ListN.{length, length-set}
use Rattle.base.specs.Bytes.{◌⊕◌}
use Rattle.amend.proofs.Within.{amended_is}
use Rattle.amend.proofs.amending.Open.amend_inside.Goals as goal

pub resign-requires : goal.resign-requires
resign-requires c =
    let long : length c.args.self.now.frame ≡ 255 = search rules in
    let place = c.fhdr_length.ensures in
    let inside = c.requires in
    (omega arith, simp length-set (omega arith), search rules, omega arith)

pub returns : goal.returns
returns c =
    let args = c.args in
    let made = c.resign.ensures in
    let state = args.self.now in
    let schedule_is : c.payload_schedule-schedule.result.now ≡ schedule state =
    c.payload_schedule-schedule.ensures
    ∙ ap (λ (n : ℕ). payload_key_of state.frame n state.nwk_schedule state.app_schedule) c.payload_length-count.ensures in
    amended_is state args.offset args.value (c.fhdr_length.result + 2 + args.offset)
    (args.value ⊕ c.mask_at-mask.result)
    (ap (λ (n : ℕ). n + 2 + args.offset) c.fhdr_length.ensures)
    (ap (λ (n : ℕ). args.value ⊕ n)
    (c.mask_at-mask.ensures ∙ ap (λ (ks : List ℕ). stream_at ks state.frame state.counter args.offset) schedule_is))
    made.frame_after
    made.chains_after
