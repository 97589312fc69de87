-- `amend_all_inside` stores each byte and signs anew once. Assumes nothing.
use Prim.Native.Nat.{ℕ, ◌+◌, ◌-◌, ◌≤◌, ◌<◌}
use mathlib.Core.Path.{◌≡◌, sym, ap, subst}
use mathlib.Core.Bool.{true}
use mathlib.Core.List.{List}
use native.Mathlib.Omega.{arith}
use borrow.Author.Rules.{rules}
use lib.ListN.{length}
use Rattle.frame.specs.Layout.{payload_start_of}
use Rattle.amend.specs.declared.amending.Open.{Open}
use Rattle.amend.specs.Amending.{payload_length_of}
use Rattle.amend.specs.SignedOnce.{all_inside_of}
use Rattle.amend.proofs.ListTurns.{lowest_most, stored_by}
use Rattle.amend.proofs.SignedOnce.{start_inside, inside_frame, list_is}
use Rattle.amend.proofs.list.amend_all_inside.Goals as goal

-- the payload has a byte, ahead of the MIC
record Within (s : Open) (start : ℕ) : Type 0 where
  pub byte : start < s.length - 4
  pub most : s.length ≤ 255

within : (s : Open) (es : List ℕ) → all_inside_of (payload_length_of s) es ≡ true → 0 < length es → {start : ℕ}
    → start ≡ payload_start_of s.frame → Within s start
within s es all some e =
    let both = start_inside s es all some in record { byte = omega (arith, both.0, e); most = both.1 }

pub overflow_sub-end : goal.overflow_sub-end
overflow_sub-end c =
    let w = within c.args.state.now c.args.amendments.now c.requires.0 c.requires.1 (ap (λ (n : ℕ). n + 2) c.fhdr_length-start.ensures) in
    omega (arith, w.byte)

pub overflow_sub-end-2 : goal.overflow_sub-end-2
overflow_sub-end-2 c =
    let w = within c.args.state.now c.args.amendments.now c.requires.0 c.requires.1 (ap (λ (n : ℕ). n + 2) c.fhdr_length-start.ensures) in
    omega (arith, w.byte)

pub lowest_place-low-requires : goal.lowest_place-low-requires
lowest_place-low-requires c =
    let w = within c.args.state.now c.args.amendments.now c.requires.0 c.requires.1 (ap (λ (n : ℕ). n + 2) c.fhdr_length-start.ensures) in
    omega (arith, w.byte, w.most)

pub store_under-requires : goal.store_under-requires
store_under-requires c =
    let s = c.args.state.now in
    let es = c.args.amendments.now in
    let place : c.fhdr_length-start.result + 2 ≡ payload_start_of s.frame = ap (λ (n : ℕ). n + 2) c.fhdr_length-start.ensures in
    let w = within s es c.requires.0 c.requires.1 place in
    let long : length s.frame ≡ 255 = search rules in (
      omega arith,
      omega (arith, w.byte, w.most),
      subst (λ (n : ℕ). all_inside_of (length s.frame - n) es ≡ true) (sym place) (inside_frame s es c.requires.0 c.requires.1 long),
    )

pub resign-requires : goal.resign-requires
resign-requires c =
    let s = c.args.state.now in
    let es = c.args.amendments.now in
    let place : c.fhdr_length-start.result + 2 ≡ payload_start_of s.frame = ap (λ (n : ℕ). n + 2) c.fhdr_length-start.ensures in
    let w = within s es c.requires.0 c.requires.1 place in
    let most = lowest_most (c.fhdr_length-start.result + 2) (s.length - 4 - 1) es in
    let long : length s.frame ≡ 255 = search rules in (
      omega (arith, c.lowest_place-low.ensures, most, w.byte),
      omega (arith, c.store_under.auto.frame, w.most, w.byte),
      search rules,
      omega (arith, w.most),
    )

pub returns : goal.returns
returns c =
    let s = c.args.state.now in
    let es = c.args.amendments.now in
    let place : c.fhdr_length-start.result + 2 ≡ payload_start_of s.frame = ap (λ (n : ℕ). n + 2) c.fhdr_length-start.ensures in
    let frame_long : length s.frame ≡ 255 = search rules in
    let chains_long : length s.chains ≡ 256 = search rules in
    list_is s es
    (record { chains = chains_long; frame = frame_long; most = (within s es c.requires.0 c.requires.1 place).most })
    c.requires.0 c.requires.1
    c.payload_length-count.result
    (c.fhdr_length-start.result + 2)
    c.lowest_place-low.result
    c.payload_length-count.ensures
    place
    c.lowest_place-low.ensures
    (stored_by s.frame s.counter (c.fhdr_length-start.result + 2) es c.start_of-first.ensures c.payload_schedule-schedule.ensures
    c.store_under.ensures)
    c.resign.ensures.frame_after
    c.resign.ensures.chains_after
