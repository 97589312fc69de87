-- `cmac::Cmac::push_blocks` meets its contract: at each turn what is still to be taken in gives the same. Assumes nothing.
use mathlib.Core.Path.{◌≡◌, ap, ap₂, ◌∙◌}
use mathlib.Core.List.{List}
use Prim.Native.Nat.{ℕ, ◌+◌, ◌*◌, ◌/◌}
use native.Mathlib.Omega.{arith}
use lib.ListN.{length, get_or, drop}
use Rattle.base.specs.Bytes.{xor_lists}
use Rattle.cmac.specs.Running.{running, absorbed}
use Rattle.cmac.proofs.Turns.{block_next, nth_chunk}
use Rattle.cmac.proofs.Cmac.push_blocks.Goals as goal

pub loop-block-preserved : goal.loop-block-preserved
loop-block-preserved c =
    let l = c.loop-block in
    let p = c.args.bytes.now in
    let s = l.self in
    let k = l.block-index in
    let chunks = c.as_chunks.ensures in
    let block =
    ap (λ (b : List (List ℕ)). get_or b k _) chunks.front ∙ nth_chunk (length p / 16) k p _ (omega (arith, chunks.front_len)) in
    let opened = c.xored-open.ensures ∙ ap₂ xor_lists c.encrypt_under-next.ensures block in
    let place : 16 * (k + 1) ≡ 16 * k + 16 = omega arith in
    record {
      full = λ h. omega arith;
      so_far =
          ap₂ (λ (x : List ℕ) (n : ℕ). absorbed (running s.schedule x 16) (drop n p)) opened place
          ∙ block_next s.schedule s.chain p s.filled (16 * k) (l.invariant.full (omega (arith, chunks.front_len))) (omega (arith, chunks.front_len))
          ∙ l.invariant.so_far;
    }

pub returns : goal.returns
returns c =
    let l = c.loop-block in
    let p = c.args.bytes.now in
    let chunks = c.as_chunks.ensures in
    let all : length p / 16 * 16 ≡ 16 * l.block-index = omega (arith, chunks.front_len) in
    c.push_each.ensures ∙ ap (absorbed l.self) (chunks.back ∙ ap (λ (n : ℕ). drop n p) all) ∙ l.invariant.so_far
