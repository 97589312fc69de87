-- `mask_at` takes its byte out of the key stream's block. Assumes nothing.
use mathlib.Core.Path.{ap, ◌∙◌}
use mathlib.Core.List.{List}
use Prim.Native.Nat.{ℕ, ◌%◌}
use Rattle.base.specs.Bytes.{at}
use Rattle.frame_security.specs.Security.{stream_block_of, stream_at}
use Rattle.frame_security.proofs.SecurityLaws.{stream_block_of_start}
use Rattle.amend.proofs.amending.mask_at.Goals as goal

pub returns : goal.returns
unfolding stream_at
returns c =
    let args = c.args in
    let ks = args.schedule.now in
    ap (λ (s : List ℕ). at s (args.k % 16))
    (c.stream_block-stream.ensures
    ∙ ap (λ (s : List ℕ). stream_block_of ks s args.counter args.k) c.start_of-start.ensures
    ∙ stream_block_of_start ks args.frame.now args.counter args.k)
