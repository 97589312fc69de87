-- What `describe_input` answers lies within its buffer.
-- Assumes nothing.
use Rattle.show_text.proofs.Described.{within, cut}
use Rattle.show.proofs.main.Goals as goal

pub slice_bounds-out-end : goal.slice_bounds-out-end
slice_bounds-out-end c =
    let told = c.describe_input-text.ensures in rw c.unwrap_or.ensures (within _ _ (told.value, told.out_after))

pub slice_bounds-write_all-end : goal.slice_bounds-write_all-end
slice_bounds-write_all-end c =
    let told = c.describe_input-text.ensures in rw c.unwrap_or.ensures (cut _ _ (told.value, told.out_after))
