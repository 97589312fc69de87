-- What `describe` answers lies within its buffer.
-- Assumes nothing.
use Rattle.show_text.proofs.Described.{within, cut}
use Rattle.show_cases.proofs.show_frame.Goals as goal

pub slice_bounds-text-end : goal.slice_bounds-text-end
slice_bounds-text-end g c =
    let told = c.describe-described.ensures in rw c.unwrap_or.ensures (within _ _ (told.value, told.out_after))

pub slice_bounds-write_all-end : goal.slice_bounds-write_all-end
slice_bounds-write_all-end g c =
    let told = c.describe-described.ensures in rw c.unwrap_or.ensures (cut _ _ (told.value, told.out_after))
