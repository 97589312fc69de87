-- The frame taken out of a buffer, by its length and the bytes that were stored.
-- Assumes nothing.
use Rattle.std.specs.Prelude.{Ok, Err, Result}
use mathlib.Core.Path.{◌≡◌, sym, ap, ◌∙◌}
use mathlib.Core.Bool.{Bool}
use mathlib.Core.List.{List}
use Prim.Native.Nat.{ℕ, ◌≤◌, ◌<◌}
use lib.Dec.{leb}
use lib.ListN.{length, take}
use lib.Seq.{sets, take-take}
use borrow.Author.Tests.{le-leb, lt-leb}
use Rattle.base.specs.Bytes.{pick, at, part}
use Rattle.frame.specs.Refusals.{refused}
use Rattle.frame.specs.declared.refusals.Refusal.{Refusal}
use Rattle.amend_held.specs.HeldBuffer.{loaded_open}
use Rattle.amend_held.specs.HeldCalls.{taken_of, taken_into}

-- the frame that the buffer b holds, taken out into l
module _ (b l : List ℕ) (n : ℕ) (e : n ≡ at b 255) where
  abbrev answer : Bool → Result ℕ Refusal
  answer t = pick t (Ok n) (Err (refused 7))

  abbrev output : Bool → List ℕ
  output t = pick t (sets l 0 (take n (part 0 255 b))) l

  by_length : (t : Bool) → leb n (length l) ≡ t
      → (answer t ≡ taken_of (loaded_open b) (length l)) × (output t ≡ taken_into (loaded_open b) l)
  unfolding taken_of taken_into loaded_open
  by_length t h = (
    sym (ap answer h) ∙ ap (λ (m : ℕ). pick (leb m (length l)) (Ok m) (Err (refused 7))) e,
    sym (ap output h) ∙ ap (λ (m : ℕ). pick (leb m (length l)) (sets l 0 (take m (part 0 255 b))) l) e,
  )

  pub taken_short : length l < n
      → (Err (refused 7) ≡ taken_of (loaded_open b) (length l)) × (l ≡ taken_into (loaded_open b) l)
  taken_short h = by_length _ (lt-leb n (length l) h)

  pub taken_whole : {o : List ℕ} → n ≤ length l → n ≤ 255 → o ≡ sets l 0 (take n b)
      → (Ok n ≡ taken_of (loaded_open b) (length l)) × (o ≡ taken_into (loaded_open b) l)
  taken_whole h small q =
      let both = by_length _ (le-leb n (length l) h) in
      (both.0, q ∙ ap (sets l 0) (sym (take-take n 255 b small)) ∙ both.1)
