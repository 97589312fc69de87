-- The text in a lent buffer: written from its start on it is what the definitions say, and a buffer that is too short
-- is left as it is. And the text of an input is told by its length and its first 256 bytes.
-- Assumes nothing.
use Rattle.std.specs.Prelude.{Result, Ok, Err}
use Rattle.std.specs.Result.{result_unwrap_or}
use mathlib.Core.Path.{◌≡◌, refl, sym, ap, ◌∙◌}
use mathlib.Core.List.{List, ◌++◌}
use Prim.Native.Nat.{ℕ, ◌≤◌}
use native.Mathlib.Nat.{zero-add}
use native.Mathlib.Omega.{arith}
use lib.ListN.{length, take, drop, length-append}
use lib.Seq.{length-take-le, take_all}
use borrow.Author.Tests.{lt-ltb, le-ltb}
use Rattle.base.proofs.Cases.{by_order}
use Rattle.base.specs.Storing.{Put}
use Rattle.base.proofs.Put.{put_front}
use Rattle.frame.specs.declared.refusals.Refusal.{Refusal}
use Rattle.frame.specs.Refusals.{refused}
use Rattle.frame.proofs.ReadingSteps.{too_long}
use Rattle.show_text.specs.Text.{text_of_reading, text_of, text_of_input, described_of, described_in}

abbrev pub Described : List ℕ → List ℕ → Result ℕ Refusal → List ℕ → Type 0
Described text out r e = (r ≡ described_of text out) × (e ≡ described_in text out)

pub written : {text : List ℕ} (out : List ℕ) {r : ℕ} {e : List ℕ} → length text ≤ 128 → 128 ≤ length out → Put out 0 text r e
    → Described text out (Ok r) e
unfolding described_of described_in
written {text} out {r} {e} k h p = (
  simp (le-ltb _ _ h) (ap Ok (p.next ∙ zero-add (length text))),
  simp (le-ltb _ _ h) (put_front p (omega arith)),
)

-- the text lies within the buffer as it is afterwards; none where it was refused
pub within : (text out : List ℕ) {r : Result ℕ Refusal} {e : List ℕ} → Described text out r e → result_unwrap_or r 0 ≤ length e
unfolding described_of described_in
within text out {r} {e} h =
    by_order 128 (length out)
    (λ k.
    let n : r ≡ Ok (length text) = simp (le-ltb _ _ k) at h.0 in
    let m : result_unwrap_or r 0 ≡ length text = ap (λ (d : Result ℕ Refusal). result_unwrap_or d 0) n in
    let l : e ≡ text ++ drop (length text) out = simp (le-ltb _ _ k) at h.1 in
    omega (arith, simp length-append at (ap length l)))
    (λ k.
    let n : r ≡ Err (refused 7) = simp (lt-ltb _ _ k) at h.0 in
    let m : result_unwrap_or r 0 ≡ 0 = ap (λ (d : Result ℕ Refusal). result_unwrap_or d 0) n in
    omega arith)

-- so what is cut off the buffer for it has its length
pub cut : (text out : List ℕ) {r : Result ℕ Refusal} {e : List ℕ} → Described text out r e
    → result_unwrap_or r 0 ≡ length (take (result_unwrap_or r 0) e)
cut text out {r} {e} h = sym (length-take-le (result_unwrap_or r 0) e (within text out h))

-- ---- the start of an input, and its length

-- what stands in the place of an input gives its text, if it is the input wherever that has at most 255 bytes: so a program may
-- overwrite what it kept of a longer one
pub same_text : (s f : List ℕ) → (length f ≤ 255 → s ≡ f) → text_of_input s (length f) ≡ text_of f
unfolding text_of_input text_of text_of_reading
same_text s f h =
    by_order (length f) 255 (λ k. simp (le-ltb _ _ k) (ap text_of (h k)))
    (λ k. simp (lt-ltb _ _ k) (ap (text_of_reading f) (sym (too_long f k))))

pub whole_text : (f : List ℕ) → text_of_input f (length f) ≡ text_of f
whole_text f = same_text f f (λ k. refl)

-- so the first 256 bytes of an input and its length give the text of all of it
pub start_text : (f : List ℕ) → text_of_input (take 256 f) (length f) ≡ text_of f
start_text f = same_text (take 256 f) f (λ k. take_all 256 f (omega arith))
