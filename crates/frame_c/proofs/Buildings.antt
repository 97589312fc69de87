-- A building's promise, with its answer as a number; and the kinds of data frame: any other number is refused before
-- anything is built.
-- Assumes nothing.
use Rattle.frame.specs.declared.refusals.Refusal.{Refusal}
use Rattle.std.specs.Prelude.{Err, Ok, Result}
use mathlib.Core.Path.{◌≡◌, sym, ap, ◌∙◌}
use mathlib.Core.Bool.{Bool, false}
use mathlib.Core.List.{List, ◌++◌}
use Prim.Native.Nat.{ℕ, ◌<◌, ◌≤◌}
use lib.Dec.{eqb}
use lib.ListN.{length, drop}
use borrow.Author.Tests.{lt-ltb, le-ltb}
use Rattle.base.specs.Bytes.{pick}
use Rattle.frame.specs.Refusals.{refused}
use Rattle.frame_build.specs.DataBuilding.{data_refusal_of}
use Rattle.frame_build.specs.DataFrames.{built_of, out_of, Builds as BuildsFrame}
use Rattle.frame_build.specs.declared.creator.data_frame.DataParts.{DataParts}
use Rattle.frame.specs.PackedReading.{numbered}
use Rattle.frame_c.specs.CAnswers.{value_answer_of, BuildsInC}
use Rattle.frame_c.specs.CGiven.{data_refused}

-- what was built of equal parts
pub made : {n m : ℕ} {f g l e : List ℕ} {b : Result ℕ Refusal} {r : ℕ} → BuildsFrame n f l b e → n ≡ m → f ≡ g → r ≡ value_answer_of b
    → BuildsInC m g l r e
made {n} {m} {f} {g} {l} {e} {b} {r} p q s a =
    record {
      answer =
          a ∙ ap value_answer_of p.answer ∙ ap (λ (k : ℕ). value_answer_of (built_of k (length f))) q
          ∙ ap (λ (h : List ℕ). value_answer_of (built_of m (length h))) s;
      output = p.output ∙ ap (λ (k : ℕ). out_of k f l) q ∙ ap (λ (h : List ℕ). out_of m h l) s;
    }

-- a refusal by a number that is not 0, which changes nothing
pub refused_kind : (k : ℕ) {n : ℕ} {f l : List ℕ} {r : ℕ} → eqb k 0 ≡ false → n ≡ k → r ≡ numbered k 0 → BuildsInC n f l r l
refused_kind k {n} {f} {l} {r} z q a =
    record {
      answer =
          a ∙ ap (λ (t : Bool). value_answer_of (pick t (Ok (length f)) (Err (refused k)))) (sym z)
          ∙ ap (λ (m : ℕ). value_answer_of (built_of m (length f))) (sym q);
      output = ap (λ (t : Bool). pick t (f ++ drop (length f) l) l) (sym z) ∙ ap (λ (m : ℕ). out_of m f l) (sym q);
    }

pub below_data : (k : ℕ) (d : DataParts) (cs p : List ℕ) (n : ℕ) → k < 2 → data_refused k d cs p n ≡ 4
unfolding data_refused
below_data k d cs p n h = simp (lt-ltb _ _ h)

pub above_data : (k : ℕ) (d : DataParts) (cs p : List ℕ) (n : ℕ) → 2 ≤ k → 5 < k → data_refused k d cs p n ≡ 3
unfolding data_refused
above_data k d cs p n l h = simp (le-ltb _ _ l, lt-ltb _ _ h)

pub of_data : (k : ℕ) (d : DataParts) (cs p : List ℕ) (n : ℕ) → 2 ≤ k → k ≤ 5
    → data_refused k d cs p n ≡ data_refusal_of d cs p n
unfolding data_refused
of_data k d cs p n l h = simp (le-ltb _ _ l, le-ltb _ _ h)
