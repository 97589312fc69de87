-- What a building promises, from what its steps did: a refusal changes nothing; a run of bytes stored from the start of the
-- output, and sealed there, is the frame with the bytes behind it as they were.
-- Assumes nothing.
use Rattle.frame.specs.Refusals.{allowed}
use Rattle.frame.specs.declared.refusals.Refusal.{Refusal}
use Rattle.frame.proofs.Others.{refused_by, passed_by}
use Rattle.std.specs.Prelude.{Err, Ok}
use mathlib.Core.Path.{◌≡◌, refl, sym, ap, ap₂, ◌∙◌}
use mathlib.Core.Bool.{Bool, true, false}
use mathlib.Core.List.{List, ◌++◌, append_assoc}
use Prim.Native.Nat.{ℕ, ◌+◌, ◌-◌, ◌≤◌}
use native.Mathlib.Omega.{arith}
use lib.Dec.{eqb}
use lib.ListN.{length, take, drop, length-append}
use lib.Seq.{take_at, drop_at, drop-drop}
use borrow.Author.Tests.{eq-eqb, ne_eqb}
use Rattle.base.specs.Bytes.{pick, part}
use Rattle.base.specs.Storing.{Put}
use Rattle.base.proofs.Put.{put_front}
use Rattle.frame_build.specs.DataFrames.{Builds, data_frame_of}
use Rattle.frame_build.specs.DataBuilding.{body_of, data_header, data_length, clear_data}
use Rattle.frame.specs.Refusals.{refused}
use Rattle.frame_security.specs.Sealing.{sealed}
use Rattle.frame_build.specs.declared.creator.data_frame.DataParts.{DataParts}
use Rattle.frame_security.proofs.SealingLaws.{sealed_long}

pub not_built : {refusal : ℕ} {frame l : List ℕ} {r : Refusal} → Err r ≡ allowed refusal
    → Builds refusal frame l (Err r) l
not_built {refusal} {frame} {l} q =
    let by = refused_by refusal q in
    let e : eqb refusal 0 ≡ false = ne_eqb refusal 0 by.1 in
    record {
      answer = ap Err by.0 ∙ ap (λ (b : Bool). pick b (Ok (length frame)) (Err (refused refusal))) (sym e);
      output = ap (λ (b : Bool). pick b (frame ++ drop (length frame) l) l) (sym e);
    }

pub built : {refusal n : ℕ} {frame l e : List ℕ} {u : Unit {0}} → Ok u ≡ allowed refusal
    → (n ≡ length frame) × (e ≡ frame ++ drop (length frame) l) → Builds refusal frame l (Ok n) e
built {refusal} {n} {frame} {l} {e} p q =
    let b : eqb refusal 0 ≡ true = eq-eqb refusal 0 (passed_by refusal p) in
    record {
      answer = ap Ok q.0 ∙ ap (λ (t : Bool). pick t (Ok (length frame)) (Err (refused refusal))) (sym b);
      output = q.1 ∙ ap (λ (t : Bool). pick t (frame ++ drop (length frame) l) l) (sym b);
    }

-- ---- data

module _ (nwk app : List ℕ) (d : DataParts) (commands body l o e : List ℕ) (start end : ℕ)
    (filled : Put l 0 (clear_data d commands body) end o) (begins : start ≡ end - length (body_of d.port commands body))
    (room : length (clear_data d commands body) + 4 ≤ length l)
    (so : e ≡ sealed nwk app d.fcnt (take start o) (part start (end - start) o) ++ drop (end + 4) o) where
  h : List ℕ
  h = data_header d commands

  p : List ℕ
  p = body_of d.port commands body

  lengths : length (clear_data d commands body) ≡ length h + length p
  unfolding h p
  lengths = length-append (data_header d commands) (body_of d.port commands body)

  ends : end ≡ length h + length p
  ends = filled.next ∙ omega (arith, lengths)

  starts : start ≡ length h
  unfolding p
  starts = omega (arith, begins, ends)

  o_is : o ≡ h ++ (p ++ drop end l)
  unfolding h p
  o_is =
      let z : length (clear_data d commands body) ≡ end = sym (filled.next ∙ omega arith) in
      put_front filled (omega arith)
      ∙ ap (λ (n : ℕ). clear_data d commands body ++ drop n l) z
      ∙ append_assoc (data_header d commands) (body_of d.port commands body) (drop end l)

  head_is : take start o ≡ h
  head_is = ap (take start) o_is ∙ take_at h (p ++ drop end l) start (sym starts)

  behind : drop start o ≡ p ++ drop end l
  behind = ap (drop start) o_is ∙ drop_at h (p ++ drop end l) start (sym starts)

  body_is : part start (end - start) o ≡ p
  body_is = ap (take (end - start)) behind ∙ take_at p (drop end l) (end - start) (omega (arith, ends, starts))

  rest_is : drop (end + 4) o ≡ drop (end + 4) l
  rest_is =
      let s : end ≡ start + length p = omega (arith, ends, starts) in
      sym (drop-drop 4 end o)
      ∙ ap (drop 4)
      (ap (λ (n : ℕ). drop n o) s
      ∙ sym (drop-drop (length p) start o)
      ∙ ap (drop (length p)) behind
      ∙ drop_at p (drop end l) (length p) refl)
      ∙ drop-drop 4 end l

  pub sealed_built : (end + 4 ≡ length (data_frame_of nwk app d commands body))
      × (e ≡ data_frame_of nwk app d commands body ++ drop (length (data_frame_of nwk app d commands body)) l)
  unfolding h p
  sealed_built =
      let n : length (data_frame_of nwk app d commands body) ≡ end + 4 =
      sealed_long nwk app d.fcnt (data_header d commands) (body_of d.port commands body) ∙ omega (arith, ends) in (
        sym n,
        so
            ∙ ap₂ (λ (s t : List ℕ). sealed nwk app d.fcnt s t ++ drop (end + 4) o) head_is body_is
            ∙ ap (λ (t : List ℕ). data_frame_of nwk app d commands body ++ t) rest_is
            ∙ ap (λ (k : ℕ). data_frame_of nwk app d commands body ++ drop k l) (sym n),
      )

-- ---- a built data frame is as long as its parts say

pub frame_long : (nwk app : List ℕ) (d : DataParts) (commands body : List ℕ)
    → length (data_frame_of nwk app d commands body) ≡ data_length d commands body
frame_long nwk app d commands body =
    sealed_long nwk app d.fcnt (data_header d commands) (body_of d.port commands body)
    ∙ ap (λ (n : ℕ). n + 4) (sym (length-append (data_header d commands) (body_of d.port commands body)))
