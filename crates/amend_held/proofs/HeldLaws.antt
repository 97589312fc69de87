-- A state stored into a buffer field by field, and taken out of it.
-- Assumes nothing.
use mathlib.Core.Path.{◌≡◌, sym, ap, ap₂, ◌∙◌}
use mathlib.Core.List.{List, [], ◌∷◌, ◌++◌}
use Prim.Native.Nat.{ℕ, ◌+◌, ◌%◌, ◌≤◌}
use native.Mathlib.Omega.{arith}
use lib.ListN.{length, length-append}
use lib.Seq.{sets}
use Rattle.base.specs.Bytes.{at, part, four_bytes_of, from_four_bytes}
use Rattle.base.proofs.Put.{sets-append}
use Rattle.base.proofs.StoringLaws.{run_inside}
use Rattle.base.specs.Storing.{run_at}
use Rattle.amend.specs.declared.amending.Open.{Open}
use Rattle.amend.specs.Amending.{open_state}
use Rattle.amend.proofs.ListLaws.{whole_stored}
use Rattle.amend_held.specs.HeldBuffer.{stored_open, loaded_open}

-- one run of bytes behind another, from the start
joined : (z s t : List ℕ) (i : ℕ) {d e : List ℕ} → length s ≡ i → d ≡ sets z 0 s → e ≡ sets d i t → e ≡ sets z 0 (s ++ t)
joined z s t i {d} {e} l hd he =
    let place : i ≡ 0 + length s = omega arith in
    he ∙ ap₂ (λ (x : List ℕ) (n : ℕ). sets x n t) hd place ∙ sym (sets-append z 0 s t)

-- the lengths of a state's arrays
pub record Sized (s : Open) : Type 0 where
  pub frame : length s.frame ≡ 255
  pub nwk : length s.nwk_schedule ≡ 176
  pub app : length s.app_schedule ≡ 176
  pub chains : length s.chains ≡ 256

module _ (s : Open) (h : Sized s) where
  abbrev one : List ℕ
  one = s.frame ++ (s.length % 256) ∷ []

  pub one_long : length one ≡ 256
  one_long = length-append s.frame ((s.length % 256) ∷ []) ∙ (omega (arith, h.frame))

  pub two_long : length (one ++ s.nwk_schedule) ≡ 432
  two_long = length-append one s.nwk_schedule ∙ (omega (arith, one_long, h.nwk))

  pub three_long : length (one ++ s.nwk_schedule ++ s.app_schedule) ≡ 608
  three_long = length-append (one ++ s.nwk_schedule) s.app_schedule ∙ (omega (arith, two_long, h.app))

  pub four_long : length (one ++ s.nwk_schedule ++ s.app_schedule ++ s.chains) ≡ 864
  four_long =
      length-append (one ++ s.nwk_schedule ++ s.app_schedule) s.chains ∙ (omega (arith, three_long, h.chains))

  pub stored_long : length (stored_open s) ≡ 868
  unfolding stored_open
  stored_long =
      length-append (one ++ s.nwk_schedule ++ s.app_schedule ++ s.chains) (four_bytes_of s.counter)
      ∙ (omega (arith, four_long))

  -- six runs of bytes stored one after the other
  pub stored_runs : (z : List ℕ) {o₁ o₂ o₃ o₄ o₅ o₆ k : List ℕ} → length z ≡ 868 → o₁ ≡ sets z 0 s.frame
      → o₂ ≡ sets o₁ 255 ((s.length % 256) ∷ []) → o₃ ≡ sets o₂ 256 s.nwk_schedule → o₄ ≡ sets o₃ 432 s.app_schedule
      → o₅ ≡ sets o₄ 608 s.chains → o₆ ≡ sets o₅ 864 k → k ≡ four_bytes_of s.counter → o₆ ≡ stored_open s
  unfolding stored_open
  stored_runs z {o₁} {o₂} {o₃} {o₄} {o₅} {o₆} {k} lz e₁ e₂ e₃ e₄ e₅ e₆ hk =
      let whole = one ++ s.nwk_schedule ++ s.app_schedule ++ s.chains in
      let long : length (whole ++ four_bytes_of s.counter) ≡ 868 =
      length-append whole (four_bytes_of s.counter) ∙ (omega (arith, four_long)) in
      joined z whole (four_bytes_of s.counter) 864 four_long
      (joined z (one ++ s.nwk_schedule ++ s.app_schedule) s.chains 608 three_long
      (joined z (one ++ s.nwk_schedule) s.app_schedule 432 two_long
      (joined z one s.nwk_schedule 256 one_long
      (joined z s.frame ((s.length % 256) ∷ []) 255 h.frame e₁ e₂)
      e₃)
      e₄)
      e₅)
      (e₆ ∙ ap (sets o₅ 864) hk)
      ∙ whole_stored z (whole ++ four_bytes_of s.counter) (long ∙ sym lz)

-- a state of the fields that the code takes out
pub loaded_is : (b : List ℕ) {f w a h c : List ℕ} {k n : ℕ} → length b ≡ 868 → n ≡ at b 255 → f ≡ run_at 255 b 0
    → w ≡ run_at 176 b 256 → a ≡ run_at 176 b 432 → h ≡ run_at 256 b 608 → c ≡ run_at 4 b 864 → k ≡ from_four_bytes c
    → open_state f n w a k h ≡ loaded_open b
unfolding loaded_open
loaded_is b {f} {w} {a} {h} {c} {k} {n} long hn hf hw ha hh hc hk =
    let run : (n i : ℕ) → i + n ≤ length b → run_at n b i ≡ part i n b = λ n i l. run_inside n b i l in
    let count : k ≡ from_four_bytes (part 864 4 b) = hk ∙ ap from_four_bytes (hc ∙ run 4 864 (omega arith)) in
    ap₂ (λ (x y : List ℕ). open_state x n y a k h) (hf ∙ run 255 0 (omega arith)) (hw ∙ run 176 256 (omega arith))
    ∙ ap₂ (λ (x y : List ℕ). open_state (part 0 255 b) n (part 256 176 b) x k y) (ha ∙ run 176 432 (omega arith)) (hh ∙ run 256 608 (omega arith))
    ∙ ap₂ (λ (m o : ℕ). open_state (part 0 255 b) m (part 256 176 b) (part 432 176 b) o (part 608 256 b)) hn count
