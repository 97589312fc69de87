-- One round more, as the code counts: up for the cipher, down for its inverse.
-- Assumes nothing.
use mathlib.Core.Path.{◌≡◌, sym, ap, ◌∙◌}
use mathlib.Core.List.{List}
use Prim.Native.Nat.{ℕ, zero, suc, ◌+◌, ◌-◌, ◌<◌}
use native.Mathlib.Nat.{not-suc-le-zero}
use native.Mathlib.Omega.{arith}
use Rattle.aes.specs.Fips197.{round, rounds, inv_round, inv_rounds}

pub round_more : (w : List ℕ) (r : ℕ) (s : List ℕ) → 0 < r → round w r (rounds w (r - 1) s) ≡ rounds w (r + 1 - 1) s
unfolding rounds
round_more w zero s h = absurd (not-suc-le-zero h)
round_more w (suc n) s h =
    let before : suc n - 1 ≡ n = omega arith in
    let after : suc n ≡ suc n + 1 - 1 = omega arith in
    ap (λ (m : ℕ). round w (suc n) (rounds w m s)) before ∙ ap (λ (m : ℕ). rounds w m s) after

pub inv_round_more : (w : List ℕ) (n : ℕ) (s : List ℕ) → 0 < n → inv_rounds w (n - 1) (inv_round w n s) ≡ inv_rounds w n s
unfolding inv_rounds
inv_round_more w zero s h = absurd (not-suc-le-zero h)
inv_round_more w (suc n) s h =
    let e : suc n - 1 ≡ n = omega arith in
    ap (λ (m : ℕ). inv_rounds w m (inv_round w (suc n) s)) e

pub inv_round-none : (w : List ℕ) (n : ℕ) (s t : List ℕ) → n ≡ 0 → inv_rounds w n s ≡ t → s ≡ t
unfolding inv_rounds
inv_round-none w n s t e h = ap (λ (m : ℕ). inv_rounds w m s) (sym e) ∙ h
