-- A rule for every number below a bound, by one test that is computed at each of them.
-- Assumes nothing.
use mathlib.Core.Path.{◌≡◌, refl}
use mathlib.Core.Bool.{Bool, true, false}
use Prim.Native.Nat.{ℕ, zero, suc, ◌<◌, zero-le, suc-le-suc}
use native.Mathlib.Nat.{not-suc-le-zero, le_of_suc-le-suc}
use lib.Dec.{T, eqb, ltb, eqb→eq, ltb→lt}

abbrev pub both : Bool → Bool → Bool
both true b = b
both false b = false

pub both_left : (a b : Bool) → T (both a b) → T a
both_left true b t = tt
both_left false b t = t

pub both_right : (a b : Bool) → T (both a b) → T b
both_right true b t = t
both_right false b t = absurd t

-- the test p passes at every number below n
abbrev pub below : ℕ → (ℕ → Bool) → Bool
below zero p = true
below (suc n) p = both (p n) (below n p)

-- a number below suc n is n, or below n
pub last-or-less : (P : ℕ → Type 0) (n : ℕ) → P n → ((k : ℕ) → k < n → P k) → (k : ℕ) → k < suc n → P k
last-or-less P zero z h zero l = z
last-or-less P zero z h (suc k) l = absurd (not-suc-le-zero (le_of_suc-le-suc l))
last-or-less P (suc n) z h zero l = h 0 (suc-le-suc zero-le)
last-or-less P (suc n) z h (suc k) l =
    last-or-less (λ (m : ℕ). P (suc m)) n z (λ m q. h (suc m) (suc-le-suc q)) k (le_of_suc-le-suc l)

pub passes : (n : ℕ) (p : ℕ → Bool) → T (below n p) → (k : ℕ) → k < n → T (p k)
passes zero p t k h = absurd (not-suc-le-zero h)
passes (suc n) p t k h =
    last-or-less (λ (m : ℕ). T (p m)) n (both_left (p n) (below n p) t) (passes n p (both_right (p n) (below n p) t)) k h

-- two functions that were compared at each number below n agree there
pub agree : (n : ℕ) (f g : ℕ → ℕ) → T (below n (λ k. eqb (f k) (g k))) → (k : ℕ) → k < n → f k ≡ g k
agree n f g t k h = eqb→eq (f k) (g k) (passes n (λ m. eqb (f m) (g m)) t k h)

-- a function whose values were found below m at each number below n
pub bounded : (n m : ℕ) (f : ℕ → ℕ) → T (below n (λ k. ltb (f k) m)) → (k : ℕ) → k < n → f k < m
bounded n m f t k h = ltb→lt (f k) m (passes n (λ j. ltb (f j) m) t k h)

-- a test passes or it does not
pub by-test : {A : Type 0} (b : Bool) → (b ≡ true → A) → (b ≡ false → A) → A
by-test true f g = f refl
by-test false f g = g refl
