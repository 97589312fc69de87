-- Two cases, by a test on numbers: what follows in each, follows.
-- Assumes nothing.
use mathlib.Core.Path.{◌≡◌, refl}
use mathlib.Core.Bool.{Bool, true, false}
use Prim.Native.Nat.{ℕ, ◌≤◌, ◌<◌}
use lib.Dec.{leb, eqb}
use borrow.Author.Tests.{leb-true, leb-false, eqb-true, eqb-false}

pub by_bool : {A : Type 0} (b : Bool) → (b ≡ true → A) → (b ≡ false → A) → A
by_bool true t f = t refl
by_bool false t f = f refl

-- a number is at most another, or it is above it
pub by_order : {A : Type 0} (m n : ℕ) → (m ≤ n → A) → (n < m → A) → A
by_order m n l g = by_bool (leb m n) (λ t. l (leb-true m n t)) (λ t. g (leb-false m n t))

-- two numbers are the same, or they are not
pub by_equal : {A : Type 0} (m n : ℕ) → (m ≡ n → A) → ((m ≡ n → ⊥) → A) → A
by_equal m n e d = by_bool (eqb m n) (λ t. e (eqb-true m n t)) (λ t. d (eqb-false m n t))
