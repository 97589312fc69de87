-- Exclusive or of numbers is associative, and undoes itself; so it is for strings of bytes, of any lengths.
-- Assumes nothing.
use mathlib.Core.Path.{◌≡◌, refl, sym, ap, ap₂, ◌∙◌}
use mathlib.Core.List.{List, [], ◌∷◌, ◌++◌}
use Prim.Native.Nat.{ℕ, zero, suc, ◌+◌, ◌*◌, ◌/◌, ◌%◌, ◌<◌, max}
use native.Mathlib.Nat.{mod-lt, not-suc-le-zero}
use native.Mathlib.Omega.{arith}
use lib.Arith.{bin_ind, digits_mod}
use lib.ListN.{length, set}
use lib.Bits.{differ, xor_step, xor_shr, xor_zero_r, xor_comm, xor_self, xor_lt}
use Rattle.base.specs.Bytes.{◌⊕◌, at, xor_lists}

-- ---- numbers

-- of binary digits
differ_assoc : (x y z : ℕ) → x < 2 → y < 2 → z < 2 → differ (differ x y) z ≡ differ x (differ y z)
differ_assoc zero y z hx hy hz = refl
differ_assoc (suc zero) zero z hx hy hz = refl
differ_assoc (suc zero) (suc zero) zero hx hy hz = refl
differ_assoc (suc zero) (suc zero) (suc zero) hx hy hz = refl
differ_assoc (suc zero) (suc zero) (suc (suc z)) hx hy hz = omega arith
differ_assoc (suc zero) (suc (suc y)) z hx hy hz = omega arith
differ_assoc (suc (suc x)) y z hx hy hz = omega arith

differ_lt : (x y : ℕ) → x < 2 → y < 2 → differ x y < 2
differ_lt zero y hx hy = hy
differ_lt (suc zero) zero hx hy = hx
differ_lt (suc zero) (suc zero) hx hy = omega arith
differ_lt (suc zero) (suc (suc y)) hx hy = omega arith
differ_lt (suc (suc x)) y hx hy = omega arith

two : 0 < 2
two = omega arith

odd : (n : ℕ) → n % 2 < 2
odd n = mod-lt n two

-- the last digit of an exclusive or
xor_odd : (a b : ℕ) → (a ⊕ b) % 2 ≡ differ (a % 2) (b % 2)
xor_odd a b =
    ap (λ (n : ℕ). n % 2) (xor_step a b)
    ∙ digits_mod (a / 2 ⊕ b / 2) (differ_lt (a % 2) (b % 2) (odd a) (odd b))

pub xor_assoc : (a b c : ℕ) → a ⊕ b ⊕ c ≡ a ⊕ (b ⊕ c)
xor_assoc =
    bin_ind (λ (n : ℕ). (b c : ℕ) → n ⊕ b ⊕ c ≡ n ⊕ (b ⊕ c)) (λ b c. refl)
    (λ n ih b c.
    xor_step (n ⊕ b) c
    ∙ ap₂ (λ (h d : ℕ). h * 2 + d)
    (ap (λ (h : ℕ). h ⊕ c / 2) (xor_shr n b 1) ∙ ih (b / 2) (c / 2) ∙ ap (λ (h : ℕ). n / 2 ⊕ h) (sym (xor_shr b c 1)))
    (ap (λ (d : ℕ). differ d (c % 2)) (xor_odd n b)
    ∙ differ_assoc (n % 2) (b % 2) (c % 2) (odd n) (odd b) (odd c)
    ∙ ap (λ (d : ℕ). differ (n % 2) d) (sym (xor_odd b c)))
    ∙ sym (xor_step n (b ⊕ c)))

-- to exclusive-or with a number twice changes nothing
pub xor_twice : (a b : ℕ) → a ⊕ b ⊕ b ≡ a
xor_twice a b = xor_assoc a b b ∙ ap (λ (n : ℕ). a ⊕ n) (xor_self b) ∙ xor_zero_r a

pub xor_byte : (a b : ℕ) → a < 256 → b < 256 → a ⊕ b < 256
xor_byte a b ha hb = xor_lt 8 a b ha hb

-- the middle two of four change places
pub xor_middle : (a b c d : ℕ) → a ⊕ b ⊕ (c ⊕ d) ≡ a ⊕ c ⊕ (b ⊕ d)
xor_middle a b c d =
    xor_assoc a b (c ⊕ d)
    ∙ ap (λ (n : ℕ). a ⊕ n) (sym (xor_assoc b c d) ∙ ap (λ (n : ℕ). n ⊕ d) (xor_comm b c) ∙ xor_assoc c b d)
    ∙ sym (xor_assoc a c (b ⊕ d))

-- ---- strings

pub at-xor_lists : (s t : List ℕ) (i : ℕ) → at (xor_lists s t) i ≡ at s i ⊕ at t i
unfolding xor_lists
at-xor_lists [] t i = refl
at-xor_lists (a ∷ s) [] i = sym (xor_zero_r (at (a ∷ s) i))
at-xor_lists (a ∷ s) (b ∷ t) zero = refl
at-xor_lists (a ∷ s) (b ∷ t) (suc i) = at-xor_lists s t i

pub length-xor_lists : (s t : List ℕ) → length (xor_lists s t) ≡ max (length s) (length t)
unfolding xor_lists
length-xor_lists [] t = omega arith
length-xor_lists (a ∷ s) [] = omega arith
length-xor_lists (a ∷ s) (b ∷ t) = omega (arith, length-xor_lists s t)

pub xor_lists_nil : (s : List ℕ) → xor_lists s [] ≡ s
unfolding xor_lists
xor_lists_nil [] = refl
xor_lists_nil (a ∷ s) = refl

pub xor_lists_assoc : (s t u : List ℕ) → xor_lists (xor_lists s t) u ≡ xor_lists s (xor_lists t u)
unfolding xor_lists
xor_lists_assoc [] t u = refl
xor_lists_assoc (a ∷ s) [] u = refl
xor_lists_assoc (a ∷ s) (b ∷ t) [] = refl
xor_lists_assoc (a ∷ s) (b ∷ t) (c ∷ u) = ap₂ (λ (x : ℕ) (l : List ℕ). x ∷ l) (xor_assoc a b c) (xor_lists_assoc s t u)

-- one byte more of a string that is not longer than the first
pub xor_lists_snoc : (s t : List ℕ) (b : ℕ) → length t < length s
    → xor_lists s (t ++ b ∷ []) ≡ set (xor_lists s t) (length t) (at (xor_lists s t) (length t) ⊕ b)
unfolding xor_lists
xor_lists_snoc [] [] b h = absurd (not-suc-le-zero h)
xor_lists_snoc [] (c ∷ t) b h = absurd (not-suc-le-zero h)
xor_lists_snoc (a ∷ s) [] b h = ap (λ (l : List ℕ). (a ⊕ b) ∷ l) (xor_lists_nil s)
xor_lists_snoc (a ∷ s) (c ∷ t) b h =
    let k : length t < length s = omega arith in
    ap (λ (l : List ℕ). (a ⊕ c) ∷ l) (xor_lists_snoc s t b k)
