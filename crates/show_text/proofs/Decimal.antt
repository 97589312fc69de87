-- Numbers in decimal: each reads back as itself, begins with no zero unless it is 0, and has no more digits than its size
-- allows. Each is one induction over the count of digits. Last the loop that makes the digits from the last one on.
-- Assumes nothing.
use mathlib.Core.Path.{◌≡◌, refl, sym, ap, ap₂, ◌∙◌}
use mathlib.Core.List.{List, [], ◌∷◌, ◌++◌, append-nil}
use Prim.Native.Nat.{ℕ, zero, suc, ◌+◌, ◌-◌, ◌*◌, ◌/◌, ◌%◌, ◌^◌, ◌<◌, ◌≤◌}
use native.Mathlib.Nat.{pow-suc}
use native.Mathlib.Omega.{arith}
use lib.ListN.{length, drop, set, length-append, length-set, length-drop, get_or-append}
use lib.Seq.{append_snoc, take_all, drop-cons, get_or-set_same, drop-set-lt}
use borrow.Author.Tests.{lt-ltb, le-ltb}
use Rattle.base.specs.Bytes.{at, part, zeros}
use Rattle.base.proofs.Cases.{by_order}
use Rattle.show_text.specs.Text.{digit_of, decimal_in, decimal_of}

-- ---- one digit, and one digit more

one_digit : (k n : ℕ) → n < 10 → decimal_in (suc k) n ≡ digit_of n ∷ []
unfolding decimal_in
one_digit k n h = simp (lt-ltb n 10 h)

more_digits : (k n : ℕ) → 10 ≤ n → decimal_in (suc k) n ≡ decimal_in k (n / 10) ++ digit_of (n % 10) ∷ []
unfolding decimal_in
more_digits k n h = simp (le-ltb n 10 h)

-- a number without its last digit has a digit less
fewer : (k n : ℕ) → n < 10 ^ suc k → n / 10 < 10 ^ k
fewer k n h = omega (arith, pow-suc 10 k)

-- ---- how many digits

-- at most as many as there is room for
pub length-decimal_in : (k n : ℕ) → length (decimal_in k n) ≤ k
unfolding decimal_in
length-decimal_in zero n = omega arith
length-decimal_in (suc k) n =
    by_order 10 n
    (λ h. rw (more_digits k n h, length-append) (omega (arith, length-decimal_in k (n / 10))))
    (λ h. rw (one_digit k n h) (omega arith))

-- and no more than the number has
pub length_small : (k j n : ℕ) → n < 10 ^ suc j → length (decimal_in k n) ≤ suc j
unfolding decimal_in
length_small zero j n h = omega arith
length_small (suc k) zero n h = rw (one_digit k n (omega arith)) (omega arith)
length_small (suc k) (suc j) n h =
    by_order 10 n
    (λ t. rw (more_digits k n t, length-append) (omega (arith, length_small k j (n / 10) (fewer (suc j) n h))))
    (λ t. rw (one_digit k n t) (omega arith))

-- at least one
some : (k n : ℕ) → 0 < length (decimal_in (suc k) n)
some k n =
    by_order 10 n (λ h. rw (more_digits k n h, length-append) (omega arith)) (λ h. rw (one_digit k n h) (omega arith))

-- ---- which number they stand for

-- the number that decimal digits stand for, after the digits of n
abbrev value_from : ℕ → List ℕ → ℕ
value_from n [] = n
value_from n (d ∷ s) = value_from (n * 10 + (d - 48)) s

abbrev value_of : List ℕ → ℕ
value_of = value_from 0

value_more : (m : ℕ) (s : List ℕ) (d : ℕ) → value_from m (s ++ d ∷ []) ≡ value_from m s * 10 + (d - 48)
value_more m [] d = refl
value_more m (e ∷ s) d = value_more (m * 10 + (e - 48)) s d

digit_value : (n : ℕ) → n < 10 → digit_of n ≡ 48 + n
unfolding digit_of
digit_value n h = simp (lt-ltb n 10 h)

value_in : (k n : ℕ) → n < 10 ^ k → value_of (decimal_in k n) ≡ n
unfolding decimal_in
value_in zero n h = omega arith
value_in (suc k) n h =
    by_order 10 n
    (λ t.
    ap value_of (more_digits k n t)
    ∙ value_more 0 (decimal_in k (n / 10)) (digit_of (n % 10))
    ∙ omega (arith, value_in k (n / 10) (fewer k n h), digit_value (n % 10) (omega arith)))
    (λ t. ap value_of (one_digit k n t) ∙ omega (arith, digit_value n t))

-- a number of at most twenty digits in decimal stands for itself
pub decimal_value : (n : ℕ) → n < 10 ^ 20 → value_of (decimal_of n) ≡ n
unfolding decimal_of
decimal_value n h = value_in 20 n h

first_in : (k n : ℕ) → 0 < n → n < 10 ^ suc k → at (decimal_in (suc k) n) 0 ≡ 48 → ⊥
first_in zero n p h z = omega (arith, digit_value n (omega arith), rw (one_digit zero n (omega arith)) at z)
first_in (suc k) n p h z =
    by_order 10 n
    (λ t.
    first_in k (n / 10) (omega arith) (fewer (suc k) n h)
    (sym (get_or-append (decimal_in (suc k) (n / 10)) (digit_of (n % 10) ∷ []) 0 0 (some k (n / 10)))
    ∙ ap (λ (s : List ℕ). at s 0) (sym (more_digits (suc k) n t))
    ∙ z))
    (λ t. omega (arith, digit_value n t, ap (λ (s : List ℕ). at s 0) (one_digit (suc k) n t)))

-- and begins with no zero, unless it is 0
pub decimal_first : (n : ℕ) → n < 10 ^ 20 → 0 < n → at (decimal_of n) 0 ≡ 48 → ⊥
unfolding decimal_of
decimal_first n h p = first_in 19 n p h

-- ---- the digits of n, made from the last one on: those behind `first` are there, the others are those of `rest`

pub record Spelling (n : ℕ) (digits : List ℕ) (first rest : ℕ) : Type 0 where
  pub inside : first < 20
  pub long : length digits ≡ 20
  pub below : rest < 10 ^ suc first
  pub so_far : decimal_in (suc first) rest ++ drop (suc first) digits ≡ decimal_of n

-- a number of 64 bits has at most twenty
pub start : (n : ℕ) → n < 2 ^ 64 → Spelling n (zeros 20) 19 n
unfolding decimal_of
start n h =
    record { inside = omega arith; long = refl; below = omega arith; so_far = append-nil (decimal_in 20 n) }

-- a digit that is stored ahead of others
ahead : (s : List ℕ) (i d : ℕ) → i < length s → drop i (set s i d) ≡ d ∷ drop (suc i) s
ahead s i d h =
    drop-cons (set s i d) i 0 (omega (arith, length-set s i d))
    ∙ ap₂ (λ (x : ℕ) (l : List ℕ). x ∷ l) (get_or-set_same s i d 0 h) (drop-set-lt (suc i) s i d (omega arith))

-- where two digits are left there is room for two
more_left : (first rest : ℕ) → rest < 10 ^ suc first → 10 ≤ rest → 0 < first
more_left zero rest h t = omega arith
more_left (suc i) rest h t = omega arith

module _ {n : ℕ} {digits : List ℕ} {first rest : ℕ} (s : Spelling n digits first rest) where
  pub room : 10 ≤ rest → 0 < first
  room h = more_left first rest s.below h

  pub still_long : (d : ℕ) → length (set digits first d) ≡ 20
  still_long d = length-set digits first d ∙ s.long

  -- the digits from `first` on, once there is one more
  longer : (d : ℕ) → drop first (set digits first d) ≡ d ∷ drop (suc first) digits
  longer d = ahead digits first d (omega (arith, s.inside, s.long))

  pub step : {d : ℕ} → 10 ≤ rest → d ≡ digit_of (rest % 10) → Spelling n (set digits first d) (first - 1) (rest / 10)
  step {d} h e =
      let next : suc (first - 1) ≡ first = omega (arith, room h) in
      record {
        inside = omega (arith, s.inside);
        long = still_long d;
        below = rw next (fewer first rest s.below);
        so_far =
            rw next
            (ap (λ (l : List ℕ). decimal_in first (rest / 10) ++ l) (longer d)
            ∙ sym (append_snoc (decimal_in first (rest / 10)) d (drop (suc first) digits))
            ∙ ap (λ (x : ℕ). decimal_in first (rest / 10) ++ (x ∷ []) ++ drop (suc first) digits) e
            ∙ ap (λ (l : List ℕ). l ++ drop (suc first) digits) (sym (more_digits first rest h))
            ∙ s.so_far);
      }

  pub done : {d : ℕ} → rest < 10 → d ≡ digit_of rest → part first (20 - first) (set digits first d) ≡ decimal_of n
  done {d} h e =
      take_all (20 - first) (drop first (set digits first d)) (omega (arith, length-drop first (set digits first d), still_long d))
      ∙ longer d
      ∙ ap (λ (x : ℕ). x ∷ drop (suc first) digits) e
      ∙ ap (λ (l : List ℕ). l ++ drop (suc first) digits) (sym (one_digit first rest h))
      ∙ s.so_far
