-- An array that a function makes, an element a call: what holds of each call holds of each element, where a call leaves
-- the function as it was. If each gives what a rule gives at its index, the array is the rule's table; so is an array of
-- what the rule gives at the elements of another.
-- Assumes nothing.
use mathlib.Core.Path.{◌≡◌, sym, subst, ◌∙◌}
use mathlib.Core.List.{List}
use Prim.Native.Nat.{ℕ, zero, suc, ◌+◌, ◌≤◌, ◌<◌}
use native.Mathlib.Omega.{arith}
use lib.ListN.{length}
use denote.Param.Members.{Mut, Called}
use Rattle.std.specs.Array.{IsFromFnResult, IsFromFnResultFrom, IsMapOf}
use Rattle.base.specs.Bytes.{tab, at}
use Rattle.base.proofs.Cases.{by_equal}
use Rattle.base.proofs.Tab.{same_at, at-tab, length-tab}

-- a call at an index below n gives what R holds of, and leaves the function as it was
abbrev pub EachCall : {F : Type 0} → Mut F (ℕ × Unit {0}) ℕ → F → (ℕ → ℕ → Type 0) → ℕ → Type 0
EachCall {F} g f R n = (i y : ℕ) (q : F) → i < n → Called g f (i, tt) y q → R i y × (q ≡ f)

module _ {F : Type 0} {g : Mut F (ℕ × Unit {0}) ℕ} {f : F} (R : ℕ → ℕ → Type 0) (n : ℕ) (ys : List ℕ) where
  from : EachCall g f R n → (i m k : ℕ) → i + m ≤ n → IsFromFnResultFrom g f ys i m → i ≤ k → k < i + m → R k (at ys k)
  from e i zero k b r low high = absurd (omega arith)
  from e i (suc m) k b r low high =
      let gave = e i r.1 r.0 (omega arith) r.3 in
      by_equal k i
      (λ same. subst (λ j. R j (at ys j)) (sym same) (subst (R i) (sym (r.2.1 0)) gave.0))
      (λ other. from e (i + 1) m k (omega arith) (subst (λ p. IsFromFnResultFrom g p ys (i + 1) m) gave.1 r.4) (omega arith) (omega arith))

  pub each_made : IsFromFnResult g f ys n → EachCall g f R n → (i : ℕ) → i < n → R i (at ys i)
  each_made r e i l = from e 0 n i (omega arith) r.each (omega arith) (omega arith)

-- the n bytes that agree with the rule at each index are its table
pub table : (h : ℕ → ℕ) (n : ℕ) (ys : List ℕ) → length ys ≡ n → ((i : ℕ) → i < n → at ys i ≡ h i) → ys ≡ tab n h
table h n ys long e = same_at n ys (tab n h) long (length-tab n h) (λ i l. e i l ∙ sym (at-tab n h i l))

pub made : {F : Type 0} {g : Mut F (ℕ × Unit {0}) ℕ} {f : F} (h : ℕ → ℕ) (n : ℕ) (ys : List ℕ) → IsFromFnResult g f ys n
    → EachCall g f (λ i y. y ≡ h i) n → ys ≡ tab n h
made h n ys r e = table h n ys r.long (each_made (λ i y. y ≡ h i) n ys r e)

pub mapped : {F : Type 0} {g : Mut F (ℕ × Unit {0}) ℕ} {f : F} (h : ℕ → ℕ) (n : ℕ) (xs ys : List ℕ) → IsMapOf g f xs ys n
    → ((p q : F) (x y : ℕ) → Called g p (x, tt) y q → y ≡ h x) → ys ≡ tab n (λ i. h (at xs i))
mapped h n xs ys r e =
    table (λ i. h (at xs i)) n ys r.long (λ i l. let was = r.at i 0 0 l in e was.0 was.1 (at xs i) (at ys i) was.2)
