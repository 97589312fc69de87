-- A part of a string that was lent, changed and put back: what stands before it and after it is as it was.
-- Assumes nothing.
use mathlib.Core.Path.{◌≡◌, sym, ap, ◌∙◌}
use mathlib.Core.List.{List, ◌++◌, append_assoc}
use Prim.Native.Nat.{ℕ, ◌+◌, ◌-◌, ◌≤◌}
use native.Mathlib.Omega.{arith}
use lib.ListN.{length, get_or, take, drop, length-append, length-take, length-drop, take-append-drop}
use lib.Seq.{get_or-take, drop-drop, length-take-le, take-append-le, take-take, take_at, drop_at, take-add}
use Rattle.base.specs.Bytes.{tab, at, part}
use Rattle.base.proofs.Tab.{tab-ext}

-- a part that lies inside has as many bytes as it says
pub part-long : (i n : ℕ) (s : List ℕ) → i + n ≤ length s → length (part i n s) ≡ n
part-long i n s h = simp (length-take, length-drop) (omega arith)

-- two strings whose first n bytes are the same have the same at each index below n
pub same_start : (n : ℕ) (s t : List ℕ) → take n s ≡ take n t → tab n (at s) ≡ tab n (at t)
same_start n s t e =
    tab-ext n (at s) (at t)
    (λ i h. sym (get_or-take n s i 0 h) ∙ ap (λ (l : List ℕ). get_or l i 0) e ∙ get_or-take n t i 0 h)

-- the bytes a..e of s were lent and came back as t
pub put_back : (a e : ℕ) (s t : List ℕ) → a ≤ e → take a s ++ (t ++ drop (e - a) (drop a s)) ≡ take a s ++ t ++ drop e s
put_back a e s t h =
    let whole : a + (e - a) ≡ e = omega arith in
    sym (append_assoc (take a s) t (drop (e - a) (drop a s)))
    ∙ ap (λ (l : List ℕ). take a s ++ t ++ l) (drop-drop (e - a) a s ∙ ap (λ (n : ℕ). drop n s) whole)

-- what is known of s with t in the place of the bytes a..e
module _ (a e : ℕ) (s t : List ℕ) (h : a ≤ e) (inside : e ≤ length s) (long : length t ≡ e - a) where
  front : length (take a s) ≡ a
  front = length-take-le a s (omega arith)

  ahead : length (take a s ++ t) ≡ e
  ahead = length-append (take a s) t ∙ (simp front (omega arith))

  pub put-before : (n : ℕ) → n ≤ a → take n (take a s ++ t ++ drop e s) ≡ take n s
  put-before n k =
      ap (take n) (append_assoc (take a s) t (drop e s))
      ∙ take-append-le n (take a s) (t ++ drop e s) (omega (arith, front))
      ∙ take-take n a s k

  pub put-part : part a (e - a) (take a s ++ t ++ drop e s) ≡ t
  put-part =
      ap (part a (e - a)) (append_assoc (take a s) t (drop e s))
      ∙ ap (take (e - a)) (drop_at (take a s) (t ++ drop e s) a front)
      ∙ take_at t (drop e s) (e - a) long

  pub put-after : drop e (take a s ++ t ++ drop e s) ≡ drop e s
  put-after = drop_at (take a s ++ t) (drop e s) e ahead

-- a string is what stands before a part, the part, and what stands after it
pub put_same : (a e : ℕ) (s : List ℕ) → a ≤ e → take a s ++ part a (e - a) s ++ drop e s ≡ s
put_same a e s h =
    let whole : a + (e - a) ≡ e = omega arith in
    ap (λ (l : List ℕ). l ++ drop e s) (sym (take-add a (e - a) s) ∙ ap (λ (n : ℕ). take n s) whole)
    ∙ take-append-drop e s
