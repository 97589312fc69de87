-- A run of bytes that is stored in a string: what the string's parts hold afterwards.
-- Assumes nothing.
use mathlib.Core.Path.{◌≡◌, refl, sym, ap, ◌∙◌}
use mathlib.Core.List.{List, [], ◌∷◌, ◌++◌, append_assoc}
use Prim.Native.Nat.{ℕ, suc, ◌+◌, ◌-◌, ◌≤◌}
use native.Mathlib.Omega.{arith}
use lib.ListN.{length, take, drop, set, length-drop, length-take}
use lib.Seq.{sets, sets-eq, take_all, take_at, drop_at, take-set-le, drop-set-lt, length-take-le}
use Rattle.base.specs.Bytes.{part}
use Rattle.base.proofs.Parts.{part-take}

pub take-sets : (n : ℕ) (l : List ℕ) (a : ℕ) (vs : List ℕ) → n ≤ a → take n (sets l a vs) ≡ take n l
take-sets n l a [] h = refl
take-sets n l a (x ∷ vs) h = take-sets n (set l a x) (suc a) vs (omega arith) ∙ take-set-le n l a x h

pub drop-sets : (n : ℕ) (l : List ℕ) (a : ℕ) (vs : List ℕ) → a + length vs ≤ n → drop n (sets l a vs) ≡ drop n l
drop-sets n l a [] h = refl
drop-sets n l a (x ∷ vs) h = drop-sets n (set l a x) (suc a) vs (omega arith) ∙ drop-set-lt n l a x (omega arith)

-- a part ahead of what is stored
pub part-before : (i n : ℕ) (l : List ℕ) (a : ℕ) (vs : List ℕ) → i + n ≤ a → part i n (sets l a vs) ≡ part i n l
part-before i n l a vs h =
    sym (part-take i n a (sets l a vs) h)
    ∙ ap (part i n) (take-sets a l a vs (omega arith))
    ∙ part-take i n a l h

-- a part behind it
pub part-after : (i n : ℕ) (l : List ℕ) (a : ℕ) (vs : List ℕ) → a + length vs ≤ i → part i n (sets l a vs) ≡ part i n l
part-after i n l a vs h = ap (take n) (drop-sets i l a vs h)

-- the part that is stored
pub part-stored : (l : List ℕ) (a n : ℕ) (vs : List ℕ) → length vs ≡ n → a + n ≤ length l → part a n (sets l a vs) ≡ vs
part-stored l a n vs e h =
    let rest = drop (a + length vs) l in
    ap (part a n) (sets-eq vs l a (omega arith) ∙ append_assoc (take a l) vs rest)
    ∙ ap (take n) (drop_at (take a l) (vs ++ rest) a (length-take-le a l (omega arith)))
    ∙ take_at vs rest n e

-- the first n bytes without their first i are a part
pub drop-take : (i n : ℕ) (s : List ℕ) → i ≤ n → drop i (take n s) ≡ part i (n - i) s
drop-take i n s h =
    let short : length (drop i (take n s)) ≤ n - i = omega (arith, length-drop i (take n s), length-take n s) in
    sym (take_all (n - i) (drop i (take n s)) short) ∙ part-take i (n - i) n s (omega arith)
