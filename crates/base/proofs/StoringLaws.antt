-- What a caller knows of a piece that lies inside: a run that fits is stored whole, and a run is taken out as that part.
-- Past the end nothing is stored, so the bytes that find room give the same as all of them.
-- Assumes nothing.
use mathlib.Core.Path.{◌≡◌, refl, sym, ap, ◌∙◌}
use mathlib.Core.Bool.{Bool}
use mathlib.Core.List.{List, [], ◌∷◌}
use Prim.Native.Nat.{ℕ, suc, ◌+◌, ◌-◌, ◌≤◌, ◌<◌, min}
use native.Mathlib.Omega.{arith}
use lib.ListN.{length, take, drop, take-append-drop}
use lib.Seq.{sets, set_out, length-sets, length-take-le, take_all}
use borrow.Author.Tests.{le-leb, lt-leb}
use Rattle.base.specs.Bytes.{pick, part, zeros}
use Rattle.base.proofs.Cases.{by_order}
use Rattle.base.proofs.Put.{Putting, sets-append}
use Rattle.base.specs.Storing.{Put, Stored, run_at}

-- ---- a run of bytes

pub fitted : {l s e : List ℕ} {i r : ℕ} → Stored l i s r e → i + length s ≤ length l → Put l i s r e
fitted {l} {s} {e} {i} {r} p h = record { next = omega (arith, p.next); list = p.list }

-- a loop that has stored as many bytes as it was to
pub first_put : {l s e : List ℕ} {i k : ℕ} (n : ℕ) → Putting l i s e k → k ≡ n → Put l i (take n s) (i + k) e
first_put {l} {s} {e} {i} {k} n p h =
    record {
      next = omega (arith, length-take-le n s (omega (arith, p.upto)));
      list = p.so_far ∙ ap (λ (m : ℕ). sets l i (take m s)) h;
    }

-- past the end nothing is stored
sets_past : (l : List ℕ) (i : ℕ) (s : List ℕ) → length l ≤ i → sets l i s ≡ l
sets_past l i [] h = refl
sets_past l i (a ∷ s) h = ap (λ (m : List ℕ). sets m (suc i) s) (set_out l i a h) ∙ sets_past l (suc i) s (omega arith)

-- so the first n bytes do, if there are no more or no room for more
sets_room : (l : List ℕ) (i : ℕ) (s : List ℕ) (n : ℕ) → n ≡ min (length s) (length l - i) → sets l i (take n s) ≡ sets l i s
sets_room l i s n e =
    by_order (length s) n (λ h. ap (sets l i) (take_all n s h))
    (λ h.
    let long : length (take n s) ≡ n = length-take-le n s (omega arith) in
    sym
    (ap (sets l i) (sym (take-append-drop n s))
    ∙ sets-append l i (take n s) (drop n s)
    ∙ sets_past (sets l i (take n s)) (i + length (take n s)) (drop n s) (omega (arith, length-sets l i (take n s)))))

-- so where the first bytes of s that find room are stored, s is
pub stored : {l s e : List ℕ} {i r : ℕ} (n : ℕ) → Put l i (take n s) r e → n ≡ min (length s) (length l - i) → Stored l i s r e
stored {l} {s} {e} {i} {r} n p h =
    record {
      next = omega (arith, p.next, length-take-le n s (omega arith));
      list = p.list ∙ sets_room l i s n h;
    }

-- and where there is no room at all, nothing is
pub no_room : (l : List ℕ) (i : ℕ) (s : List ℕ) → length l ≤ i → Stored l i s i l
no_room l i s h = record { next = omega arith; list = sym (sets_past l i s h) }

-- ---- a run that is taken out

pub run_inside : (n : ℕ) (l : List ℕ) (i : ℕ) → i + n ≤ length l → run_at n l i ≡ part i n l
unfolding run_at
run_inside n l i h = ap (λ (t : Bool). pick t (part i n l) (zeros n)) (le-leb (i + n) (length l) h)

pub run_outside : (n : ℕ) (l : List ℕ) (i : ℕ) → length l < i + n → run_at n l i ≡ zeros n
unfolding run_at
run_outside n l i h = ap (λ (t : Bool). pick t (part i n l) (zeros n)) (lt-leb (i + n) (length l) h)
