-- Writing one command: the loop over the bytes of its number, and what is answered.
-- Assumes nothing.
use Rattle.std.specs.Prelude.{Ok}
use mathlib.Core.Path.{◌≡◌, refl, sym, ap, ◌∙◌}
use mathlib.Core.List.{List}
use Prim.Native.Nat.{ℕ, suc, ◌+◌, ◌-◌, ◌/◌, ◌%◌, ◌≤◌, ◌<◌}
use native.Mathlib.Numerals.{add-one}
use native.Mathlib.Omega.{arith}
use lib.ListN.{length, set, length-set}
use lib.Seq.{sets}
use borrow.Author.Tests.{le-leb}
use Rattle.base.specs.Storing.{Put}
use Rattle.mac_commands.specs.Layout.{size_of, bytes_of}
use Rattle.mac_commands.specs.Commands.{row_bytes, put_as, put_in}
use Rattle.mac_commands.proofs.LayoutLaws.{bytes_long}

-- ---- the loop: what is still to be stored gives the same

pub record Storing (l : List ℕ) (from n v : ℕ) (out : List ℕ) (rest place : ℕ) : Type 0 where
  pub long : length out ≡ length l
  pub upto : place ≤ from + n
  pub same : sets out place (bytes_of (from + n - place) rest) ≡ sets l from (bytes_of n v)

pub start : (l : List ℕ) (from n v : ℕ) → Storing l from n v l v from
start l from n v =
    let e : from + n - from ≡ n = omega arith in
    record { long = refl; upto = omega arith; same = ap (λ (k : ℕ). sets l from (bytes_of k v)) e }

pub step : {l : List ℕ} {from n v : ℕ} {out : List ℕ} {rest place : ℕ} → Storing l from n v out rest place → place < from + n
    → Storing l from n v (set out place (rest % 256)) (rest / 256) (place + 1)
unfolding bytes_of
step {l} {from} {n} {v} {out} {rest} {place} h p =
    let e : suc (from + n - (place + 1)) ≡ from + n - place = omega arith in
    record {
      long = length-set out place (rest % 256) ∙ h.long;
      upto = omega arith;
      same =
          ap (λ (k : ℕ). sets (set out place (rest % 256)) k (bytes_of (from + n - (place + 1)) (rest / 256))) (add-one place)
          ∙ ap (λ (k : ℕ). sets out place (bytes_of k rest)) e
          ∙ h.same;
    }

pub done : {l : List ℕ} {from n v : ℕ} {out : List ℕ} {rest place : ℕ} → Storing l from n v out rest place → from + n ≤ place
    → Put l from (bytes_of n v) (from + n) out
unfolding bytes_of
done {l} {from} {n} {v} {out} {rest} {place} h z =
    let e : from + n - place ≡ 0 = omega arith in
    record {
      next = omega (arith, bytes_long n v);
      list = ap (λ (k : ℕ). sets out place (bytes_of k rest)) (sym e) ∙ h.same;
    }

-- ---- a row

pub row_long : (r v : ℕ) → length (row_bytes r v) ≡ 1 + size_of r
unfolding row_bytes
row_long r v = ap suc (bytes_long (size_of r) v) ∙ omega arith

pub room : (r v : ℕ) (l : List ℕ) (i : ℕ) {p : ℕ} {e : List ℕ} → i + (1 + size_of r) ≤ length l
    → Put (set l i (2 + r % 9)) (i + 1) (bytes_of (size_of r) v) p e
    → (Ok p ≡ put_as r (length l) i) × (e ≡ put_in r v l i)
unfolding put_as put_in row_bytes
room r v l i {p} {e} h q =
    let n : p ≡ i + (1 + size_of r) = omega (arith, q.next, bytes_long (size_of r) v) in (
      simp (le-leb (i + (1 + size_of r)) (length l) h) (ap Ok n),
      simp (le-leb (i + (1 + size_of r)) (length l) h)
          (q.list ∙ ap (λ (k : ℕ). sets (set l i (2 + r % 9)) k (bytes_of (size_of r) v)) (add-one i)),
    )
