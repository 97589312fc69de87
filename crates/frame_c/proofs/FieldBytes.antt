-- The bytes of the fields of the join messages: how many they are, and numbers of four bytes stored one after another.
-- Assumes nothing.
use mathlib.Core.Path.{◌≡◌, refl, sym, ap, ◌∙◌}
use mathlib.Core.List.{List, ◌++◌}
use Prim.Native.Nat.{ℕ, zero, suc, ◌+◌, ◌*◌, ◌≤◌}
use native.Mathlib.Numerals.{add-one}
use native.Mathlib.Omega.{arith}
use lib.ListN.{length, length-append}
use Rattle.base.specs.Bytes.{at, four_bytes_of}
use Rattle.base.specs.Storing.{Put, Stored}
use Rattle.base.proofs.Put.{then, renamed, put_length}
use Rattle.base.proofs.StoringLaws.{fitted}
use Rattle.frame.specs.declared.join_fields.JoinRequestFields.{JoinRequestFields}
use Rattle.frame_c.specs.CStored.{request_bytes, four_each}

pub request_long : (j : JoinRequestFields) → length j.app_eui ≡ 8 → length j.dev_eui ≡ 8
    → length j.dev_nonce ≡ 2 → length j.mic ≡ 4 → length (request_bytes j) ≡ 22
unfolding request_bytes
request_long j a d n m = simp length-append (omega arith)

pub four_each_long : (n : ℕ) (q : List ℕ) → length (four_each n q) ≡ 4 * n
unfolding four_each
four_each_long zero q = refl
four_each_long (suc n) q = length-append (four_each n q) (four_bytes_of (at q n)) ∙ omega (arith, four_each_long n q)

-- one number more
pub four_more : (n : ℕ) (q : List ℕ) {l d e b : List ℕ} {i j r : ℕ} → Put l i (four_each n q) j d → Stored d j b r e → b ≡ four_bytes_of (at q n)
    → i + 4 * n + 4 ≤ length l → Put l i (four_each (n + 1) q) r e
unfolding four_each
four_more n q {l} {d} {e} {b} {i} {j} {r} p s h room =
    let fits : j + length b ≤ length d = omega (arith, p.next, put_length p, four_each_long n q, ap length h) in
    renamed (then p (fitted s fits)) (ap (λ (x : List ℕ). four_each n q ++ x) h ∙ sym (ap (λ (m : ℕ). four_each m q) (add-one n)))

-- all of them
pub four_all : (n k : ℕ) (q : List ℕ) {l e : List ℕ} {i r : ℕ} → Put l i (four_each n q) r e → n ≡ k → Put l i (four_each k q) r e
four_all n k q p h = renamed p (ap (λ (m : ℕ). four_each m q) h)
