-- What the packed number of each reading is as a sum, in the words of the code.
-- Assumes nothing.
use Rattle.std.specs.Prelude.{Err, Ok}
use mathlib.Core.Path.{◌≡◌, refl, sym, ap, ◌∙◌}
use mathlib.Core.List.{List}
use mathlib.Core.Logic.{⊎_elim}
use Prim.Native.Nat.{ℕ, ◌+◌, ◌-◌, ◌*◌, ◌≤◌, ◌<◌}
use native.Mathlib.Omega.{arith}
use lib.Dec.{eqb}
use lib.ListN.{length}
use borrow.Author.Tests.{eq-eqb, ne_eqb}
use Rattle.base.specs.Bytes.{pick}
use Rattle.base.proofs.Cases.{by_order, by_equal}
use Rattle.frame.specs.Layout.{mtype, fctrl, fcnt, fhdr_length_of, fport, header_end_of}
use Rattle.frame.specs.Reading.{payload_of, data_of, read_of}
use Rattle.frame.specs.Conditions.{IsData}
use Rattle.frame.specs.PackedReading.{packed, accepted, bits_of_join, packed_of, numbered, payload_at, port_bits_of}
use Rattle.frame.specs.declared.refusals.Refusal.{Refusal}
use Rattle.frame.specs.Reading.{Reading}
use Rattle.frame.specs.declared.parser.Frame.TheVariants.{JoinRequest, JoinAccept}
use Rattle.frame.proofs.ReadingLaws.{reads_data, accept_read}
use Rattle.frame.proofs.ReadingSteps as steps

-- ---- as sums

pub flat : (t g k p s m c n : ℕ)
    → packed (accepted t g k p s m c n)
    ≡ t * 256 + g * 2048 + k * 4096 + p * 65536 + s * 16777216 + m * 4294967296 + c * 1099511627776 + n * 281474976710656
flat t g k p s m c n = omega arith

-- a refused reading is its number with its place above it
pub flat_refused : (r : Refusal) → numbered r.number r.place ≡ packed_of (Err r)
unfolding packed_of numbered
flat_refused r = refl

pub flat_join : (t n : ℕ) → t * 256 + (n - 4) * 4311744512 ≡ packed (bits_of_join t n)
flat_join t n = omega arith

-- a reading that is a join message
pub request_is : {r : Reading} {x : ℕ} → r ≡ (Ok JoinRequest) → x ≡ packed (bits_of_join 0 23) → x ≡ packed_of r
unfolding packed_of
request_is e q = q ∙ sym (ap packed_of e)

pub accept_is : {r : Reading} {n x : ℕ} → r ≡ Ok (JoinAccept n) → x ≡ packed (bits_of_join 1 n) → x ≡ packed_of r
unfolding packed_of
accept_is e q = q ∙ sym (ap packed_of e)

-- and the length that it may have
pub accept_within : (f : List ℕ) {n : ℕ} → read_of f ≡ Ok (JoinAccept n) → (4 ≤ n) × (n < 256)
accept_within f e = ⊎_elim (λ q. (omega arith, omega arith)) (λ q. (omega arith, omega arith)) (accept_read f e).either

-- ---- a data frame

module _ (f : List ℕ) where
  -- where the payload is, by the frame's length
  pub start : 5 + fhdr_length_of f ≤ length f → payload_at (length f - 4) (payload_of f) ≡ header_end_of f
  start h =
      by_order (fhdr_length_of f + 6) (length f)
      (λ k.
      by_equal (fport f) 0 (λ z. rw (steps.payload-commands f k z) (omega arith))
      (λ z. rw (steps.payload_data f k z) (omega arith)))
      (λ l. rw (steps.payload-none f l) (omega arith))

  -- what its port decides
  pub bits-held : fhdr_length_of f + 6 ≤ length f → port_bits_of f ≡ pick (eqb (fport f) 0) 16787456 (fport f * 65536 + 16783360)
  unfolding port_bits_of
  bits-held h =
      by_equal (fport f) 0
      (λ z. rw (steps.port_there f h, steps.payload-commands f h z, eq-eqb _ _ z) (omega arith))
      (λ z. rw (steps.port_there f h, steps.payload_data f h z, ne_eqb _ _ z) (omega arith))

  pub bits_none : 5 + fhdr_length_of f ≤ length f → length f < fhdr_length_of f + 6 → port_bits_of f ≡ 0
  unfolding port_bits_of
  bits_none l h = rw (steps.port_absent f h, steps.payload-none f h) (omega arith)

  -- its number
  data_sum : IsData f
      → mtype f * 256 + (1 + fhdr_length_of f) * 16777216 + (length f - 4) * 4294967296 + fctrl f * 1099511627776 + fcnt f * 281474976710656 + port_bits_of f
      ≡ packed_of (read_of f)
  unfolding packed_of data_of port_bits_of
  data_sum h =
      sym (ap packed_of (reads_data f h)
      ∙ flat (mtype f) _ _ _ (payload_at (length f - 4) (payload_of f)) (length f - 4) (fctrl f) (fcnt f)
      ∙ omega (arith, start h.fits))

  -- the same with the code's own values
  pub data_is : {k h v w t r : ℕ} → IsData f → k ≡ mtype f → h ≡ fhdr_length_of f → v ≡ fcnt f
      → w ≡ fctrl f * 1099511627776 + v * 281474976710656 → t ≡ port_bits_of f
      → r ≡ k * 256 + (h + 1) * 16777216 + (length f - 4) * 4294967296 + w + t → r ≡ packed_of (read_of f)
  data_is {k} {h} {v} {w} {t} {r} is ke he ve we te e = omega (arith, data_sum is)
