-- Each field comes back out of a packed number by a shift and a mask: one law over the field's index, and what it says of
-- a reading.
-- Assumes nothing.
use Rattle.std.specs.Prelude.{Err, Ok}
use mathlib.Core.Path.{◌≡◌, sym, ap, ◌∙◌, subst}
use mathlib.Core.Bool.{Bool, true, false}
use mathlib.Core.List.{List, [], ◌∷◌}
use mathlib.Core.Logic.{⊎_elim}
use Prim.Native.Nat.{ℕ, zero, suc, ◌+◌, ◌-◌, ◌/◌, ◌%◌, ◌^◌, ◌<◌}
use native.Mathlib.Omega.{arith}
use lib.ListN.{length}
use lib.Pow.{high, low, shr-shr}
use Rattle.base.specs.Bytes.{pick, AreBytes}
use Rattle.base.proofs.Cases.{by_order}
use Rattle.frame.specs.Layout.{mtype, fctrl, fcnt, fhdr_length_of, header_end_of}
use Rattle.frame.specs.Reading.{port_of, payload_of, data_of, read_of}
use Rattle.frame.specs.ReadingNumbers.{port_given_of, port_number_of, payload_kind_of, number_of}
use Rattle.frame.specs.Conditions.{IsData}
use Rattle.frame.specs.PackedReading.{Bits, packed, nth, bit_at, Fit, payload_at, bits_of_data, bits_of, packed_of}
use Rattle.frame.specs.declared.parser.FrmPayload.{FrmPayload}
use Rattle.frame.specs.declared.parser.FrmPayload.TheVariants.{Nothing, Data as PlainData, MacCommands}
use Rattle.frame.specs.declared.parser.DataFrame.{DataFrame}
use Rattle.frame.specs.Reading.{Reading}
use Rattle.frame.specs.declared.parser.Frame.TheVariants.{JoinRequest, JoinAccept, Data}
use Rattle.frame.proofs.ReadingSteps as steps
use Rattle.frame.proofs.ReadingLaws.{Says, answers, reads_data, given-number}
use Rattle.frame.proofs.PackedLaws.{start}

-- ---- the law

pub field : (bs : List Bits) (i : ℕ) → Fit bs → packed bs / 2 ^ bit_at bs i % 2 ^ (nth bs i).wide ≡ (nth bs i).value
field [] i h = omega arith
field (b ∷ bs) zero h = ap (λ (n : ℕ). n % 2 ^ b.wide) (omega arith) ∙ low (packed bs) b.wide h.0
field (b ∷ bs) (suc i) h =
    ap (λ (n : ℕ). n % 2 ^ (nth bs i).wide)
    (sym (shr-shr (packed (b ∷ bs)) b.wide (bit_at bs i)) ∙ ap (λ (n : ℕ). n / 2 ^ bit_at bs i) (high (packed bs) b.wide h.0))
    ∙ field bs i h.1

-- ---- what fits

bit-fits : (b : Bool) → pick b 1 0 < 2
bit-fits true = omega arith
bit-fits false = omega arith

kind_fits : (p : FrmPayload) → payload_kind_of p < 4
kind_fits Nothing = omega arith
kind_fits (PlainData a b) = omega arith
kind_fits (MacCommands a b) = omega arith

module _ (f : List ℕ) (b : AreBytes f) where
  port_fits : port_number_of (port_of f) < 256
  port_fits =
      by_order (fhdr_length_of f + 6) (length f) (λ h. rw (steps.port_there f h) (b (1 + fhdr_length_of f)))
      (λ h. rw (steps.port_absent f h) (omega arith))

  data_fits : IsData f → Fit (bits_of_data (data_of f))
  unfolding data_of
  data_fits h =
      let five = b 5 in
      let six = b 6 in
      let seven = b 7 in
      let e : payload_at (length f - 4) (payload_of f) ≡ header_end_of f = start f h.fits in
      (omega arith, (omega arith, (bit-fits (port_given_of (port_of f)), (kind_fits (payload_of f), (omega arith, (port_fits, (omega arith, (omega arith, (omega arith, (omega arith, tt))))))))))

  reading_fits : (r : Reading) → Says f r → Fit (bits_of r)
  reading_fits (Ok JoinRequest) s =
      (omega arith, (omega arith, (omega arith, (omega arith, (omega arith, (omega arith, (omega arith, (omega arith, (omega arith, (omega arith, tt))))))))))
  reading_fits (Ok (JoinAccept n)) s =
      let l : n < 256 = ⊎_elim (λ q. omega arith) (λ q. omega arith) s.either in
      (omega arith, (omega arith, (omega arith, (omega arith, (omega arith, (omega arith, (omega arith, (omega arith, (omega arith, (omega arith, tt))))))))))
  reading_fits (Ok (Data d)) s = subst (λ (x : DataFrame). Fit (bits_of_data x)) (sym s.1) (data_fits s.0)
  reading_fits (Err r) s = ((given-number f r s).1, (omega arith, tt))

  -- ---- every field of what reading answers, whatever it is

  pub back : (i : ℕ)
      → packed_of (read_of f) / 2 ^ bit_at (bits_of (read_of f)) i % 2 ^ (nth (bits_of (read_of f)) i).wide
      ≡ (nth (bits_of (read_of f)) i).value
  unfolding packed_of
  back i = field (bits_of (read_of f)) i (reading_fits (read_of f) (answers f))

  -- the low byte is the number of the reading, 0 where it is accepted
  number_of_lem : (r : Reading) → Says f r → packed_of r % 256 ≡ number_of r
  unfolding packed_of
  number_of_lem (Ok JoinRequest) s = omega arith
  number_of_lem (Ok (JoinAccept n)) s = omega arith
  number_of_lem (Ok (Data d)) s = omega arith
  number_of_lem (Err r) s =
      let l = (given-number f r s).1 in
      omega arith

  pub number_back : packed_of (read_of f) % 256 ≡ number_of (read_of f)
  number_back = number_of_lem (read_of f) (answers f)

-- ---- a data frame

-- its fields, from its number r
pub record Back (f : List ℕ) (r : ℕ) : Type 0 where
  pub number : r % 2 ^ 8 ≡ 0
  pub type : r / 2 ^ 8 % 2 ^ 3 ≡ mtype f
  pub given : r / 2 ^ 11 % 2 ≡ pick (port_given_of (port_of f)) 1 0
  pub kind : r / 2 ^ 12 % 2 ^ 2 ≡ payload_kind_of (payload_of f)
  pub port : r / 2 ^ 16 % 2 ^ 8 ≡ port_number_of (port_of f)
  pub payload : r / 2 ^ 24 % 2 ^ 8 ≡ header_end_of f
  pub mic : r / 2 ^ 32 % 2 ^ 8 ≡ length f - 4
  pub control : r / 2 ^ 40 % 2 ^ 8 ≡ fctrl f
  pub counter : r / 2 ^ 48 % 2 ^ 16 ≡ fcnt f
  pub fopts : 8 + r / 2 ^ 40 % 2 ^ 4 ≡ 1 + fhdr_length_of f

module _ (f : List ℕ) (b : AreBytes f) (h : IsData f) where
  nth_back : (i : ℕ)
      → packed (bits_of_data (data_of f)) / 2 ^ bit_at (bits_of_data (data_of f)) i % 2 ^ (nth (bits_of_data (data_of f)) i).wide
      ≡ (nth (bits_of_data (data_of f)) i).value
  nth_back i = field (bits_of_data (data_of f)) i (data_fits f b h)

  is : packed_of (read_of f) ≡ packed (bits_of_data (data_of f))
  unfolding packed_of
  is = ap packed_of (reads_data f h)

  pub data_back : Back f (packed_of (read_of f))
  unfolding data_of
  data_back =
      subst (λ (r : ℕ). Back f r) (sym is)
      (record {
        number = omega (arith, nth_back 0);
        type = nth_back 1;
        given = nth_back 2;
        kind = nth_back 3;
        port = nth_back 5;
        payload = nth_back 6 ∙ start f h.fits;
        mic = nth_back 7;
        control = nth_back 8;
        counter = nth_back 9;
        fopts = omega (arith, nth_back 8);
      })
