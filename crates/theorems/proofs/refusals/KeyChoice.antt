-- The key of a payload goes by the payload's bytes: the network key where there is none, and else by the port. It is the key
-- that the crate's report of the port selects, for every data frame. A port with nothing behind it changes nothing.
-- Assumes nothing.
use Rattle.std.specs.Prelude.{is_some}
use Rattle.std.specs.Prelude.{Err, None, Ok, Option, Some}
use mathlib.Core.Path.{◌≡◌, refl, sym, ap, ◌∙◌}
use mathlib.Core.Bool.{Bool, true}
use mathlib.Core.List.{List}
use Prim.Native.Nat.{ℕ, ◌+◌, ◌%◌, ◌<◌}
use native.Mathlib.Omega.{arith}
use lib.Dec.{eqb}
use lib.ListN.{length}
use lib.Seq.{get_or-take}
use borrow.Author.Tests.{lt-ltb, le-ltb, eq-eqb}
use Rattle.base.specs.Bytes.{pick, at}
use Rattle.base.proofs.Cases.{by_order}
use Rattle.frame.specs.Conditions.{IsData}
use Rattle.frame.specs.Layout.{fcnt, fhdr_length_of, fport, header_end_of, payload_end_of, header, payload}
use Rattle.frame.specs.Reading.{read_of}
use Rattle.frame.specs.Refusals.{refused}
use Rattle.frame.specs.ReadingNumbers.{on_data}
use Rattle.frame.specs.Reading.{Reading}
use Rattle.frame.specs.declared.parser.Frame.TheVariants.{JoinRequest, JoinAccept, Data}
use Rattle.frame.proofs.LayoutLaws.{placed, length-payload}
use Rattle.frame.proofs.ReadingLaws.{reads_data, data_read}
use Rattle.frame_security.specs.Security.{by_network_key_of, frame_key, full_counter_of}
use Rattle.frame_security.proofs.SecurityLaws.{by_port, crypted_part-nothing}
use Rattle.frame_opening.specs.FrameOpening.{outcome, unopened, decrypted, opened_under, data_opened}
use Rattle.theorems.specs.KeyChoice.{crate_reports, selected_by, opened_as_before, OpensEmpty}

module _ (f : List ℕ) (h : IsData f) where
  -- the port in the header of a frame that has a payload
  header_port : 0 < length (payload f) → fport (header f) ≡ fport f
  header_port some =
      let p = placed f h in
      let five : at (header f) 5 ≡ at f 5 = get_or-take (header_end_of f) f 5 0 (omega (arith, p.fopts)) in
      ap (λ (b : ℕ). at (header f) (1 + (7 + b % 16))) five
      ∙ get_or-take (header_end_of f) f (1 + fhdr_length_of f) 0 (omega (arith, length-payload f))

  pub by_empty : {A : Type 0} → length (payload f) ≡ 0 → (nwk app : A) → frame_key f nwk app ≡ nwk
  unfolding by_network_key_of
  by_empty none nwk app =
      ap (λ (b : Bool). pick (pick b true (eqb (fport (header f)) 0)) nwk app) (eq-eqb (length (payload f)) 0 none)

  pub by_its_port : {A : Type 0} → 0 < length (payload f) → (nwk app : A) → frame_key f nwk app ≡ pick (eqb (fport f) 0) nwk app
  by_its_port some nwk app =
      ap (λ (b : Bool). pick b nwk app)
      (by_port (header f) (length (payload f)) some ∙ ap (λ (q : ℕ). eqb q 0) (header_port some))

  -- the key chosen is the one that was chosen before
  pub key_kept : {A : Type 0} (nwk app : A) → frame_key f nwk app ≡ selected_by (crate_reports f) nwk app
  key_kept nwk app =
      by_order (length f) (fhdr_length_of f + 6)
      (λ l.
      by_empty (omega (arith, length-payload f)) nwk app
      ∙ ap (λ (b : Bool). selected_by (pick b (Some (fport f)) None) nwk app) (sym (le-ltb (fhdr_length_of f + 6) (length f) l)))
      (λ l.
      by_its_port (omega (arith, length-payload f)) nwk app
      ∙ ap (λ (b : Bool). selected_by (pick b (Some (fport f)) None) nwk app) (sym (lt-ltb (fhdr_length_of f + 6) (length f) l)))

  -- ---- a frame without a byte of payload

  module _ (none : length (payload f) ≡ 0) where
    no_byte : payload_end_of f ≡ header_end_of f
    no_byte = let p = placed f h in omega (arith, length-payload f, p.payload)

    -- there is nothing to decrypt
    stays : (key : List ℕ) (counter : ℕ) → decrypted key counter f ≡ f
    unfolding decrypted
    stays key counter = crypted_part-nothing key f (full_counter_of counter (fcnt f)) (header_end_of f) (payload_end_of f) (sym no_byte)

    by_network : (nwk app : Option (List ℕ)) (counter : ℕ) → data_opened nwk app counter f ≡ opened_under nwk counter f
    unfolding data_opened
    by_network nwk app counter =
        ap (on_data (λ d. opened_under (frame_key f nwk app) counter f) (unopened f)) (reads_data f h)
        ∙ ap (λ (k : Option (List ℕ)). opened_under k counter f) (by_empty none nwk app)

    empty_under : (k : Option (List ℕ)) (counter : ℕ)
        → opened_under k counter f ≡ pick (is_some k) (outcome (Ok tt) f) (unopened f (refused 6))
    unfolding opened_under
    empty_under None counter = refl
    empty_under (Some key) counter = ap (outcome (Ok tt)) (stays key counter)

    by_given : (nwk app : Option (List ℕ)) (counter : ℕ) {b : Bool} → is_some nwk ≡ b
        → data_opened nwk app counter f ≡ pick b (outcome (Ok tt) f) (unopened f (refused 6))
    by_given nwk app counter e =
        by_network nwk app counter
        ∙ empty_under nwk counter
        ∙ ap (λ (c : Bool). pick c (outcome (Ok tt) f) (unopened f (refused 6))) e

    pub opens_empty : OpensEmpty f
    opens_empty =
        record {
          without = λ nwk app counter e. by_given nwk app counter e;
          with_it = λ nwk app counter e. by_given nwk app counter e;
        }

-- ---- of any bytes

-- what an opening answers, and every byte that it leaves, is what it was by the crate's report
module _ (nwk app : Option (List ℕ)) (counter : ℕ) (f : List ℕ) where
  by_reading : (r : Reading) → read_of f ≡ r
      → on_data (λ d. opened_under (frame_key f nwk app) counter f) (unopened f) r
      ≡ on_data (λ d. opened_under (selected_by (crate_reports f) nwk app) counter f) (unopened f) r
  by_reading (Ok JoinRequest) e = refl
  by_reading (Ok (JoinAccept n)) e = refl
  by_reading (Ok (Data d)) e = ap (λ (k : Option (List ℕ)). opened_under k counter f) (key_kept f (data_read f e) nwk app)
  by_reading (Err r) e = refl

  pub opening_kept : data_opened nwk app counter f ≡ opened_as_before nwk app counter f
  unfolding data_opened
  opening_kept = by_reading (read_of f) refl
