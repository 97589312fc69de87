-- What a view that `View::of` made holds and shows, by the kind of the frame: of a data frame and of a join-request the numbers
-- and the parts that the layout names, of any other nothing.
-- Assumes nothing.
use Rattle.std.specs.Prelude.{Err}
use mathlib.Core.Path.{◌≡◌, ap, ◌∙◌}
use mathlib.Core.List.{List}
use Prim.Native.Nat.{ℕ, ◌+◌, ◌-◌}
use native.Mathlib.Omega.{arith}
use lib.ListN.{length}
use borrow.Author.Tests.{leb-false}
use denote.Ref.{Bor}
use Rattle.base.proofs.Cases.{by_bool}
use Rattle.frame.specs.Layout.{header_end_of, payload_end_of, fhdr_length_of, has_port_of, dev_addr_of, payload, mic_of}
use Rattle.frame.specs.Reading.{read_of}
use Rattle.frame.specs.Conditions.{IsJoinRequest, IsJoinAccept, IsData}
use Rattle.frame.specs.Reading.{Reading}
use Rattle.frame.specs.declared.refusals.Refusal.{Refusal}
use Rattle.frame.proofs.ReadingLaws.{reads_request, reads_accept, reads_data}
use Rattle.frame.specs.ReadingNumbers.{plain_values_of, values_of}
use Rattle.view.specs.ViewNumbers.{layout_values}
use Rattle.view.specs.Parts.{within}
use Rattle.view.specs.FrameFields.{fopts, no_field, data_field, join_field, field_in, field_of}
use Rattle.view.specs.Viewed.{view_of, part_of}
use Rattle.view.specs.declared.parts.Field.{Field}
use Rattle.view.specs.declared.parts.Field.TheVariants.{DevAddr, FOpts, Payload, Mic}
use Rattle.view.proofs.ShownFields.{shows, data_values}

-- a part of a view is that field of the frame
pub shown_field : (x : Bor (List ℕ)) (field : Field) → part_of (view_of x) field ≡ within x (field_of x.now field)
shown_field x field = ap (within x) (shows x.now field)

-- by the reading
by_reading : (x : Bor (List ℕ)) {r : Reading} → read_of x.now ≡ r → (field : Field) → part_of (view_of x) field ≡ within x (field_in r x.now field)
by_reading x e field = shown_field x field ∙ ap (λ (r : Reading). within x (field_in r x.now field)) e

-- where a data frame has no port, the layout's payload is empty
pub payload_bytes : (f : List ℕ) → IsData f → (data_field f Payload).1 ≡ payload f
payload_bytes f h =
    by_bool (has_port_of f) (λ e. rw e)
    (λ e.
    let short : length f ≡ fhdr_length_of f + 5 = omega (arith, leb-false (fhdr_length_of f + 6) (length f) e, h.fits) in
    let empty : payload_end_of f - header_end_of f ≡ 0 = omega arith in
    rw (e, empty))

-- ---- a data frame

module _ (x : Bor (List ℕ)) (h : IsData x.now) where
  pub data_holds : (view_of x).numbers ≡ layout_values x.now
  data_holds = ap values_of (reads_data x.now h) ∙ data_values x.now

  pub data_shows : (field : Field) → part_of (view_of x) field ≡ within x (data_field x.now field)
  data_shows field = by_reading x (reads_data x.now h) field

  pub dev_addr_shown : (part_of (view_of x) DevAddr).1 ≡ dev_addr_of x.now
  dev_addr_shown = ap (λ (p : (ℕ × ℕ) × List ℕ). p.1) (data_shows DevAddr)

  pub fopts_shown : (part_of (view_of x) FOpts).1 ≡ fopts x.now
  fopts_shown = ap (λ (p : (ℕ × ℕ) × List ℕ). p.1) (data_shows FOpts)

  pub payload_shown : (part_of (view_of x) Payload).1 ≡ payload x.now
  payload_shown = ap (λ (p : (ℕ × ℕ) × List ℕ). p.1) (data_shows Payload) ∙ payload_bytes x.now h

  pub mic_shown : (part_of (view_of x) Mic).1 ≡ mic_of x.now
  mic_shown = ap (λ (p : (ℕ × ℕ) × List ℕ). p.1) (data_shows Mic)

-- ---- the others

pub request_holds : (x : Bor (List ℕ)) → IsJoinRequest x.now → (view_of x).numbers ≡ plain_values_of 1 0 0 0
request_holds x h = ap values_of (reads_request x.now h)

pub request_shows : (x : Bor (List ℕ)) → IsJoinRequest x.now → (field : Field) → part_of (view_of x) field ≡ within x (join_field x.now field)
request_shows x h field = by_reading x (reads_request x.now h) field

pub accept_holds : (x : Bor (List ℕ)) (n : ℕ) → IsJoinAccept x.now n → (view_of x).numbers ≡ plain_values_of 2 0 0 n
accept_holds x n h = ap values_of (reads_accept x.now n h)

pub accept_shows : (x : Bor (List ℕ)) (n : ℕ) → IsJoinAccept x.now n → (field : Field) → part_of (view_of x) field ≡ within x no_field
accept_shows x n h field = by_reading x (reads_accept x.now n h) field

pub refused_holds : (x : Bor (List ℕ)) {r : Refusal} → read_of x.now ≡ Err r → (view_of x).numbers ≡ plain_values_of 0 r.number r.place 0
refused_holds x e = ap values_of e

pub refused_shows : (x : Bor (List ℕ)) {r : Refusal} → read_of x.now ≡ Err r → (field : Field) → part_of (view_of x) field ≡ within x no_field
refused_shows x e field = by_reading x e field
