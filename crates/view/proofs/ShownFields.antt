-- What a view that the library made shows: of every frame, each field is the one that the layout names. An accepted frame is
-- long enough for each of its parts, so that the part's place lies within it; of any other frame no place is given.
-- Assumes nothing.
use Rattle.std.specs.Prelude.{Err, None, Ok, Some}
use mathlib.Core.Path.{◌≡◌, refl, sym, ap, ◌∙◌}
use mathlib.Core.Bool.{Bool, true, false}
use mathlib.Core.List.{List}
use Prim.Native.Nat.{ℕ, ◌+◌, ◌-◌, ◌%◌, ◌≤◌, zero-le}
use native.Mathlib.Omega.{arith}
use lib.Dec.{eqb}
use lib.ListN.{length, drop, length-drop}
use lib.Seq.{take_all}
use borrow.Author.Tests.{le-ltb, le-leb, lt-leb}
use Rattle.base.specs.Bytes.{pick, at, part}
use Rattle.base.proofs.Cases.{by_bool, by_order}
use Rattle.frame.specs.Layout.{fhdr_length_of, has_port_of, fport, header_end_of, payload_start_of, payload_end_of}
use Rattle.frame.specs.Reading.{Reading, port_of, held_by_of, payload_of, data_of, read_of}
use Rattle.frame.specs.ReadingNumbers.{port_given_of, port_number_of, payload_kind_of, payload_from_of, payload_to_of, plain_values_of, data_values_of, values_of}
use Rattle.frame.specs.Conditions.{IsData}
use Rattle.frame.specs.declared.parser.FrmPayload.{FrmPayload}
use Rattle.frame.specs.declared.parser.FrmPayload.TheVariants.{Nothing, Data as PlainData, MacCommands}
use Rattle.frame.specs.declared.parser.DataFrame.{DataFrame}
use Rattle.frame.specs.declared.parser.Frame.TheVariants.{JoinRequest, JoinAccept, Data}
use Rattle.frame.proofs.ReadingLaws.{Says, answers}
use Rattle.view.specs.ViewNumbers.{layout_values}
use Rattle.view.specs.Parts.{data_place_of, field_place_of, piece_of, shown_of}
use Rattle.view.specs.FrameFields.{no_field, data_field, join_field, field_in, field_of}
use Rattle.view.specs.declared.parts.Field.{Field}
use Rattle.view.specs.declared.parts.Field.TheVariants.{DevAddr, FOpts, Payload, AppEui, DevEui, DevNonce, Mic}

-- ---- a piece

-- within f it is the bytes from a up to e
pub piece_within : (f : List ℕ) (a e : ℕ) → a ≤ e → e ≤ length f → piece_of f a e ≡ (a, part a (e - a) f)
unfolding piece_of
piece_within f a e h k = simp (le-ltb e a h, le-ltb (length f) e k)

-- up to the end of f it is the rest of f
pub piece_rest : (f : List ℕ) (a : ℕ) → a ≤ length f → piece_of f a (length f) ≡ (a, drop a f)
piece_rest f a h = piece_within f a (length f) h (omega arith) ∙ ap (λ (l : List ℕ). (a, l)) (take_all (length f - a) (drop a f) (omega (arith, length-drop a f)))

pub piece_nowhere : (f : List ℕ) → piece_of f 0 0 ≡ no_field
piece_nowhere f = piece_within f 0 0 zero-le zero-le

-- ---- the port and the payload of a data frame

-- none without a port; its kind by the port, and one place for commands and for data
chosen : {A : Type 0} (g : FrmPayload → A) (b : Bool) (p s e : ℕ)
    → g (held_by_of (pick b (Some p) None) s e)
    ≡ pick b (pick (eqb p 0) (g (MacCommands s e)) (g (PlainData s e))) (g Nothing)
chosen g true p s e = by_bool (eqb p 0) (λ t. rw t) (λ t. rw t)
chosen g false p s e = refl

-- a choice between one thing and itself
same : {A : Type 0} (b : Bool) (a : A) → pick b a a ≡ a
same true a = refl
same false a = refl

module _ (f : List ℕ) where
  of_payload : {A : Type 0} (g : FrmPayload → A) → g (payload_of f)
      ≡ pick (has_port_of f) (pick (eqb (fport f) 0) (g (MacCommands (payload_start_of f) (payload_end_of f))) (g (PlainData (payload_start_of f) (payload_end_of f)))) (g Nothing)
  unfolding payload_of port_of
  of_payload g = chosen g (has_port_of f) (fport f) (payload_start_of f) (payload_end_of f)

  pub payload_start : payload_from_of (payload_of f) ≡ pick (has_port_of f) (payload_start_of f) 0
  payload_start = of_payload payload_from_of ∙ ap (λ (n : ℕ). pick (has_port_of f) n 0) (same (eqb (fport f) 0) (payload_start_of f))

  pub payload_end : payload_to_of (payload_of f) ≡ pick (has_port_of f) (payload_end_of f) 0
  payload_end = of_payload payload_to_of ∙ ap (λ (n : ℕ). pick (has_port_of f) n 0) (same (eqb (fport f) 0) (payload_end_of f))

  pub port_is_given : port_given_of (port_of f) ≡ has_port_of f
  unfolding port_of
  port_is_given = by_bool (has_port_of f) (λ e. rw e) (λ e. rw e)

  pub port_is : port_number_of (port_of f) ≡ pick (has_port_of f) (fport f) 0
  unfolding port_of
  port_is = by_bool (has_port_of f) (λ e. rw e) (λ e. rw e)

  -- the numbers of a data frame are those of the layout
  pub data_values : data_values_of (data_of f) ≡ layout_values f
  unfolding data_of data_values_of
  data_values = cc (port_is_given, port_is, of_payload payload_kind_of, payload_start, payload_end)

-- ---- the fields

join_field_lem : (f : List ℕ) → length f ≡ 23 → (field : Field) → shown_of f (plain_values_of 1 0 0 0) field ≡ join_field f field
unfolding field_place_of plain_values_of
join_field_lem f e DevAddr = piece_nowhere f
join_field_lem f e FOpts = piece_nowhere f
join_field_lem f e Payload = piece_nowhere f
join_field_lem f e AppEui = piece_within f 1 9 (omega arith) (omega arith)
join_field_lem f e DevEui = piece_within f 9 17 (omega arith) (omega arith)
join_field_lem f e DevNonce = piece_within f 17 19 (omega arith) (omega arith)
join_field_lem f e Mic = piece_rest f 19 (omega arith) ∙ ap (λ (n : ℕ). (19, drop (n - 4) f)) (sym e)

module _ (f : List ℕ) (h : IsData f) where
  -- the kind is that of a data frame
  in_place : (field : Field) → shown_of f (data_values_of (data_of f)) field
      ≡ piece_of f (data_place_of (data_values_of (data_of f)) (length f) field).start (data_place_of (data_values_of (data_of f)) (length f) field).end
  unfolding field_place_of data_values_of
  in_place field = refl

  payload_piece : piece_of f (payload_from_of (payload_of f)) (payload_to_of (payload_of f)) ≡ data_field f Payload
  payload_piece =
      by_order (fhdr_length_of f + 6) (length f)
      (λ k.
      let there : has_port_of f ≡ true = le-leb (fhdr_length_of f + 6) (length f) k in
      let first : header_end_of f ≡ payload_start_of f = omega arith in
      rw (payload_start f, payload_end f, there, first) (piece_within f (payload_start_of f) (payload_end_of f) (omega arith) (omega arith)))
      (λ k.
      let none : has_port_of f ≡ false = lt-leb (fhdr_length_of f + 6) (length f) k in
      rw (payload_start f, payload_end f, none) (piece_nowhere f))

  data_field_lem : (field : Field) → shown_of f (data_values_of (data_of f)) field ≡ data_field f field
  unfolding data_of data_values_of
  data_field_lem DevAddr = in_place DevAddr ∙ piece_within f 1 5 (omega arith) (omega (arith, h.least))
  data_field_lem FOpts =
      let long : 1 + fhdr_length_of f - 8 ≡ at f 5 % 16 = omega arith in
      in_place FOpts ∙ piece_within f 8 (1 + fhdr_length_of f) (omega arith) (omega (arith, h.fits)) ∙ ap (λ (n : ℕ). (8, part 8 n f)) long
  data_field_lem Payload = in_place Payload ∙ payload_piece
  data_field_lem AppEui = in_place AppEui ∙ piece_nowhere f
  data_field_lem DevEui = in_place DevEui ∙ piece_nowhere f
  data_field_lem DevNonce = in_place DevNonce ∙ piece_nowhere f
  data_field_lem Mic = in_place Mic ∙ piece_rest f (length f - 4) (omega arith)

accept_field : (f : List ℕ) (n : ℕ) (field : Field) → shown_of f (plain_values_of 2 0 0 n) field ≡ no_field
unfolding field_place_of plain_values_of
accept_field f n field = piece_nowhere f

refused_field : (f : List ℕ) (n p : ℕ) (field : Field) → shown_of f (plain_values_of 0 n p 0) field ≡ no_field
unfolding field_place_of plain_values_of
refused_field f n p field = piece_nowhere f

-- by what an answer says of the frame
by_answer : (f : List ℕ) (r : Reading) → Says f r → (field : Field) → shown_of f (values_of r) field ≡ field_in r f field
by_answer f (Ok JoinRequest) h field = join_field_lem f h.long field
by_answer f (Ok (JoinAccept n)) h field = accept_field f n field
by_answer f (Ok (Data d)) h field = ap (λ (x : DataFrame). shown_of f (data_values_of x) field) h.1 ∙ data_field_lem f h.0 field
by_answer f (Err r) h field = refused_field f r.number r.place field

-- every field of every frame
pub shows : (f : List ℕ) (field : Field) → shown_of f (values_of (read_of f)) field ≡ field_of f field
shows f field = by_answer f (read_of f) (answers f) field
