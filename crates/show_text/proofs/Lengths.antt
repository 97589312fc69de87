-- How long each line is at most, and so each text: a number below 100,000 has at most five digits, any number has at most
-- twenty, a byte has two.
-- Assumes nothing.
use Rattle.std.specs.Prelude.{Err, None, Ok, Option, Some}
use mathlib.Core.Path.{◌≡◌, refl}
use mathlib.Core.List.{List, [], ◌∷◌, ◌++◌}
use mathlib.Core.Logic.{⊎_elim}
use Prim.Native.Nat.{ℕ, ◌+◌, ◌-◌, ◌*◌, ◌≤◌, ◌<◌}
use native.Mathlib.Omega.{arith}
use lib.ListN.{length, length-append, length-drop, length-take}
use borrow.Author.Tests.{lt-ltb, le-ltb}
use Rattle.base.specs.Bytes.{part, AreBytes}
use Rattle.base.proofs.Cases.{by_order}
use Rattle.frame.specs.Layout.{mic_of}
use Rattle.frame.specs.Reading.{read_of}
use Rattle.frame.specs.ReadingNumbers.{port_number_of}
use Rattle.frame.specs.Refusals.{refusal}
use Rattle.frame.specs.declared.refusals.Refusal.{Refusal}
use Rattle.frame.specs.declared.parser.FrmPayload.{FrmPayload}
use Rattle.frame.specs.declared.parser.FrmPayload.TheVariants.{Nothing, Data as PlainData, MacCommands}
use Rattle.frame.specs.declared.parser.DataFrame.{DataFrame}
use Rattle.frame.specs.Reading.{Reading}
use Rattle.frame.specs.declared.parser.Frame.TheVariants.{JoinRequest, JoinAccept, Data}
use Rattle.frame.proofs.ReadingLaws.{accept_read, data_read, data_fields}
use Rattle.show_text.specs.Text.{hex_of, decimal_of, type_word, length_word, fcnt_word, fopts_word, port_word, refused_word, at_word, payload_word, space, newline, hex_line_of, number_line, pair_line, port_line, place_line, Spans, payload_line, header_text, rest_text, data_text, join_request_text, join_accept_text, refusal_text, text_of_reading, text_of, text_of_input}
use Rattle.show_text.proofs.Decimal.{length-decimal_in, length_small}
use Rattle.show_text.proofs.Fields.{Fields, fields}

pub length-hex_of : (s : List ℕ) → length (hex_of s) ≡ 2 * length s
unfolding hex_of
length-hex_of [] = refl
length-hex_of (b ∷ s) = omega (arith, length-hex_of s)

pub length-decimal_of : (n : ℕ) → length (decimal_of n) ≤ 20
unfolding decimal_of
length-decimal_of n = length-decimal_in 20 n

pub length_five : (n : ℕ) → n < 100000 → length (decimal_of n) ≤ 5
unfolding decimal_of
length_five n h = length_small 20 4 n h

pub length-hex_line_of : (word bytes : List ℕ) → length (hex_line_of word bytes) ≡ length word + 2 * length bytes + 1
unfolding hex_line_of
length-hex_line_of word bytes = simp (length-append, length-hex_of) (omega arith)

pub length-number_line : (word : List ℕ) (n : ℕ) → length (number_line word n) ≡ length (word ++ decimal_of n) + 1
unfolding number_line
length-number_line word n = length-append (word ++ decimal_of n) newline

pub length_small_line : (word : List ℕ) (n : ℕ) → n < 100000 → length (number_line word n) ≤ length word + 6
length_small_line word n h =
    omega (arith, length-number_line word n, length-append word (decimal_of n), length_five n h)

pub length-pair_line : (word : List ℕ) (m : ℕ) (between : List ℕ) (n : ℕ)
    → length (pair_line word m between n) ≡ length (word ++ decimal_of m) + length (number_line between n)
unfolding pair_line
length-pair_line word m between n = length-append (word ++ decimal_of m) (number_line between n)

pub length_small_pair : (word : List ℕ) (m : ℕ) (between : List ℕ) (n : ℕ) → m < 100000 → n < 100000
    → length (pair_line word m between n) ≤ length word + length between + 11
length_small_pair word m between n h k =
    omega (
      arith,
      length-pair_line word m between n,
      length-append word (decimal_of m),
      length_five m h,
      length_small_line between n k,
    )

pub length-port_line : (p : (Option ℕ)) → port_number_of p < 100000 → length (port_line p) ≤ 11
unfolding port_line
length-port_line None h = omega arith
length-port_line (Some p) h = length_small_line port_word p h

length-place_line : (start end : ℕ) → start ≤ end → end < 100000 → length (place_line start end) ≤ 20
unfolding place_line
length-place_line start end h k =
    length_small_pair payload_word start space (end - start) (omega arith) (omega arith)

pub length-payload_line : (p : FrmPayload) → Spans p → length (payload_line p) ≤ 20
unfolding payload_line
length-payload_line Nothing h = omega arith
length-payload_line (PlainData start end) h = length-place_line start end h.0 h.1
length-payload_line (MacCommands start end) h = length-place_line start end h.0 h.1

pub length_part : (i n : ℕ) (s : List ℕ) → length (part i n s) ≤ n
length_part i n s = simp length-take (omega arith)

pub length-mic_of : (f : List ℕ) → length (mic_of f) ≤ 4
length-mic_of f = simp length-drop (omega arith)

module _ (f : List ℕ) (d : DataFrame) (known : Fields f d) where
  pub length-header_text : length (header_text f d) ≤ 45
  unfolding header_text
  length-header_text =
      simp (length-append, length-hex_line_of)
      (omega (
        arith,
        length_small_line type_word d.mtype known.type_small,
        length_part 1 4 f,
        length_small_line fcnt_word d.fcnt known.fcnt_small,
      ))

  length-rest_text : length (rest_text f d) ≤ 56
  unfolding rest_text
  length-rest_text =
      simp (length-append, length-hex_line_of)
      (omega (
        arith,
        length_small_line fopts_word (d.fopts_end - 8) (omega (arith, known.fopts_most)),
        length-port_line d.port known.port_small,
        length-payload_line d.payload known.spans,
        length-mic_of f,
      ))

  length-data_text : length (data_text f d) ≤ 128
  unfolding data_text
  length-data_text = simp length-append (omega (arith, length-header_text, length-rest_text))

length-join_request_text : (f : List ℕ) → length (join_request_text f) ≤ 77
unfolding join_request_text
length-join_request_text f =
    simp (length-append, length-hex_line_of)
    (omega (
      arith,
      length_small_line type_word 0 (omega arith),
      length_part 1 8 f,
      length_part 9 8 f,
      length_part 17 2 f,
      length-mic_of f,
    ))

length-join_accept_text : (n : ℕ) → n < 100000 → length (join_accept_text n) ≤ 24
unfolding join_accept_text
length-join_accept_text n h =
    simp length-append
    (omega (arith, length_small_line type_word 1 (omega arith), length_small_line length_word n h))

pub length_refusal_line : (n p : ℕ) → length (pair_line refused_word n at_word p) ≤ 53
length_refusal_line n p =
    omega (
      arith,
      length-pair_line refused_word n at_word p,
      length-append refused_word (decimal_of n),
      length-decimal_of n,
      length-number_line at_word p,
      length-append at_word (decimal_of p),
      length-decimal_of p,
    )

length-refusal_text : (r : Refusal) → length (refusal_text r) ≤ 53
unfolding refusal_text
length-refusal_text r = length_refusal_line r.number r.place

-- ---- every text has room in a buffer of 128 bytes

module _ (f : List ℕ) (bytes : AreBytes f) where
  length-text_of_reading : (r : Reading) → read_of f ≡ r → length (text_of_reading f r) ≤ 128
  unfolding text_of_reading
  length-text_of_reading (Ok JoinRequest) e = omega (arith, length-join_request_text f)
  length-text_of_reading (Ok (JoinAccept n)) e =
      let small : n < 100000 = ⊎_elim (λ q. omega arith) (λ q. omega arith) (accept_read f e).either in
      omega (arith, length-join_accept_text n small)
  length-text_of_reading (Ok (Data d)) e = length-data_text f d (fields f d bytes (data_read f e) (data_fields f e))
  length-text_of_reading (Err r) e = omega (arith, length-refusal_text r)

  length-text_of : length (text_of f) ≤ 128
  unfolding text_of
  length-text_of = length-text_of_reading (read_of f) refl

  pub length-text_of_input : (n : ℕ) → length (text_of_input f n) ≤ 128
  unfolding text_of_input
  length-text_of_input n =
      by_order n 255 (λ h. simp (le-ltb 255 n h) length-text_of)
      (λ h. simp (lt-ltb 255 n h) (omega (arith, length-refusal_text (refusal 12 n))))
