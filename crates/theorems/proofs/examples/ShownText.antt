-- The examples of docs/RULES.md, Text, computed from the definition: the text of its frame is its eight lines to the byte, and
-- that of a refusal one line, which has the number and the whole place.
-- Assumes nothing.
use mathlib.Core.Path.{◌≡◌, refl}
use mathlib.Core.List.{List, [], ◌∷◌, ◌++◌}
use Prim.Native.Nat.{ℕ}
use Rattle.base.specs.Bytes.{zeros}
use Rattle.frame.specs.Reading.{port_of, payload_of, data_of, read_join_request_of, read_data_of, read_type_of, read_of}
use Rattle.show_text.specs.Text.{digit_of, hex_of, decimal_in, decimal_of, hex_line_of, number_line, pair_line, port_line, place_line, payload_line, header_text, rest_text, data_text, refusal_text, text_of_reading, text_of, text_of_input}

-- 40 04030201 00 0500, what follows, 11223344
abbrev frame_with : List ℕ → List ℕ
frame_with middle = (64 ∷ 4 ∷ 3 ∷ 2 ∷ 1 ∷ 0 ∷ 5 ∷ 0 ∷ []) ++ middle ++ 17 ∷ 34 ∷ 51 ∷ 68 ∷ []

-- its text: each line as it is printed, with its line end
abbrev text_with : List ℕ → List ℕ
text_with middle =
    -- type 2
    116 ∷ 121 ∷ 112 ∷ 101 ∷ 32 ∷ 50 ∷ 10 ∷
    -- addr 04030201
    97 ∷ 100 ∷ 100 ∷ 114 ∷ 32 ∷ 48 ∷ 52 ∷ 48 ∷ 51 ∷ 48 ∷ 50 ∷ 48 ∷ 49 ∷ 10 ∷
    -- fctrl 00
    102 ∷ 99 ∷ 116 ∷ 114 ∷ 108 ∷ 32 ∷ 48 ∷ 48 ∷ 10 ∷
    -- fcnt 5
    102 ∷ 99 ∷ 110 ∷ 116 ∷ 32 ∷ 53 ∷ 10 ∷
    -- fopts 0
    (102 ∷ 111 ∷ 112 ∷ 116 ∷ 115 ∷ 32 ∷ 48 ∷ 10 ∷ []) ++
    -- the lines between
    middle ++
    -- mic 11223344
    109 ∷ 105 ∷ 99 ∷ 32 ∷ 49 ∷ 49 ∷ 50 ∷ 50 ∷ 51 ∷ 51 ∷ 52 ∷ 52 ∷ 10 ∷ []

-- "port " and a digit, "payload 9 " and a digit
abbrev port_lines : ℕ → ℕ → List ℕ
port_lines port count =
    112 ∷ 111 ∷ 114 ∷ 116 ∷ 32 ∷ port ∷ 10 ∷ 112 ∷ 97 ∷ 121 ∷ 108 ∷ 111 ∷ 97 ∷ 100 ∷ 32 ∷ 57 ∷ 32 ∷ count ∷ 10 ∷ []

-- port 0 with the byte AA: port 0, payload 9 1
pub example : text_of (frame_with (0 ∷ 170 ∷ [])) ≡ text_with (port_lines 48 49)
unfolding text_of text_of_reading data_text header_text rest_text payload_line place_line pair_line port_line number_line hex_line_of decimal_of decimal_in hex_of digit_of read_of read_type_of read_data_of data_of payload_of port_of
example = refl

-- port 5 with nothing behind it: port 5, payload 9 0
pub heartbeat : text_of (frame_with (5 ∷ [])) ≡ text_with (port_lines 53 48)
unfolding text_of text_of_reading data_text header_text rest_text payload_line place_line pair_line port_line number_line hex_line_of decimal_of decimal_in hex_of digit_of read_of read_type_of read_data_of data_of payload_of port_of
heartbeat = refl

-- ---- refusals, each with its place

-- "refused ", the digits of a number, " at ", those of a place, and the line end
abbrev refusal_line : List ℕ → List ℕ → List ℕ
refusal_line number place =
    114 ∷ 101 ∷ 102 ∷ 117 ∷ 115 ∷ 101 ∷ 100 ∷ 32 ∷ [] ++ number ++ 32 ∷ 97 ∷ 116 ∷ 32 ∷ [] ++ place ++ 10 ∷ []

-- nothing at all: refused 1 at 0
pub of_nothing : text_of [] ≡ refusal_line (49 ∷ []) (48 ∷ [])
unfolding text_of text_of_reading refusal_text pair_line number_line decimal_of decimal_in digit_of read_of
of_nothing = refl

-- 22 zeros, a byte less than a join-request has: refused 4 at 22
pub of_short_request : text_of (zeros 22) ≡ refusal_line (52 ∷ []) (50 ∷ 50 ∷ [])
unfolding text_of text_of_reading refusal_text pair_line number_line decimal_of decimal_in digit_of read_of read_type_of read_join_request_of
of_short_request = refl

-- 70,000 bytes, whatever they are: refused 12 at 70000
pub of_many : (start : List ℕ) → text_of_input start 70000 ≡ refusal_line (49 ∷ 50 ∷ []) (55 ∷ 48 ∷ 48 ∷ 48 ∷ 48 ∷ [])
unfolding text_of_input refusal_text pair_line number_line decimal_of decimal_in digit_of
of_many start = refl

-- as many as a number of 64 bits can say: refused 12 at 18446744073709551615
pub of_most : (start : List ℕ) → text_of_input start 18446744073709551615
    ≡ refusal_line (49 ∷ 50 ∷ [])
    (49 ∷ 56 ∷ 52 ∷ 52 ∷ 54 ∷ 55 ∷ 52 ∷ 52 ∷ 48 ∷ 55 ∷ 51 ∷ 55 ∷ 48 ∷ 57 ∷ 53 ∷ 53 ∷ 49 ∷ 54 ∷ 49 ∷ 53 ∷ [])
unfolding text_of_input refusal_text pair_line number_line decimal_of decimal_in digit_of
of_most start = refl
