-- What building gives, from LoRaWAN 1.0 section 4 (docs/RULES.md, Building): tests in their order, and of data frames the
-- clear bytes and the refusals.
-- Assumes nothing.
use Rattle.std.specs.Prelude.{Bool, true, false, not, List, [], ◌∷◌, ◌++◌, ℕ, ◌+◌, ◌/◌, ◌%◌, ltb, eqb, length, None, Option, Some}
use Rattle.base.specs.Bytes.{pick}
use Rattle.frame_build.specs.declared.creator.data_frame.DataParts.{DataParts}

-- ---- tests in their order

abbrev pub both : Bool → Bool → Bool
both a b = pick a b false

abbrev pub either : Bool → Bool → Bool
either a b = pick a true b

-- the number of the first test that holds; 0 where none does
abbrev pub first_of : List (Bool × ℕ) → ℕ
first_of [] = 0
first_of (t ∷ ts) = pick t.0 t.1 (first_of ts)

-- ---- data frames (4.3)

-- 4.2.1 the first byte: 2 and 3 unconfirmed, 4 and 5 confirmed; the odd ones go down
abbrev pub mhdr_of : Bool → Bool → ℕ
mhdr_of confirmed uplink = pick confirmed 128 64 + pick uplink 0 32

-- the port byte, if there is one
abbrev pub port_bytes : Option ℕ → List ℕ
port_bytes None = []
port_bytes (Some p) = p ∷ []

abbrev pub is_absent : Option ℕ → Bool
is_absent None = true
is_absent (Some p) = false

abbrev pub is_zero : Option ℕ → Bool
is_zero None = false
is_zero (Some p) = eqb p 0

-- 4.3.1 commands go into FOpts, on port 0 into the payload
abbrev pub fopts_of : Option ℕ → List ℕ → List ℕ
fopts_of port commands = pick (is_zero port) [] commands

abbrev pub body_of : Option ℕ → List ℕ → List ℕ → List ℕ
body_of port commands body = pick (is_zero port) commands body

-- MHDR, DevAddr, FCtrl with FOptsLen in its low nibble, FCnt low byte first: the eight bytes that every data frame
-- begins with
unfoldable pub fixed_header_of : DataParts → ℕ → List ℕ
fixed_header_of d fopts_length =
    mhdr_of d.confirmed d.uplink
    ∷ (d.dev_addr ++ (d.fctrl + fopts_length) ∷ (d.fcnt % 256) ∷ (d.fcnt / 256 % 256) ∷ [])

-- every byte ahead of the payload: those eight, FOpts and FPort
unfoldable pub data_header : DataParts → List ℕ → List ℕ
data_header d commands =
    fixed_header_of d (length (fopts_of d.port commands)) ++ fopts_of d.port commands ++ port_bytes d.port

-- a data frame without its MIC, before encryption
abbrev pub clear_data : DataParts → List ℕ → List ℕ → List ℕ
clear_data d commands body = data_header d commands ++ body_of d.port commands body

-- the length that the frame would have, its MIC included
abbrev pub data_length : DataParts → List ℕ → List ℕ → ℕ
data_length d commands body = length (clear_data d commands body) + 4

-- the refusals of data building, each with its test, in the order 7, 13, 9, 10, 11, 12
abbrev pub data_tests : DataParts → List ℕ → List ℕ → ℕ → List (Bool × ℕ)
data_tests d commands body room =
    (ltb room 255, 7)
    ∷ (not (eqb (d.fctrl % 16) 0), 13)
    ∷ (both (not (is_zero d.port)) (ltb 15 (length commands)), 9)
    ∷ (both (is_zero d.port) (ltb 0 (length body)), 10)
    ∷ (both (is_absent d.port) (ltb 0 (length body)), 11)
    ∷ (ltb 255 (data_length d commands body), 12)
    ∷ []

unfoldable pub data_refusal_of : DataParts → List ℕ → List ℕ → ℕ → ℕ
data_refusal_of d commands body room = first_of (data_tests d commands body room)
