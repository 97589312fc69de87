-- Where the parts of a frame lie: each place of an accepted data frame is within it, header, payload and MIC make up the
-- frame, and reading looks at nothing past the header. The bounds are arithmetic from what `IsData` says.
-- Assumes nothing.
use mathlib.Core.Path.{◌≡◌, sym, ap, ◌∙◌}
use mathlib.Core.List.{List, ◌++◌}
use Prim.Native.Nat.{ℕ, ◌+◌, ◌-◌, ◌%◌, ◌≤◌, ◌<◌}
use native.Mathlib.Omega.{arith}
use lib.ListN.{length, drop, length-take, length-drop, take-append-drop}
use lib.Seq.{drop-drop, take_all}
use Rattle.base.specs.Bytes.{at}
use Rattle.base.specs.Storing.{run_at}
use Rattle.base.proofs.StoringLaws.{run_inside}
use Rattle.frame.specs.Layout.{fhdr_length_of, fport, payload_start_of, payload_end_of, header_end_of, header, payload, mic_of}
use Rattle.frame.specs.Reading.{port_of, payload_of, data_of, read_join_request_of, read_join_accept_of, read_data_of, read_type_of, read_of}
use Rattle.frame.specs.Conditions.{IsData}

-- ---- places

-- FOpts end, header, payload and MIC follow one another within the frame
pub record Placed (f : List ℕ) : Type 0 where
  pub fixed : 8 ≤ 1 + fhdr_length_of f
  pub fopts : 1 + fhdr_length_of f ≤ header_end_of f
  pub header_most : header_end_of f ≤ 24
  pub header_start : header_end_of f ≤ payload_start_of f
  pub payload : header_end_of f ≤ payload_end_of f
  pub payload_most : payload_end_of f - header_end_of f ≤ 242
  pub mic : payload_end_of f + 4 ≡ length f

pub placed : (f : List ℕ) → IsData f → Placed f
placed f h =
    record {
      fixed = omega arith;
      fopts = omega arith;
      header_most = omega arith;
      header_start = omega arith;
      payload = omega arith;
      payload_most = omega arith;
      mic = omega arith;
    }

-- ---- parts

pub length-header : (f : List ℕ) → length (header f) ≡ header_end_of f
length-header f = length-take (header_end_of f) f ∙ omega arith

pub length-payload : (f : List ℕ) → length (payload f) ≡ payload_end_of f - header_end_of f
length-payload f =
    length-take (payload_end_of f - header_end_of f) (drop (header_end_of f) f) ∙ omega (arith, length-drop (header_end_of f) f)

-- header, payload and MIC are the frame
pub parts : (f : List ℕ) → header f ++ (payload f ++ mic_of f) ≡ f
parts f =
    let e : header_end_of f + (payload_end_of f - header_end_of f) ≡ length f - 4 = omega arith in
    ap (λ (l : List ℕ). header f ++ (payload f ++ l))
    (sym (drop-drop (payload_end_of f - header_end_of f) (header_end_of f) f ∙ ap (λ (n : ℕ). drop n f) e))
    ∙ ap (λ (l : List ℕ). header f ++ l) (take-append-drop (payload_end_of f - header_end_of f) (drop (header_end_of f) f))
    ∙ take-append-drop (header_end_of f) f

-- the MIC is the run of four bytes at the end
pub mic_run : (f : List ℕ) → 4 ≤ length f → run_at 4 f (length f - 4) ≡ mic_of f
mic_run f h =
    run_inside 4 f (length f - 4) (omega arith)
    ∙ take_all 4 (drop (length f - 4) f) (omega (arith, length-drop (length f - 4) f))

-- ---- what reading looks at

module _ (f g : List ℕ) (long : length f ≡ length g) (same : (i : ℕ) → i < payload_start_of f → at f i ≡ at g i) where
  same_0 : at f 0 ≡ at g 0
  same_0 = same 0 (omega arith)

  same_5 : at f 5 ≡ at g 5
  same_5 = same 5 (omega arith)

  same_6 : at f 6 ≡ at g 6
  same_6 = same 6 (omega arith)

  same_7 : at f 7 ≡ at g 7
  same_7 = same 7 (omega arith)

  same_port : fport f ≡ fport g
  same_port = same (1 + fhdr_length_of f) (omega arith) ∙ ap (λ (b : ℕ). at g (1 + (7 + b % 16))) same_5

  -- two frames of one length that agree up to the payload have the same fields
  pub data_same : data_of f ≡ data_of g
  unfolding data_of port_of payload_of
  data_same = cc (long, same_0, same_5, same_6, same_7, same_port)

  -- and read the same
  pub read_same : read_of f ≡ read_of g
  unfolding read_of read_type_of read_join_request_of read_join_accept_of read_data_of
  read_same = cc (long, same_0, same_5, data_same)
