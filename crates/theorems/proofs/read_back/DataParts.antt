-- Reading back a data frame that was built: it is read as a data frame of its type, with the fields that were given, FCtrl by
-- its high nibble and the counter by its low half; its MIC is right; decrypting its payload gives the clear payload or
-- commands. All of it holds since the frame's first eight bytes are written out and the lengths of its parts are known.
-- Assumes nothing.
use Rattle.std.specs.Prelude.{None, Ok, Option, Some}
use mathlib.Core.Path.{◌≡◌, refl, sym, ap, ap₂, ◌∙◌}
use mathlib.Core.Bool.{Bool, true, false}
use mathlib.Core.List.{List, [], ◌∷◌, ◌++◌, append_assoc}
use mathlib.Core.Logic.{◌⊎◌, inl, inr, ⊎_elim}
use Prim.Native.Nat.{ℕ, ◌+◌, ◌-◌, ◌*◌, ◌/◌, ◌%◌, ◌≤◌, ◌<◌}
use native.Mathlib.Omega.{arith}
use lib.ListN.{length, take, length-append}
use lib.Seq.{take_at, drop_at, get_or-append-add, get_or-append_seam}
use Rattle.base.specs.Bytes.{pick, at, part}
use Rattle.base.proofs.Tab.{tab-at}
use Rattle.frame.specs.Layout.{mtype, major, dev_addr_of, fctrl, fcnt, fhdr_length_of, fport, header_end_of, header, payload, payload_start_of, payload_end_of, mic_of}
use Rattle.frame.specs.Reading.{port_of, held_by_of, payload_of, data_of, read_of}
use Rattle.frame.specs.Conditions.{IsData}
use Rattle.frame_build.specs.DataBuilding.{is_absent, mhdr_of, port_bytes, fopts_of, body_of, data_header, data_refusal_of}
use Rattle.frame_build.specs.DataFrames.{data_frame_of}
use Rattle.frame_build.specs.GivenParts.{DataGiven}
use Rattle.frame_security.specs.Sealing.{enciphered, sealed}
use Rattle.frame_security.specs.Security.{crypted, payload_key_of, frame_key, data_mic_of}
use Rattle.frame.specs.declared.parser.Frame.TheVariants.{Data}
use Rattle.frame_build.specs.declared.creator.data_frame.DataParts.{DataParts}
use Rattle.theorems.specs.ReadBack.{DataBack}
use Rattle.frame_build.proofs.DataRefusals.{Buildable, accepted}
use Rattle.frame_build.proofs.DataHeader.{eight, header_eight, length-header}
use Rattle.frame.proofs.ReadingLaws.{reads_data}
use Rattle.frame.proofs.ReadingSteps.{port_there, port_absent}
use Rattle.frame_security.proofs.SealingLaws.{sealed_long, sealed_parts, enciphered_long}
use Rattle.frame_security.proofs.SecurityLaws.{crypted_long, crypted_twice}

-- the first byte: version 0, and the type by its two flags
pub mhdr_version : (c u : Bool) → mhdr_of c u % 4 ≡ 0
mhdr_version true true = refl
mhdr_version true false = refl
mhdr_version false true = refl
mhdr_version false false = refl

pub mhdr_type : (c u : Bool) → mhdr_of c u / 32 ≡ pick c 4 2 + pick u 0 1
mhdr_type true true = refl
mhdr_type true false = refl
mhdr_type false true = refl
mhdr_type false false = refl

type_from : (c u : Bool) → 2 ≤ pick c 4 2 + pick u 0 1
type_from true true = omega arith
type_from true false = omega arith
type_from false true = omega arith
type_from false false = omega arith

type_below : (c u : Bool) → pick c 4 2 + pick u 0 1 < 6
type_below true true = omega arith
type_below true false = omega arith
type_below false true = omega arith
type_below false false = omega arith

-- a port byte, or neither port nor payload
port_or_none : (p : (Option ℕ)) (commands body : List ℕ) → (is_absent p ≡ true → length body ≡ 0)
    → (length (port_bytes p) ≡ 1) ⊎ ((length (port_bytes p) ≡ 0) × (length (body_of p commands body) ≡ 0))
port_or_none None commands body h = inr (refl, h refl)
port_or_none (Some q) commands body h = inl refl

module _ (nwk app : List ℕ) (d : DataParts) (four : length d.dev_addr ≡ 4) (commands body : List ℕ) (room : ℕ)
    (ok : Buildable d commands body room) where
  -- what was built
  abbrev f : List ℕ
  f = data_frame_of nwk app d commands body

  n : ℕ
  n = length (fopts_of d.port commands)

  p : List ℕ
  p = body_of d.port commands body

  h : List ℕ
  h = data_header d commands

  c : List ℕ
  c = crypted (payload_key_of h (length p) nwk app) h d.fcnt p

  m : List ℕ
  m = data_mic_of nwk (enciphered nwk app d.fcnt h p) d.fcnt

  -- header, encrypted payload, MIC
  f_parts : f ≡ h ++ (c ++ m)
  unfolding c m h p
  f_parts = sealed_parts nwk app d.fcnt (data_header d commands) (body_of d.port commands body)

  f_eight : f ≡ eight d n ++ ((fopts_of d.port commands ++ port_bytes d.port) ++ (c ++ m))
  unfolding h n
  f_eight =
      f_parts
      ∙ ap (λ (s : List ℕ). s ++ (c ++ m)) (header_eight d four commands)
      ∙ append_assoc (eight d n) (fopts_of d.port commands ++ port_bytes d.port) (c ++ m)

  h_long : length h ≡ 8 + n + length (port_bytes d.port)
  unfolding h n
  h_long = length-header d four commands

  f_long : length f ≡ length h + length p + 4
  unfolding h p
  f_long = sealed_long nwk app d.fcnt (data_header d commands) (body_of d.port commands body)

  n_most : n ≤ 15
  unfolding n
  n_most = ok.short

  most : length h + length p + 4 ≤ 255
  unfolding h p
  most = omega (arith, ok.fits, length-append (data_header d commands) (body_of d.port commands body))

  -- ---- the fields

  pub back_type : mtype f ≡ pick d.confirmed 4 2 + pick d.uplink 0 1
  back_type = ap mtype f_eight ∙ mhdr_type d.confirmed d.uplink

  pub back_address : dev_addr_of f ≡ d.dev_addr
  back_address = ap dev_addr_of f_eight ∙ sym (tab-at d.dev_addr 4 four)

  -- FCtrl, with FOptsLen in its low nibble
  pub back_fctrl : fctrl f ≡ d.fctrl + length (fopts_of d.port commands)
  unfolding n
  back_fctrl = ap fctrl f_eight

  pub back_nibble : fctrl f / 16 ≡ d.fctrl / 16
  unfolding n
  back_nibble =
      let e : fctrl f ≡ d.fctrl + n = back_fctrl in
      omega (arith, n_most, ok.clean)

  pub back_fcnt : fcnt f ≡ d.fcnt % 65536
  back_fcnt =
      let e : fcnt f ≡ d.fcnt % 256 + d.fcnt / 256 % 256 * 256 = ap fcnt f_eight in
      omega arith

  fhdr : fhdr_length_of f ≡ 7 + n
  unfolding n
  fhdr =
      let e : fctrl f ≡ d.fctrl + n = back_fctrl in
      omega (arith, n_most, ok.clean)

  pub back_fopts_end : 1 + fhdr_length_of f ≡ 8 + length (fopts_of d.port commands)
  unfolding n
  back_fopts_end = omega (arith, fhdr)

  version : major f ≡ 0
  version = ap major f_eight ∙ mhdr_version d.confirmed d.uplink

  is_data : IsData f
  is_data =
      let t : mtype f ≡ pick d.confirmed 4 2 + pick d.uplink 0 1 = back_type in
      record {
        least = omega (arith, f_long, h_long);
        most = omega (arith, f_long, most);
        version = version;
        from = omega (arith, type_from d.confirmed d.uplink);
        below = omega (arith, type_below d.confirmed d.uplink);
        fits = omega (arith, f_long, h_long, fhdr);
      }

  pub back_reads : read_of f ≡ Ok (Data (data_of f))
  back_reads = reads_data f is_data

  pub back_fopts : part 8 (length (fopts_of d.port commands)) f ≡ fopts_of d.port commands
  back_fopts =
      ap (part 8 (length (fopts_of d.port commands))) f_eight
      ∙ ap (take (length (fopts_of d.port commands)))
      (append_assoc (fopts_of d.port commands) (port_bytes d.port) (c ++ m))
      ∙ take_at (fopts_of d.port commands) (port_bytes d.port ++ (c ++ m)) (length (fopts_of d.port commands)) refl

  -- ---- header, payload and MIC

  ends : header_end_of f ≡ length h
  unfolding p
  ends =
      ⊎_elim (λ one. omega (arith, f_long, h_long, fhdr)) (λ none. omega (arith, f_long, h_long, fhdr, none.0, none.1))
      (port_or_none d.port commands body ok.without)

  pub back_header : header f ≡ data_header d commands
  unfolding h
  back_header = ap (λ (k : ℕ). take k f) ends ∙ ap (take (length h)) f_parts ∙ take_at h (c ++ m) (length h) refl

  c_long : length c ≡ length p
  unfolding c
  c_long = crypted_long (payload_key_of h (length p) nwk app) h d.fcnt p

  payload_is : payload f ≡ c
  payload_is =
      let e : payload_end_of f - header_end_of f ≡ length c = omega (arith, f_long, ends, c_long) in
      ap₂ (λ (k j : ℕ). part k j f) ends e
      ∙ ap (part (length h) (length c)) f_parts
      ∙ ap (take (length c)) (drop_at h (c ++ m) (length h) refl)
      ∙ take_at c m (length c) refl

  -- decryption gives the clear payload, or on port 0 the commands, back
  pub back_payload : crypted (frame_key f nwk app) (header f) d.fcnt (payload f) ≡ body_of d.port commands body
  unfolding c h p
  back_payload =
      ap₂ (λ (s t : List ℕ). crypted (payload_key_of s (length t) nwk app) s d.fcnt t) back_header payload_is
      ∙ ap (λ (n : ℕ). crypted (payload_key_of (data_header d commands) n nwk app) (data_header d commands) d.fcnt c) c_long
      ∙ crypted_twice (payload_key_of (data_header d commands) (length (body_of d.port commands body)) nwk app) (data_header d commands) d.fcnt
      (body_of d.port commands body)

  -- the MIC is that of all the bytes ahead of it
  pub back_mic : mic_of f ≡ data_mic_of nwk (take (length f - 4) f) d.fcnt
  unfolding sealed h p
  back_mic =
      let e : length f - 4 ≡ length (enciphered nwk app d.fcnt h p) =
      omega (arith, f_long, enciphered_long nwk app d.fcnt h p) in
      let s = enciphered nwk app d.fcnt (data_header d commands) (body_of d.port commands body) in
      drop_at s (data_mic_of nwk s d.fcnt) (length f - 4) (sym e)
      ∙ ap (λ (t : List ℕ). data_mic_of nwk t d.fcnt) (sym (take_at s (data_mic_of nwk s d.fcnt) (length f - 4) (sym e)))

  -- ---- the port

  back_port_byte : (q : ℕ) → d.port ≡ Some q → port_of f ≡ Some q
  unfolding n p
  back_port_byte q e =
      let one : length (port_bytes d.port) ≡ 1 = ap (λ (t : (Option ℕ)). length (port_bytes t)) e in
      let i : 1 + fhdr_length_of f ≡ 8 + n = omega (arith, fhdr) in
      let v : fport f ≡ q =
      ap (at f) i
      ∙ ap (λ (t : List ℕ). at t (8 + n)) f_eight
      ∙ get_or-append-add (eight d n) ((fopts_of d.port commands ++ port_bytes d.port) ++ (c ++ m)) n 0
      ∙ ap (λ (t : List ℕ). at t n)
      (ap (λ (t : (Option ℕ)). (fopts_of d.port commands ++ port_bytes t) ++ (c ++ m)) e
      ∙ append_assoc (fopts_of d.port commands) (q ∷ []) (c ++ m))
      ∙ get_or-append_seam (fopts_of d.port commands) q (c ++ m) 0 in
      port_there f (omega (arith, f_long, h_long, fhdr)) ∙ ap Some v

  back_no_port : d.port ≡ None → port_of f ≡ None
  unfolding p
  back_no_port e =
      let zero : length (port_bytes d.port) ≡ 0 = ap (λ (t : (Option ℕ)). length (port_bytes t)) e in
      let none : length body ≡ 0 = ok.without (ap is_absent e) in
      let same : length (body_of d.port commands body) ≡ length body = ap (λ (t : (Option ℕ)). length (body_of t commands body)) e in
      port_absent f (omega (arith, f_long, h_long, fhdr))

  by_port : (t : (Option ℕ)) → d.port ≡ t → port_of f ≡ t
  by_port None e = back_no_port e
  by_port (Some q) e = back_port_byte q e

  -- it is reported as it was given, whatever stands behind it
  pub back_port : port_of f ≡ d.port
  back_port = by_port d.port refl

  pub back_held : payload_of f ≡ held_by_of d.port (payload_start_of f) (payload_end_of f)
  unfolding payload_of
  back_held = ap (λ (t : (Option ℕ)). held_by_of t (payload_start_of f) (payload_end_of f)) back_port

-- ---- the theorem

pub data_back : (nwk app : List ℕ) (d : DataParts) → DataGiven d → (commands body : List ℕ) (room : ℕ)
    → data_refusal_of d commands body room ≡ 0 → DataBack nwk app d commands body (data_frame_of nwk app d commands body)
data_back nwk app d g commands body room e =
    let four : length d.dev_addr ≡ 4 = g.address in
    let ok : Buildable d commands body room = accepted d commands body room e in
    record {
      reads = back_reads nwk app d four commands body room ok;
      type = back_type nwk app d four commands body room ok;
      address = back_address nwk app d four commands body room ok;
      control = back_nibble nwk app d four commands body room ok;
      count = back_fcnt nwk app d four commands body room ok;
      fopts_end = back_fopts_end nwk app d four commands body room ok;
      fopts = back_fopts nwk app d four commands body room ok;
      port = back_port nwk app d four commands body room ok;
      held = back_held nwk app d four commands body room ok;
      header_back = back_header nwk app d four commands body room ok;
      payload_back = back_payload nwk app d four commands body room ok;
      mic_back = back_mic nwk app d four commands body room ok;
    }
