-- A frame that opening accepts is its own header and clear payload, sealed; and whatever payload of that length is sealed
-- behind its header makes a frame that opening accepts again, with that header and that payload.
-- Assumes nothing.
use mathlib.Core.Path.{◌≡◌, sym, ap, ap₂, ◌∙◌}
use mathlib.Core.List.{List, ◌++◌, append_assoc}
use Prim.Native.Nat.{ℕ, ◌+◌, ◌-◌, ◌*◌, ◌%◌, ◌<◌, min}
use native.Mathlib.Omega.{arith}
use lib.ListN.{length, take, drop, length-append, get_or-append}
use lib.Seq.{take_at, drop_at, take-add, get_or-take}
use Rattle.base.specs.Bytes.{at, part}
use Rattle.frame.specs.Conditions.{IsData}
use Rattle.frame.specs.Layout.{fcnt, payload_end_of, header_end_of, header, payload, mic_of}
use Rattle.frame_security.specs.Sealing.{enciphered, sealed}
use Rattle.frame_security.specs.Security.{crypted, covered, data_mic_of, frame_key, payload_key_of}
use Rattle.frame.proofs.LayoutLaws.{placed, parts, length-header, length-payload}
use Rattle.frame_security.proofs.SecurityLaws.{crypted_long, crypted_twice, data_mic_of_long}
use Rattle.amend.specs.AmendmentLists.{clear_of}
use Rattle.amend.proofs.Accepted.{Accepted}

-- header and payload are what the MIC covers
pub covered_parts : (f : List ℕ) → IsData f → header f ++ payload f ≡ covered f
covered_parts f h =
    let whole : header_end_of f + (payload_end_of f - header_end_of f) ≡ length f - 4 = omega (arith, (placed f h).payload) in
    sym (take-add (header_end_of f) (payload_end_of f - header_end_of f) f) ∙ ap (λ (n : ℕ). take n f) whole

pub clear_long : (f nwk app : List ℕ) (counter : ℕ) → length (clear_of f nwk app counter) ≡ length (payload f)
clear_long f nwk app counter = crypted_long (frame_key f nwk app) (header f) counter (payload f)

-- a payload of the frame's length is sealed under the frame's key
sealed_by : (f nwk app : List ℕ) (counter : ℕ) (p : List ℕ) → length p ≡ length (payload f)
    → sealed nwk app counter (header f) p
    ≡ header f ++ crypted (frame_key f nwk app) (header f) counter p
    ++ data_mic_of nwk (header f ++ crypted (frame_key f nwk app) (header f) counter p) counter
unfolding sealed enciphered
sealed_by f nwk app counter p same =
    ap
    (λ (n : ℕ).
    header f ++ crypted (payload_key_of (header f) n nwk app) (header f) counter p
    ++ data_mic_of nwk (header f ++ crypted (payload_key_of (header f) n nwk app) (header f) counter p) counter)
    same

-- an accepted frame is sealed
pub accepted-sealed : (f nwk app : List ℕ) (counter : ℕ) → Accepted f nwk counter
    → sealed nwk app counter (header f) (clear_of f nwk app counter) ≡ f
accepted-sealed f nwk app counter a =
    let key = frame_key f nwk app in
    let body : header f ++ crypted key (header f) counter (clear_of f nwk app counter) ≡ covered f =
    ap (λ (l : List ℕ). header f ++ l) (crypted_twice key (header f) counter (payload f))
    ∙ covered_parts f a.data_frame in
    sealed_by f nwk app counter (clear_of f nwk app counter) (clear_long f nwk app counter)
    ∙ ap (λ (l : List ℕ). l ++ data_mic_of nwk l counter) body
    ∙ ap₂ (λ (l m : List ℕ). l ++ m) (sym (covered_parts f a.data_frame)) a.signed
    ∙ append_assoc (header f) (payload f) (mic_of f)
    ∙ parts f

module _ (f nwk app : List ℕ) (counter : ℕ) (h : IsData f) (p : List ℕ) (same : length p ≡ length (payload f)) where
  abbrev body : List ℕ
  body = header f ++ crypted (frame_key f nwk app) (header f) counter p

  sealed_is : sealed nwk app counter (header f) p ≡ body ++ data_mic_of nwk body counter
  sealed_is = sealed_by f nwk app counter p same

  body_long : length body ≡ length f - 4
  body_long =
      length-append (header f) (crypted (frame_key f nwk app) (header f) counter p)
      ∙ omega (arith, length-header f, crypted_long (frame_key f nwk app) (header f) counter p, length-payload f, (placed f h).payload)

  mic_four : length (data_mic_of nwk body counter) ≡ 4
  mic_four = data_mic_of_long nwk body counter

  pub sealed_long : length (sealed nwk app counter (header f) p) ≡ length f
  sealed_long =
      ap length sealed_is
      ∙ length-append body (data_mic_of nwk body counter)
      ∙ omega (arith, body_long, mic_four, (placed f h).mic)

  pub sealed-covered : covered (sealed nwk app counter (header f) p)
      ≡ header f ++ crypted (frame_key f nwk app) (header f) counter p
  sealed-covered =
      ap (λ (n : ℕ). take (n - 4) (sealed nwk app counter (header f) p)) sealed_long
      ∙ ap (take (length f - 4)) sealed_is
      ∙ take_at body (data_mic_of nwk body counter) (length f - 4) body_long

  sealed-mic : mic_of (sealed nwk app counter (header f) p) ≡ data_mic_of nwk body counter
  sealed-mic =
      ap (λ (n : ℕ). drop (n - 4) (sealed nwk app counter (header f) p)) sealed_long
      ∙ ap (drop (length f - 4)) sealed_is
      ∙ drop_at body (data_mic_of nwk body counter) (length f - 4) body_long

  -- a byte of the header
  pub sealed-at : (i : ℕ) → i < header_end_of f → at (sealed nwk app counter (header f) p) i ≡ at f i
  sealed-at i l =
      ap (λ (s : List ℕ). at s i) sealed_is
      ∙ get_or-append body (data_mic_of nwk body counter) 0 i (omega (arith, body_long, (placed f h).payload))
      ∙ get_or-append (header f) (crypted (frame_key f nwk app) (header f) counter p) 0 i (omega (arith, length-header f))
      ∙ get_or-take (header_end_of f) f i 0 l

  at_0 : at (sealed nwk app counter (header f) p) 0 ≡ at f 0
  at_0 = sealed-at 0 (omega (arith, (placed f h).fixed, (placed f h).fopts))

  at_5 : at (sealed nwk app counter (header f) p) 5 ≡ at f 5
  at_5 = sealed-at 5 (omega (arith, (placed f h).fixed, (placed f h).fopts))

  at_6 : at (sealed nwk app counter (header f) p) 6 ≡ at f 6
  at_6 = sealed-at 6 (omega (arith, (placed f h).fixed, (placed f h).fopts))

  at_7 : at (sealed nwk app counter (header f) p) 7 ≡ at f 7
  at_7 = sealed-at 7 (omega (arith, (placed f h).fixed, (placed f h).fopts))

  pub sealed_end : header_end_of (sealed nwk app counter (header f) p) ≡ header_end_of f
  sealed_end = ap₂ (λ (c n : ℕ). min (7 + c % 16 + 2) (n - 4)) at_5 sealed_long

  in_three : sealed nwk app counter (header f) p
      ≡ header f ++ (crypted (frame_key f nwk app) (header f) counter p ++ data_mic_of nwk body counter)
  in_three = sealed_is ∙ append_assoc (header f) (crypted (frame_key f nwk app) (header f) counter p) (data_mic_of nwk body counter)

  pub sealed-header : header (sealed nwk app counter (header f) p) ≡ header f
  sealed-header =
      ap (λ (n : ℕ). take n (sealed nwk app counter (header f) p)) sealed_end
      ∙ ap (take (header_end_of f)) in_three
      ∙ take_at (header f) (crypted (frame_key f nwk app) (header f) counter p ++ data_mic_of nwk body counter) (header_end_of f)
      (length-header f)

  pub sealed-payload : payload (sealed nwk app counter (header f) p)
      ≡ crypted (frame_key f nwk app) (header f) counter p
  sealed-payload =
      let c = crypted (frame_key f nwk app) (header f) counter p in
      let m = data_mic_of nwk body counter in
      ap₂ (λ (n e : ℕ). part e (n - 4 - e) (sealed nwk app counter (header f) p)) sealed_long sealed_end
      ∙ ap (part (header_end_of f) (payload_end_of f - header_end_of f)) in_three
      ∙ ap (take (payload_end_of f - header_end_of f)) (drop_at (header f) (c ++ m) (header_end_of f) (length-header f))
      ∙ take_at c m (payload_end_of f - header_end_of f)
      (crypted_long (frame_key f nwk app) (header f) counter p ∙ same ∙ length-payload f)

  pub sealed_clear : clear_of (sealed nwk app counter (header f) p) nwk app counter ≡ p
  sealed_clear =
      let c = crypted (frame_key f nwk app) (header f) counter p in
      let long : length c ≡ length (payload f) = crypted_long (frame_key f nwk app) (header f) counter p ∙ same in
      ap₂ (λ (s t : List ℕ). crypted (payload_key_of s (length t) nwk app) s counter t) sealed-header sealed-payload
      ∙ ap (λ (n : ℕ). crypted (payload_key_of (header f) n nwk app) (header f) counter c) long
      ∙ crypted_twice (frame_key f nwk app) (header f) counter p

  sealed_data : IsData (sealed nwk app counter (header f) p)
  sealed_data =
      record {
        least = omega (arith, sealed_long, h.least);
        most = omega (arith, sealed_long, h.most);
        version = ap (λ (b : ℕ). b % 4) at_0 ∙ h.version;
        from = omega (arith, at_0, h.from);
        below = omega (arith, at_0, h.below);
        fits = omega (arith, at_5, sealed_long, h.fits);
      }

  -- it is accepted where the counter is right
  pub sealed-accepted : counter % 65536 ≡ fcnt f → Accepted (sealed nwk app counter (header f) p) nwk counter
  sealed-accepted e =
      record {
        data_frame = sealed_data;
        low_half = e ∙ sym (ap₂ (λ (l u : ℕ). l + u * 256) at_6 at_7);
        signed = ap (λ (l : List ℕ). data_mic_of nwk l counter) sealed-covered ∙ sym sealed-mic;
      }
