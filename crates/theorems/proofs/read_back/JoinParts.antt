-- Reading back the join messages that were built. A join-request is read as one, with its fields and a right MIC. A
-- join-accept is read as one of its length; decrypted it is the clear bytes and their MIC, and the fields are those that were
-- given, RxDelay modulo 16 and a list filled up with zeros to five. The clear bytes are written out, so each field computes.
-- Assumes nothing.
use Rattle.std.specs.Prelude.{Option, Some, None}
use Rattle.std.specs.Prelude.{Ok}
use mathlib.Core.Path.{◌≡◌, refl, sym, ap, ap₂, ◌∙◌}
use mathlib.Core.Bool.{Bool, true, false}
use mathlib.Core.List.{List, [], ◌∷◌, ◌++◌, append_assoc}
use mathlib.Core.Logic.{◌⊎◌, inl, inr}
use Prim.Native.Nat.{ℕ, zero, suc, ◌+◌, ◌-◌, ◌*◌, ◌/◌, ◌%◌, ◌≤◌}
use native.Mathlib.Omega.{arith}
use lib.Dec.{ltb}
use lib.ListN.{length, take, length-append}
use lib.Seq.{take_at, drop_at, take_all}
use Rattle.base.specs.Bytes.{pick, at, tab, AreBytes}
use borrow.Author.Tests.{ltb-false}
use Rattle.base.proofs.Cases.{by_bool}
use Rattle.base.proofs.Parts.{bytes_append}
use Rattle.base.proofs.Tab.{tab-at, tab_ext}
use Rattle.frame.specs.Layout.{mtype, major, mic_of}
use Rattle.frame.specs.Reading.{read_of}
use Rattle.frame.specs.JoinFields.{request_fields_of, accept_fields_of, cf_list_of}
use Rattle.frame_build.specs.JoinBuilding.{accept_head_of, cf_list_bytes_of, too_high_of, join_accept_body, join_accept_length, join_accept_refusal_of, join_request_body}
use Rattle.frame_build.specs.JoinFrames.{signed, join_request_of, join_accept_of}
use Rattle.frame_build.specs.GivenParts.{AcceptGiven, RequestGiven}
use Rattle.frame_security.specs.JoinAcceptCipher.{accept_decrypted}
use Rattle.frame_security.specs.Security.{join_mic}
use Rattle.frame.specs.declared.join_fields.CfList.{CfList}
use Rattle.frame.specs.declared.join_fields.CfList.TheVariants.{Frequencies}
use Rattle.frame.specs.declared.parser.Frame.TheVariants.{JoinRequest, JoinAccept}
use Rattle.frame_build.specs.declared.creator.join.JoinAcceptParts.{JoinAcceptParts}
use Rattle.frame_build.specs.declared.creator.join.JoinRequestParts.{JoinRequestParts}
use Rattle.theorems.specs.ReadBack.{request_record, accept_record, listed_fields, built_fields}
use Rattle.frame_security.proofs.AcceptBlocks.{accept_long, accept_first, accept_undone}
use Rattle.frame_build.proofs.JoinBuiltLaws.{signed_long}
use Rattle.frame_build.proofs.JoinBodies.{request_written, length_request, head_written, body_and_mic, accept_byte, accept_low}
use Rattle.frame.proofs.ReadingLaws.{reads_request, reads_accept}
use Rattle.frame_security.proofs.SecurityLaws.{join_mic_long, join_mic_byte}

-- the MIC of a signed message is that of all the bytes ahead of it
pub signed-mic : (key msg : List ℕ) → mic_of (signed key msg) ≡ join_mic key (take (length (signed key msg) - 4) (signed key msg))
unfolding signed
signed-mic key msg =
    let e : length msg ≡ length (msg ++ join_mic key msg) - 4 =
    omega (arith, length-append msg (join_mic key msg), join_mic_long key msg) in
    drop_at msg (join_mic key msg) (length (msg ++ join_mic key msg) - 4) e
    ∙ ap (join_mic key) (sym (take_at msg (join_mic key msg) (length (msg ++ join_mic key msg) - 4) e))

-- ---- join-request

module _ (key : List ℕ) (j : JoinRequestParts) (ha : length j.app_eui ≡ 8) (hd : length j.dev_eui ≡ 8) (hn : length j.dev_nonce ≡ 2) where
  m : List ℕ
  m = join_mic key (join_request_body j)

  m_long : length m ≡ 4
  unfolding m
  m_long = join_mic_long key (join_request_body j)

  written : join_request_of key j ≡ (0 ∷ tab 8 (at j.app_eui) ++ tab 8 (at j.dev_eui) ++ tab 2 (at j.dev_nonce)) ++ m
  unfolding signed m
  written = ap (λ (b : List ℕ). b ++ join_mic key (join_request_body j)) (request_written j ha hd hn)

  request_long : length (join_request_of key j) ≡ 23
  request_long = signed_long key (join_request_body j) ∙ ap (λ (n : ℕ). n + 4) (length_request j ha hd hn)

  pub request_reads : read_of (join_request_of key j) ≡ (Ok JoinRequest)
  request_reads =
      reads_request (join_request_of key j)
      (record { version = ap major written; type = ap mtype written; long = request_long })

  pub request_back : request_fields_of (join_request_of key j)
      ≡ request_record j.app_eui j.dev_eui j.dev_nonce (join_mic key (join_request_body j))
  unfolding request_fields_of m
  request_back =
      ap request_fields_of written
      ∙ ap₂ (λ (a d : List ℕ). request_record a d (tab 2 (at j.dev_nonce)) (take 4 m)) (sym (tab-at j.app_eui 8 ha))
      (sym (tab-at j.dev_eui 8 hd))
      ∙ ap₂ (λ (n t : List ℕ). request_record j.app_eui j.dev_eui n t) (sym (tab-at j.dev_nonce 2 hn))
      (take_all 4 m (omega (arith, m_long)))

-- ---- join-accept

-- a channel that fits 24 bits, from its three bytes
three_bytes : (c : ℕ) → c ≤ 16777215 → c % 256 + c / 256 % 256 * 256 + c / 65536 % 256 * 65536 ≡ c
three_bytes c h = omega arith

-- none too high: each fits, and past the end stands 0
fits : (cs : List ℕ) → too_high_of cs ≡ false → (i : ℕ) → at cs i ≤ 16777215
fits [] e i = omega arith
fits (c ∷ cs) e zero = first (ltb 16777215 c) refl e
  where
    first : (b : Bool) → ltb 16777215 c ≡ b → pick b true (too_high_of cs) ≡ false → c ≤ 16777215
    first true q r = let z : ◌≡◌ {A = ℕ} 0 1 = cc in absurd (omega arith)
    first false q r = ltb-false _ _ q
fits (c ∷ cs) e (suc i) = fits cs (rest (ltb 16777215 c) e) i
  where
    rest : (b : Bool) → pick b true (too_high_of cs) ≡ false → too_high_of cs ≡ false
    rest true r = let z : ◌≡◌ {A = ℕ} 0 1 = cc in absurd (omega arith)
    rest false r = r

module _ (key : List ℕ) (j : JoinAcceptParts) (hn : length j.app_nonce ≡ 3) (hi : length j.net_id ≡ 3) (ha : length j.dev_addr ≡ 4) (channels : List ℕ) where
  body : List ℕ
  body = join_accept_body j channels

  clear_long : length (signed key body) ≡ join_accept_length j
  unfolding body
  clear_long = signed_long key (join_accept_body j channels) ∙ body_and_mic j hn hi ha channels

  accept_size : (b : Bool) → (◌≡◌ {A = ℕ} (pick b 33 17) 17) ⊎ (◌≡◌ {A = ℕ} (pick b 33 17) 33)
  accept_size true = inr refl
  accept_size false = inl refl

  -- the clear bytes, the head written out
  head : List ℕ
  head =
      32
      ∷ (tab 3 (at j.app_nonce)
      ++ tab 3 (at j.net_id)
      ++ tab 4 (at j.dev_addr)
      ++ j.dl_settings ∷ j.rx_delay ∷ [])

  written_accept : signed key body ≡ head ++ (pick j.with_c_f_list (cf_list_bytes_of channels) [] ++ join_mic key body)
  unfolding signed body head
  written_accept =
      append_assoc (accept_head_of j) (pick j.with_c_f_list (cf_list_bytes_of channels) []) (join_mic key (join_accept_body j channels))
      ∙ ap
      (λ (t : List ℕ).
      t ++ (pick j.with_c_f_list (cf_list_bytes_of channels) [] ++ join_mic key (join_accept_body j channels)))
      (head_written j hn hi ha)

  some : 1 ≤ length (signed key body)
  some = omega (arith, signed_long key body)

  first_byte : at (join_accept_of key j channels) 0 ≡ 32
  unfolding body head
  first_byte = accept_first key (signed key (join_accept_body j channels)) some ∙ ap (λ (t : List ℕ). at t 0) written_accept

  pub accept_reads : read_of (join_accept_of key j channels) ≡ Ok (JoinAccept (join_accept_length j))
  unfolding body
  accept_reads =
      reads_accept (join_accept_of key j channels) (join_accept_length j)
      (record {
        version = ap (λ (b : ℕ). b % 4) first_byte;
        type = ap (λ (b : ℕ). b / 32) first_byte;
        long = accept_long key (signed key (join_accept_body j channels)) ∙ clear_long;
        either = accept_size j.with_c_f_list;
      })

  -- decryption gives the clear bytes and their MIC back
  pub accept_clear : AreBytes key → AreBytes (join_accept_body j channels)
      → accept_decrypted key (join_accept_of key j channels) ≡ signed key (join_accept_body j channels)
  unfolding body signed
  accept_clear hk hb =
      accept_undone key (signed key (join_accept_body j channels)) hk
      (bytes_append (join_accept_body j channels) (join_mic key (join_accept_body j channels)) hb
      (join_mic_byte key (join_accept_body j channels) hk hb)) some

  -- and the clear bytes are read as a join-accept too
  pub clear_reads : read_of (signed key (join_accept_body j channels)) ≡ Ok (JoinAccept (join_accept_length j))
  unfolding body head
  clear_reads =
      reads_accept (signed key (join_accept_body j channels)) (join_accept_length j)
      (record {
        version = ap major written_accept;
        type = ap mtype written_accept;
        long = clear_long;
        either = accept_size j.with_c_f_list;
      })

  -- ---- the fields of the clear bytes

  mic : List ℕ
  mic = tab 4 (at (join_mic key (join_accept_body j channels)))

  mic_is : join_mic key (join_accept_body j channels) ≡ mic
  unfolding mic
  mic_is = tab-at (join_mic key (join_accept_body j channels)) 4 (join_mic_long key (join_accept_body j channels))

  -- the three arrays, written out, are those that were given
  as_given : (l : Option CfList)
      → accept_record j (tab 3 (at j.app_nonce)) (tab 3 (at j.net_id)) (tab 4 (at j.dev_addr)) l
      ≡ accept_record j j.app_nonce j.net_id j.dev_addr l
  as_given l =
      ap₂ (λ (n i : List ℕ). accept_record j n i (tab 4 (at j.dev_addr)) l) (sym (tab-at j.app_nonce 3 hn))
      (sym (tab-at j.net_id 3 hi))
      ∙ ap (λ (a : List ℕ). accept_record j j.app_nonce j.net_id a l) (sym (tab-at j.dev_addr 4 ha))

  -- without a list
  pub accept_back_none : j.with_c_f_list ≡ false
      → accept_fields_of (signed key (join_accept_body j channels)) ≡ listed_fields j channels false
  unfolding accept_fields_of cf_list_of body head mic
  accept_back_none w =
      let e : signed key (join_accept_body j channels) ≡ head ++ mic =
      written_accept ∙ ap₂ (λ (b : Bool) (t : List ℕ). head ++ (pick b (cf_list_bytes_of channels) [] ++ t)) w mic_is in
      ap accept_fields_of e ∙ as_given None

  -- with one: five channels, absent ones 0
  pub accept_back_list : j.with_c_f_list ≡ true → too_high_of channels ≡ false
      → accept_fields_of (signed key (join_accept_body j channels)) ≡ listed_fields j channels true
  unfolding accept_fields_of cf_list_of body head mic cf_list_bytes_of
  accept_back_list w h =
      let e : signed key (join_accept_body j channels) ≡ head ++ (cf_list_bytes_of channels ++ mic) =
      written_accept ∙ ap₂ (λ (b : Bool) (t : List ℕ). head ++ (pick b (cf_list_bytes_of channels) [] ++ t)) w mic_is in
      ap accept_fields_of e
      ∙ as_given (Some (Frequencies (tab 5 (λ i. at channels i % 256 + at channels i / 256 % 256 * 256 + at channels i / 65536 % 256 * 65536))))
      ∙ ap (λ (q : List ℕ). accept_record j j.app_nonce j.net_id j.dev_addr (Some (Frequencies q)))
      (tab_ext 5 (λ i. at channels i % 256 + at channels i / 256 % 256 * 256 + at channels i / 65536 % 256 * 65536) (at channels)
      (λ i l. three_bytes (at channels i) (fits channels h i)))

-- ---- the theorems

pub record RequestBack (key : List ℕ) (j : JoinRequestParts) (f : List ℕ) : Type 0 where
  pub reads : read_of f ≡ (Ok JoinRequest)
  pub fields : request_fields_of f
      ≡ request_record j.app_eui j.dev_eui j.dev_nonce (join_mic key (join_request_body j))
  pub mic : mic_of f ≡ join_mic key (take (length f - 4) f)

pub join_request_back : (key : List ℕ) (j : JoinRequestParts) → RequestGiven j → RequestBack key j (join_request_of key j)
join_request_back key j g =
    record {
      reads = request_reads key j g.app g.dev g.nonce;
      fields = request_back key j g.app g.dev g.nonce;
      mic = signed-mic key (join_request_body j);
    }

-- f is what was built, g what a device's decryption makes of it
pub record AcceptBack (key : List ℕ) (j : JoinAcceptParts) (channels f g : List ℕ) : Type 0 where
  pub reads : read_of f ≡ Ok (JoinAccept (join_accept_length j))
  pub clear : g ≡ signed key (join_accept_body j channels)
  pub mic : mic_of g ≡ join_mic key (take (length g - 4) g)
  pub clear_reads : read_of g ≡ Ok (JoinAccept (join_accept_length j))
  pub fields : accept_fields_of g ≡ built_fields j channels

pub join_accept_back : (key : List ℕ) (j : JoinAcceptParts) → AcceptGiven key j → (channels : List ℕ) (room : ℕ)
    → join_accept_refusal_of j channels room ≡ 0
    → AcceptBack key j channels (join_accept_of key j channels) (accept_decrypted key (join_accept_of key j channels))
join_accept_back key j g channels room e =
    record {
      reads = accept_reads key j hn hi ha channels;
      clear = c;
      mic =
          ap mic_of c
          ∙ signed-mic key (join_accept_body j channels)
          ∙ ap (λ (g : List ℕ). join_mic key (take (length g - 4) g)) (sym c);
      clear_reads = ap read_of c ∙ clear_reads key j hn hi ha channels;
      fields = ap accept_fields_of c ∙ by_bool j.with_c_f_list listed bare;
    }
  where
    hn : length j.app_nonce ≡ 3
    hn = g.nonce.long

    hi : length j.net_id ≡ 3
    hi = g.net.long

    ha : length j.dev_addr ≡ 4
    ha = g.address.long

    clear_bytes : AreBytes (join_accept_body j channels)
    clear_bytes = accept_byte j channels g.nonce.bytes g.net.bytes g.address.bytes g.settings g.delay

    c : accept_decrypted key (join_accept_of key j channels) ≡ signed key (join_accept_body j channels)
    c = accept_clear key j hn hi ha channels g.key.bytes clear_bytes

    listed : j.with_c_f_list ≡ true → accept_fields_of (signed key (join_accept_body j channels)) ≡ built_fields j channels
    listed w = accept_back_list key j hn hi ha channels w (accept_low j channels room e w) ∙ sym (ap (listed_fields j channels) w)

    bare : j.with_c_f_list ≡ false → accept_fields_of (signed key (join_accept_body j channels)) ≡ built_fields j channels
    bare w = accept_back_none key j hn hi ha channels w ∙ sym (ap (listed_fields j channels) w)
