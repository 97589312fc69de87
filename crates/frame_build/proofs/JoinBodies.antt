-- The clear bytes of the join messages: arrays written out are their definitions, and their lengths. The fields are lists of
-- known lengths, so each is the list of its bytes.
-- Assumes nothing.
use mathlib.Core.Path.{◌≡◌, refl, sym, ap, ap₂, ◌∙◌, subst}
use mathlib.Core.Bool.{Bool, true, false, ◌||◌}
use Rattle.std.specs.List.{list_any}
use mathlib.Core.List.{List, [], ◌∷◌, ◌++◌, append-nil}
use Prim.Native.Nat.{ℕ, zero, suc, ◌+◌, ◌-◌, ◌*◌, ◌≤◌, ◌<◌}
use native.Mathlib.Omega.{arith}
use lib.Dec.{ltb}
use lib.ListN.{length, take, drop, length-append}
use borrow.Author.Tests.{lt-ltb, le-ltb, ltb-false}
use Rattle.base.specs.Bytes.{pick, at, tab, zeros, AreBytes}
use Rattle.base.proofs.Each.{each}
use Rattle.base.proofs.Parts.{bytes_nil, bytes_cons, bytes_append}
use Rattle.base.proofs.Tab.{tab-at}
use Rattle.frame_build.specs.DataBuilding.{both, either}
use Rattle.frame_build.specs.JoinBuilding.{accept_head_of, cf_list_bytes_of, frequency_bytes, join_accept_body, join_request_body, too_high_of, join_accept_length, join_accept_tests, join_accept_refusal_of, join_request_refusal}
use Rattle.frame_build.specs.declared.creator.join.JoinAcceptParts.{JoinAcceptParts}
use Rattle.frame_build.specs.declared.creator.join.JoinRequestParts.{JoinRequestParts}
use Rattle.frame_build.proofs.FirstTest.{none_fails}

-- ---- three fields of known lengths are the lists of their bytes, wherever they stand

by_bytes : (F : List ℕ → List ℕ → List ℕ → List ℕ) (a b c : List ℕ) (l m n : ℕ) → length a ≡ l → length b ≡ m → length c ≡ n
    → F a b c ≡ F (tab l (at a)) (tab m (at b)) (tab n (at c))
by_bytes F a b c l m n p q r = λ i. F (tab-at a l p i) (tab-at b m q i) (tab-at c n r i)

-- ---- join-request

pub request_parts : (j : JoinRequestParts) → (0 ∷ []) ++ j.app_eui ++ j.dev_eui ++ j.dev_nonce ≡ join_request_body j
unfolding join_request_body
request_parts j = refl

module _ (j : JoinRequestParts) (ha : length j.app_eui ≡ 8) (hd : length j.dev_eui ≡ 8) (hn : length j.dev_nonce ≡ 2) where
  pub request_written : join_request_body j ≡ 0 ∷ tab 8 (at j.app_eui) ++ tab 8 (at j.dev_eui) ++ tab 2 (at j.dev_nonce)
  unfolding join_request_body
  request_written =
      by_bytes (λ (a d n : List ℕ). 0 ∷ a ++ d ++ n) j.app_eui j.dev_eui j.dev_nonce 8 8 2 ha hd hn

  pub length_request : length (join_request_body j) ≡ 19
  length_request = ap length request_written

-- ---- join-accept

module _ (j : JoinAcceptParts) (hn : length j.app_nonce ≡ 3) (hi : length j.net_id ≡ 3) (ha : length j.dev_addr ≡ 4) where
  pub head_written : accept_head_of j
      ≡ 32
      ∷ (tab 3 (at j.app_nonce)
      ++ tab 3 (at j.net_id)
      ++ tab 4 (at j.dev_addr)
      ++ j.dl_settings ∷ j.rx_delay ∷ [])
  unfolding accept_head_of
  head_written =
      by_bytes (λ (n i a : List ℕ). 32 ∷ (n ++ i ++ a ++ j.dl_settings ∷ j.rx_delay ∷ [])) j.app_nonce j.net_id
      j.dev_addr 3 3 4 hn hi ha

  pub length_head : length (accept_head_of j) ≡ 13
  length_head = ap length head_written

  pub length_accept : (channels : List ℕ) → length (join_accept_body j channels) ≡ pick j.with_c_f_list 29 13
  unfolding cf_list_bytes_of
  length_accept channels =
      length-append (accept_head_of j) (pick j.with_c_f_list (cf_list_bytes_of channels) [])
      ∙ ap (λ (n : ℕ). n + length (pick j.with_c_f_list (cf_list_bytes_of channels) [])) length_head
      ∙ by_flag j.with_c_f_list
    where
      by_flag : (b : Bool) → 13 + length (pick b (cf_list_bytes_of channels) []) ≡ pick b 29 13
      by_flag true = refl
      by_flag false = refl

-- ---- the channels

-- the list after its first i frequencies: these, and zeros behind them
abbrev pub listed_to : List ℕ → ℕ → List ℕ
listed_to channels i = take (3 * i) (cf_list_bytes_of channels) ++ zeros (16 - 3 * i)

-- the next three bytes t are stored behind them
pub list_turn : (channels : List ℕ) (i : ℕ) {l t : List ℕ} → i < 5 → l ≡ listed_to channels i → t ≡ frequency_bytes (at channels i)
    → take (3 * i) l ++ (t ++ drop (3 * i + 3 - 3 * i) (drop (3 * i) l)) ≡ listed_to channels (i + 1)
unfolding cf_list_bytes_of
list_turn channels i {l} {t} h hl ht = ap₂ (λ (m f : List ℕ). stored i m f) hl ht ∙ turn i h
  where
    stored : ℕ → List ℕ → List ℕ → List ℕ
    stored i l t = take (3 * i) l ++ (t ++ drop (3 * i + 3 - 3 * i) (drop (3 * i) l))

    turn : (i : ℕ) → i < 5 → stored i (listed_to channels i) (frequency_bytes (at channels i)) ≡ listed_to channels (i + 1)
    turn zero h = refl
    turn (suc zero) h = refl
    turn (suc (suc zero)) h = refl
    turn (suc (suc (suc zero))) h = refl
    turn (suc (suc (suc (suc zero)))) h = refl
    turn (suc (suc (suc (suc (suc i))))) h = absurd (omega arith)

pub list_done : (channels : List ℕ) → listed_to channels 5 ≡ cf_list_bytes_of channels
unfolding cf_list_bytes_of
list_done channels = refl

-- one of the channels is too high: the test of each of them
pub any_high : (cs : List ℕ) → list_any (λ c. ltb 16777215 c) cs ≡ too_high_of cs
any_high [] = refl
any_high (c ∷ cs) = by_test (ltb 16777215 c) (any_high cs)
  where
    by_test : (b : Bool) → list_any (λ c. ltb 16777215 c) cs ≡ too_high_of cs
        → (b || list_any (λ c. ltb 16777215 c) cs) ≡ pick b true (too_high_of cs)
    by_test true e = refl
    by_test false e = e

-- ---- the parts of a join-accept

pub accept_least : (b : Bool) → 17 ≤ pick b 33 17
accept_least true = omega arith
accept_least false = omega arith

pub accept_listed : (b : Bool) → b ≡ true → 33 ≤ pick b 33 17
accept_listed b e = ap33 (sym e)
  where
    ap33 : true ≡ b → 33 ≤ pick b 33 17
    ap33 q = subst (λ (t : Bool). 33 ≤ pick t 33 17) q (omega arith)

module _ (j : JoinAcceptParts) (channels : List ℕ) where
  pub listed_body : {head list : List ℕ} → j.with_c_f_list ≡ true → head ≡ accept_head_of j → list ≡ cf_list_bytes_of channels
      → head ++ list ≡ join_accept_body j channels
  listed_body {head} {list} w h l =
      ap₂ (λ (a b : List ℕ). a ++ b) h l
      ∙ ap (λ (t : Bool). accept_head_of j ++ pick t (cf_list_bytes_of channels) []) (sym w)

  pub bare_body : {head : List ℕ} → j.with_c_f_list ≡ false → head ≡ accept_head_of j → head ≡ join_accept_body j channels
  bare_body {head} w h =
      h
      ∙ sym (append-nil (accept_head_of j))
      ∙ ap (λ (t : Bool). accept_head_of j ++ pick t (cf_list_bytes_of channels) []) (sym w)

  pub accept_room : (room : ℕ) → join_accept_refusal_of j channels room ≡ 0 → join_accept_length j ≤ room
  unfolding join_accept_refusal_of
  accept_room room e = ltb-false _ _ (none_fails (join_accept_tests j channels room) tt e).1.0

-- the clear bytes and the MIC are the whole length
pub body_and_mic : (j : JoinAcceptParts) → length j.app_nonce ≡ 3 → length j.net_id ≡ 3
    → length j.dev_addr ≡ 4 → (channels : List ℕ) → length (join_accept_body j channels) + 4 ≡ join_accept_length j
body_and_mic j hn hi ha channels =
    ap (λ (n : ℕ). n + 4) (length_accept j hn hi ha channels) ∙ flag j.with_c_f_list
  where
    flag : (b : Bool) → pick b 29 13 + 4 ≡ pick b 33 17
    flag true = refl
    flag false = refl

-- of a join-accept that nothing refuses: 13 bytes or more, and room for these and the MIC
pub accept_sizes : (j : JoinAcceptParts) → length j.app_nonce ≡ 3 → length j.net_id ≡ 3 → length j.dev_addr ≡ 4 → (channels : List ℕ)
    (room : ℕ) → join_accept_refusal_of j channels room ≡ 0
    → (13 ≤ length (join_accept_body j channels)) × (length (join_accept_body j channels) + 4 ≤ room)
accept_sizes j hn hi ha channels room e =
    let whole = body_and_mic j hn hi ha channels in
    (omega (arith, whole, accept_least j.with_c_f_list), omega (arith, whole, accept_room j channels room e))

-- ---- the refusal of join-request building

pub request_refused : (room : ℕ) → room < 23 → 7 ≡ join_request_refusal room
request_refused room h = ap (λ (b : Bool). pick b 7 0) (sym (lt-ltb room 23 h))

pub request_accepted : (room : ℕ) → 23 ≤ room → 0 ≡ join_request_refusal room
request_accepted room h = ap (λ (b : Bool). pick b 7 0) (sym (le-ltb room 23 h))

-- ---- clear bytes are bytes

list_byte : (channels : List ℕ) → AreBytes (cf_list_bytes_of channels)
unfolding cf_list_bytes_of
list_byte channels = each (cf_list_bytes_of channels) (omega arith)

flag_byte : (b : Bool) (channels : List ℕ) → AreBytes (pick b (cf_list_bytes_of channels) [])
flag_byte true channels = list_byte channels
flag_byte false channels = bytes_nil

pub accept_byte : (j : JoinAcceptParts) (channels : List ℕ) → AreBytes j.app_nonce → AreBytes j.net_id
    → AreBytes j.dev_addr → j.dl_settings < 256 → j.rx_delay < 256 → AreBytes (join_accept_body j channels)
unfolding accept_head_of
accept_byte j channels hn hi ha hs hr =
    bytes_append (accept_head_of j) (pick j.with_c_f_list (cf_list_bytes_of channels) [])
    (bytes_cons 32 (j.app_nonce ++ j.net_id ++ j.dev_addr ++ j.dl_settings ∷ j.rx_delay ∷ []) (omega arith)
    (bytes_append (j.app_nonce ++ j.net_id ++ j.dev_addr) (j.dl_settings ∷ j.rx_delay ∷ [])
    (bytes_append (j.app_nonce ++ j.net_id) j.dev_addr (bytes_append j.app_nonce j.net_id hn hi) ha)
    (bytes_cons j.dl_settings (j.rx_delay ∷ []) hs (bytes_cons j.rx_delay [] hr bytes_nil))))
    (flag_byte j.with_c_f_list channels)

either_false : (a b : Bool) → either a b ≡ false → b ≡ false
either_false true b e = let z : ◌≡◌ {A = ℕ} 0 1 = cc in absurd (omega arith)
either_false false b e = e

-- where a list is accepted, no channel is too high
pub accept_low : (j : JoinAcceptParts) (channels : List ℕ) (room : ℕ) → join_accept_refusal_of j channels room ≡ 0
    → j.with_c_f_list ≡ true → too_high_of channels ≡ false
unfolding join_accept_refusal_of
accept_low j channels room e w =
    let f = none_fails (join_accept_tests j channels room) tt e in
    either_false (ltb 5 (length channels)) (too_high_of channels)
    (ap (λ (b : Bool). both b (either (ltb 5 (length channels)) (too_high_of channels))) (sym w) ∙ f.0)
