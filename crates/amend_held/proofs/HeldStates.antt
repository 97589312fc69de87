-- The states that calls make can be held: their arrays have the lengths of their types, whatever the key, the frame and the
-- amendments.
-- Assumes nothing.
use mathlib.Core.Path.{◌≡◌, refl, sym, ◌∙◌, subst}
use mathlib.Core.List.{List, [], ◌∷◌}
use Prim.Native.Nat.{ℕ, zero, suc, ◌+◌, ◌-◌, ◌*◌, ◌/◌, ◌≤◌, ◌<◌}
use native.Mathlib.Omega.{arith}
use lib.ListN.{length, set, length-append, length-set}
use lib.Seq.{length-sets}
use Rattle.base.proofs.Cases.{by_order}
use Rattle.aes.specs.KeyExpansion.{word, next_word_of, words, key_expansion_of}
use Rattle.frame.specs.Layout.{payload_start_of}
use Rattle.frame_security.specs.Security.{covered, message}
use Rattle.amend.specs.declared.amending.Open.{Open}
use Rattle.amend.specs.Amending.{Amended, stop, payload_length_of, encrypted_byte, last_place, signed_from, carried, amended_to, amend_of}
use Rattle.amend.specs.OpenFrame.{opened_of}
use Rattle.amend.specs.AmendmentLists.{Amendment, amended_by}
use Rattle.amend.proofs.Chains.{chained_long, chains_of_long}
use Rattle.amend.proofs.OneByte.{held_long}
use Rattle.amend.proofs.Within.{amend_inside, amend_outside}
use Rattle.amend_held.proofs.HeldUndone.{Holds}

words_long : (n : ℕ) (key : List ℕ) → length (words n key) ≡ 16 + 4 * n
unfolding words next_word_of
words_long zero key = refl
words_long (suc n) key =
    let w = words n key in
    length-append w (next_word_of (word w (n + 4 - 4)) (word w (n + 4 - 1)) (n + 4)) ∙ (omega (arith, words_long n key))

schedule_long : (key : List ℕ) → length (key_expansion_of key) ≡ 176
unfolding key_expansion_of
schedule_long key = words_long 40 key

pub opened_holds : (f nwk app : List ℕ) (counter : ℕ) → length f ≤ 255 → counter < 4294967296 → Holds (opened_of f nwk app counter)
unfolding opened_of
opened_holds f nwk app counter most below =
    record {
      sized = record {
        frame = held_long f most;
        nwk = schedule_long nwk;
        app = schedule_long app;
        chains = chains_of_long (key_expansion_of nwk) (message (covered f) counter) (last_place (length f - 4));
      };
      most = most;
      below = below;
    }

module _ (s : Open) (h : Holds s) where
  inside_holds : (k v : ℕ) → Holds (amended_to s k v)
  unfolding amended_to
  inside_holds k v =
      let ks = s.nwk_schedule in
      let p = payload_start_of s.frame + k in
      let f = set s.frame p (encrypted_byte s k v) in
      let mic = signed_from ks f (stop s) (carried ks f (stop s) p s.chains) in
      record {
        sized = record {
          frame = length-sets f (stop s) mic ∙ length-set s.frame p (encrypted_byte s k v) ∙ h.sized.frame;
          nwk = h.sized.nwk;
          app = h.sized.app;
          chains = chained_long ks f (last_place (stop s) - p / 16) (p / 16) s.chains ∙ h.sized.chains;
        };
        most = h.most;
        below = h.below;
      }

  amended_holds : (k v : ℕ) → Holds (amend_of s k v).state
  amended_holds k v =
      by_order (payload_length_of s) k
      (λ l. subst (λ (a : Amended). Holds a.state) (sym (amend_outside s k v l)) h)
      (λ l. subst (λ (a : Amended). Holds a.state) (sym (amend_inside s k v l)) (inside_holds k v))

pub by_holds : (s : Open) → Holds s → (list : List Amendment) → Holds (amended_by s list)
unfolding amended_by
by_holds s h [] = h
by_holds s h (a ∷ list) = by_holds (amend_of s a.offset a.value).state (amended_holds s h a.offset a.value) list
