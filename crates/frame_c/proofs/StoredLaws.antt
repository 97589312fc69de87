-- A call that stores the bytes of what was found keeps its promise where it is refused and stores nothing, and where there is room
-- and the bytes stand at the start of the output.
-- Assumes nothing.
use Rattle.std.proofs.Common.{◌≡◌, ◌++◌, ◌≤◌, ◌<◌, List, ℕ, Result, Ok, Err, length, drop, sym, ap, ◌∙◌, rules}
use borrow.Author.Tests.{lt-ltb}
use Rattle.base.specs.Bytes.{pick}
use Rattle.base.specs.Storing.{Put}
use Rattle.base.proofs.Cases.{by_order}
use Rattle.base.proofs.Put.{put_front}
use Rattle.frame.specs.PackedReading.{numbered}
use Rattle.frame.specs.Refusals.{refused, refusal_in, by_result}
use Rattle.frame.specs.declared.refusals.Refusal.{Refusal}
use Rattle.frame_c.specs.CAnswers.{refusal_answer_of}
use Rattle.frame_c.specs.CStored.{stored_in, Fills}

-- what is stored has room
ok_not_short : {A : Type 0} (x : A) {y : A} (count room : ℕ) → room < count → stored_in (Ok x) count room ≡ Ok y → ⊥
ok_not_short {A} x {y} count room h e =
    let short : ◌≡◌ {A = Result A Refusal} (Err (refused 7)) (stored_in (Ok x) count room) =
    sym (ap (λ b. pick {A = Result A Refusal} b (Err (refused 7)) (Ok x)) (lt-ltb room count h)) in
    let none : ◌≡◌ {A = Result A Refusal} (Err (refused 7)) (Ok y) = short ∙ e in
    search rules

pub room_left : {A : Type 0} (found : Result A Refusal) {x : A} (count room : ℕ) → stored_in found count room ≡ Ok x → count ≤ room
room_left (Ok y) count room e = by_order count room (λ h. h) (λ h. absurd (ok_not_short y count room h e))
room_left (Err r) count room e = search rules

pub not_stored : {A : Type 0} {k : Result A Refusal} {q : Refusal} {bytes : A → List ℕ} {l : List ℕ} {r : ℕ} → k ≡ Err q
    → r ≡ refusal_answer_of q → Fills k bytes l r l
not_stored {bytes = bytes} {l = l} e a =
    record {
      answer = a ∙ ap (λ k. refusal_answer_of (refusal_in k)) (sym e);
      output = ap (λ k. by_result (λ x. bytes x ++ drop (length (bytes x)) l) (λ q. l) k) (sym e);
    }

pub stored : {A : Type 0} {k : Result A Refusal} {x : A} {bytes : A → List ℕ} {l e : List ℕ} {r j : ℕ} → k ≡ Ok x
    → length (bytes x) ≤ length l → r ≡ numbered 0 0 → Put l 0 (bytes x) j e → Fills k bytes l r e
stored {bytes = bytes} {l = l} q room a put =
    record {
      answer = a ∙ ap (λ k. refusal_answer_of (refusal_in k)) (sym q);
      output =
          put_front put room
          ∙ ap (λ k. by_result (λ x. bytes x ++ drop (length (bytes x)) l) (λ q. l) k) (sym q);
    }
