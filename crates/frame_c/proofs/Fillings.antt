-- What is stored of equal values is the same.
-- Assumes nothing.
use Rattle.std.specs.Prelude.{Result}
use Rattle.frame.specs.declared.refusals.Refusal.{Refusal}
use mathlib.Core.Path.{◌≡◌, subst}
use mathlib.Core.List.{List}
use Prim.Native.Nat.{ℕ}
use Rattle.frame.specs.declared.join_fields.JoinRequestFields.{JoinRequestFields}
use Rattle.frame.specs.declared.join_fields.JoinAcceptFields.{JoinAcceptFields}
use Rattle.frame_opening.specs.declared.join_accept.SessionKeys.{SessionKeys}
use Rattle.frame_c.specs.CStored.{KeysInto, RequestInto, AcceptInto}

pub keys_into : {k s : Result SessionKeys Refusal} {l e : List ℕ} {r : ℕ} → k ≡ s → KeysInto k l r e → KeysInto s l r e
keys_into {l = l} {e} {r} q h = subst (λ (s : Result SessionKeys Refusal). KeysInto s l r e) q h

pub request_into : {j k : Result JoinRequestFields Refusal} {l e : List ℕ} {r : ℕ} → j ≡ k → RequestInto j l r e → RequestInto k l r e
request_into {l = l} {e} {r} q h = subst (λ (k : Result JoinRequestFields Refusal). RequestInto k l r e) q h

pub accept_into : {j k : Result JoinAcceptFields Refusal} {l e : List ℕ} {r : ℕ} → j ≡ k → AcceptInto j l r e → AcceptInto k l r e
accept_into {l = l} {e} {r} q h = subst (λ (k : Result JoinAcceptFields Refusal). AcceptInto k l r e) q h
