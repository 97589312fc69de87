-- What is built reads back, said of what the builders answer: of every outcome that a builder's contract allows. Where the answer
-- is a frame of n bytes, the first n bytes of the output are read, tested, opened and taken apart as what went in. That the
-- building was accepted is the one premise; what the types of the arguments give is part of the contract.
-- Assumes nothing.
use Rattle.frame.specs.declared.refusals.Refusal.{Refusal}
use Rattle.std.specs.Prelude.{Err, Ok, Result}
use mathlib.Core.Path.{◌≡◌, sym, ap, ◌∙◌, subst}
use mathlib.Core.Bool.{Bool, true, false}
use mathlib.Core.List.{List, ◌++◌}
use Prim.Native.Nat.{ℕ}
use native.Mathlib.Omega.{arith}
use lib.Dec.{eqb}
use lib.ListN.{length, take, drop}
use lib.Seq.{take_at}
use borrow.Author.Tests.{eqb-true}
use Rattle.base.specs.Bytes.{pick}
use Rattle.base.proofs.Cases.{by_bool}
use Rattle.frame.specs.Refusals.{refused}
use Rattle.frame_build.specs.DataFrames.{Builds, built_value}
use Rattle.frame_build.proofs.creator.data_frame.build_data.Reads as build_data
use Rattle.frame_build.proofs.creator.join.build_join_request.Reads as build-join-request
use Rattle.frame_build.proofs.creator.join.build_join_accept.Reads as build-join-accept
use Rattle.theorems.specs.ReadBack.{Always, DataReadsBack, RequestReadsBack, AcceptReadsBack}
use Rattle.theorems.proofs.read_back.DataParts.{data_back}
use Rattle.theorems.proofs.read_back.DataOpens.{data_opens}
use Rattle.theorems.proofs.read_back.JoinParts.{join_request_back, join_accept_back}
use Rattle.theorems.proofs.read_back.JoinOpens.{request_opens, accept_opens}

-- ---- an accepted building

-- nothing was refused, and the frame stands at the start of the output
pub built_frame : (refusal : ℕ) (frame l e : List ℕ) (r : Result ℕ Refusal) → Builds refusal frame l r e → (n : ℕ) → r ≡ Ok n
    → (refusal ≡ 0) × (take n e ≡ frame)
built_frame refusal frame l e r b n q = by_bool (eqb refusal 0) taken not_taken
  where
    taken : eqb refusal 0 ≡ true → (refusal ≡ 0) × (take n e ≡ frame)
    taken t =
        let same : Ok n ≡ Ok (length frame) =
        sym q ∙ b.answer ∙ ap (λ (u : Bool). pick u (Ok (length frame)) (Err (refused refusal))) t in
        let out : e ≡ frame ++ drop (length frame) l =
        b.output ∙ ap (λ (u : Bool). pick u (frame ++ drop (length frame) l) l) t in
        (eqb-true refusal 0 t, ap (take n) out ∙ take_at frame (drop (length frame) l) n (sym (ap built_value same)))

    not_taken : eqb refusal 0 ≡ false → (refusal ≡ 0) × (take n e ≡ frame)
    not_taken t =
        let other : Ok n ≡ Err (refused refusal) =
        sym q ∙ b.answer ∙ ap (λ (u : Bool). pick u (Ok (length frame)) (Err (refused refusal))) t in
        let z : ◌≡◌ {A = ℕ} 0 1 = cc in
        absurd (omega arith)

-- ---- data frames: parts, commands, payload, network key, application key, output

pub data_reads_back : Always build_data.Learnt
    (λ κs a r s.
    (n : ℕ) → r ≡ Ok n
    → DataReadsBack a.1.1.1.0 a.1.1.1.1.0 a.0 a.1.0.now a.1.1.0.now
    (take n s.1.1.1.1.1.0.now))
data_reads_back κs a r s p n q =
    let d = a.0 in
    let commands = a.1.0.now in
    let body = a.1.1.0.now in
    let nwk = a.1.1.1.0 in
    let app = a.1.1.1.1.0 in
    let b = built_frame _ _ _ _ r p.0 n q in
    let back = data_back nwk app d p.1 commands body _ b.0 in
    subst (λ (f : List ℕ). DataReadsBack nwk app d commands body f) (sym b.1)
    (record { back = back; opens = data_opens nwk app d commands body _ back })

-- ---- join-requests: parts, AppKey, output

pub join_request_reads_back : Always build-join-request.Learnt
    (λ κs a r s. (n : ℕ) → r ≡ Ok n → RequestReadsBack a.1.0 a.0 (take n s.1.1.0.now))
join_request_reads_back κs a r s p n q =
    let b = built_frame _ _ _ _ r p.0 n q in
    subst (λ (f : List ℕ). RequestReadsBack a.1.0 a.0 f) (sym b.1)
    (request_opens a.1.0 a.0 _ (join_request_back a.1.0 a.0 p.1))

-- ---- join-accepts: parts, channels, AppKey, output

pub join_accept_reads_back : Always build-join-accept.Learnt
    (λ κs a r s.
    (n : ℕ) → r ≡ Ok n → AcceptReadsBack a.1.1.0 a.0 a.1.0.now (take n s.1.1.1.0.now))
join_accept_reads_back κs a r s p n q =
    let key = a.1.1.0 in
    let channels = a.1.0.now in
    let b = built_frame _ _ _ _ r p.0 n q in
    subst (λ (f : List ℕ). AcceptReadsBack key a.0 channels f) (sym b.1)
    (accept_opens key a.0 channels _ (join_accept_back key a.0 p.1 channels _ b.0))
