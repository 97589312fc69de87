-- `open_checked` compares the MIC of the chain values with the frame's, and keeps the frame, both keys and the chain values
-- where they are the same. Assumes nothing.
use Rattle.std.specs.Prelude.{Err}
use mathlib.Core.Path.{◌≡◌, ap, ◌∙◌}
use native.Mathlib.Omega.{arith}
use Rattle.frame.proofs.LayoutLaws.{mic_run}
use borrow.Author.Rules.{rules}
use lib.ListN.{length}
use Rattle.frame_security.specs.Mic.{same_bytes}
use Rattle.frame_security.specs.Security.{covered, data_mic_of}
use Rattle.frame.specs.Layout.{mic_of}
use Rattle.amend.proofs.OpeningLaws.{tested_is, checked_opens, checked_refuses, stored_frame, opened_is}
use Rattle.amend.proofs.opening.open_checked.Goals as goal

pub sign_from-mic-requires : goal.sign_from-mic-requires
sign_from-mic-requires c =
    let long : length c.chains_of-chains.result ≡ 256 = search rules in
    (omega arith, omega arith, omega arith)

pub returns-then-not-same_mic : goal.returns-then-not-same_mic
returns-then-not-same_mic c =
    let args = c.args in
    let f = args.frame.now in
    let tested : c.same_mic.result ≡ same_bytes (data_mic_of args.nwk_skey (covered f) args.counter) (mic_of f) =
    tested_is f args.nwk_skey args.counter c.requires.0 c.requires.1 c.expand-nwk_schedule.ensures
    c.chains_of-chains.ensures c.sign_from-mic.ensures
    (c.run_at-given.ensures ∙ mic_run f (omega (arith, c.requires)))
    c.same_mic.ensures in
    ap Err c.of.ensures ∙ checked_refuses f args.nwk_skey args.app_skey args.counter tested c.if-not-same_mic.true

pub returns : goal.returns
returns c =
    let args = c.args in
    let f = args.frame.now in
    let tested : c.same_mic.result ≡ same_bytes (data_mic_of args.nwk_skey (covered f) args.counter) (mic_of f) =
    tested_is f args.nwk_skey args.counter c.requires.0 c.requires.1 c.expand-nwk_schedule.ensures
    c.chains_of-chains.ensures c.sign_from-mic.ensures
    (c.run_at-given.ensures ∙ mic_run f (omega (arith, c.requires)))
    c.same_mic.ensures in
    checked_opens f args.nwk_skey args.app_skey args.counter tested c.if-not-same_mic.false
    (opened_is f args.nwk_skey args.app_skey args.counter (c.put.ensures.list ∙ stored_frame f c.requires.1)
    c.expand-nwk_schedule.ensures c.expand-app_schedule.ensures c.chains_of-chains.ensures)
