-- `fill_accept` meets its contract: the head, and the list where there is one, are stored one after the other.
-- Assumes nothing.
use native.Mathlib.Omega.{arith}
use Rattle.base.proofs.Put.{renamed, then}
use Rattle.base.proofs.StoringLaws.{fitted}
use Rattle.frame_build.proofs.JoinBodies.{accept_least, accept_listed, listed_body, bare_body}
use Rattle.frame_build.proofs.creator.join.fill_accept.Goals as goal

pub returns-then-j : goal.returns-then-j
returns-then-j c =
    let put = c.put-a in
    let listed = accept_listed c.args.j.with_c_f_list c.if-j.true in
    let head = fitted put.ensures (omega (arith, listed, c.requires)) in
    let list = fitted c.put.ensures (omega (arith, listed, c.requires, head.next, put.auto.out)) in
    renamed (then head list) (listed_body _ _ c.if-j.true c.accept_head-head.ensures c.cf_list_bytes-list.ensures)

pub returns : goal.returns
returns c =
    let head = fitted c.put-a.ensures (omega (arith, accept_least c.args.j.with_c_f_list, c.requires)) in
    renamed head (bare_body _ _ c.if-j.false c.accept_head-head.ensures)
