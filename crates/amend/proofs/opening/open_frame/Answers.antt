-- `open_frame` goes by the reading, then by the counter. Assumes nothing.
use Rattle.std.specs.Prelude.{Ok, Err}
use mathlib.Core.Path.{◌≡◌, sym, ap, ◌∙◌}
use borrow.Author.Rules.{rules}
use Rattle.frame.specs.Reading.{read_of}
use Rattle.frame.specs.declared.parser.Frame.TheVariants.{Data}
use Rattle.frame.proofs.Others.{data_there}
use Rattle.frame.proofs.ReadingLaws.{data_read}
use Rattle.amend.proofs.OpeningLaws.{open_data_lem, open_other, counter_right, counter_wrong, read_fcnt}
use Rattle.amend.proofs.opening.open_frame.Goals as goal

pub returns-in_err-data : goal.returns-in_err-data
returns-in_err-data c =
    let args = c.args in
    let same : c.from_residual.result ≡ Err c.in_err-data.field-0.0 = search rules in
    same ∙ open_other args.frame.now args.nwk_skey args.app_skey args.counter c.in_err-data.ensures

pub returns-then-counter-data : goal.returns-then-counter-data
returns-then-counter-data c =
    let args = c.args in
    let f = args.frame.now in
    let is : read_of f ≡ Ok (Data c.in_ok-data.data) = data_there _ c.in_ok-data.ensures in
    ap Err c.of.ensures
    ∙ sym
    (open_data_lem f args.nwk_skey args.app_skey args.counter (data_read f is)
    ∙ counter_wrong f args.nwk_skey args.app_skey args.counter (λ q. c.if-counter-data.true (q ∙ sym (read_fcnt f is))))

pub open_checked-requires : goal.open_checked-requires
open_checked-requires c =
    let f = c.args.frame.now in
    let is : read_of f ≡ Ok (Data c.in_ok-data.data) = data_there _ c.in_ok-data.ensures in
    ((data_read f is).least, (data_read f is).most)

pub returns : goal.returns
returns c =
    let args = c.args in
    let f = args.frame.now in
    let is : read_of f ≡ Ok (Data c.in_ok-data.data) = data_there _ c.in_ok-data.ensures in
    c.open_checked.ensures
    ∙ sym
    (open_data_lem f args.nwk_skey args.app_skey args.counter (data_read f is)
    ∙ counter_right f args.nwk_skey args.app_skey args.counter (c.if-counter-data.false ∙ read_fcnt f is))
