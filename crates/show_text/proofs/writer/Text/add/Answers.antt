-- `add` stores what finds room. Assumes nothing.
use mathlib.Core.Path.{◌≡◌}
use borrow.Author.Rules.{rules}
use lib.ListN.{length}
use Rattle.show_text.proofs.Writing.{stored}
use Rattle.show_text.proofs.writer.Text.add.Goals as goal

pub returns : goal.returns
returns c =
    let long : length c.args.self.now.bytes ≡ 128 = search rules in
    stored long c.put-self.ensures
