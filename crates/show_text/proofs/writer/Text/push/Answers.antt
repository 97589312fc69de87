-- `push` stores a byte that finds room. Assumes nothing.
use mathlib.Core.Path.{◌≡◌}
use borrow.Author.Rules.{rules}
use lib.ListN.{length}
use Rattle.show_text.proofs.Writing.{one, none}
use Rattle.show_text.proofs.writer.Text.push.Goals as goal

pub returns-then-self-lt-TEXT_ROOM : goal.returns-then-self-lt-TEXT_ROOM
returns-then-self-lt-TEXT_ROOM c =
    let long : length c.args.self.now.bytes ≡ 128 = search rules in
    one long c.if-self-lt-TEXT_ROOM.true

pub returns-else-self-lt-TEXT_ROOM : goal.returns-else-self-lt-TEXT_ROOM
returns-else-self-lt-TEXT_ROOM c =
    let long : length c.args.self.now.bytes ≡ 128 = search rules in
    none long c.if-self-lt-TEXT_ROOM.false
