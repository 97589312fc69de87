-- `show_text::describe_input` meets its contract: the text of the input, or nothing in a buffer that is too short.
-- Assumes nothing.
use Rattle.show_text.proofs.Described.{written}
use Rattle.show_text.proofs.Lengths.{length-text_of_input}
use Rattle.show_text.proofs.describe_input.Goals as goal

pub returns : goal.returns
returns c =
    let small = length-text_of_input c.args.start.now (λ i. (c.type_inv.start i).fits) c.args.count in
    let done = written _ small c.if-out-lt-TEXT_ROOM.false c.put_input.ensures in
    record { value = done.0; out_after = done.1 }
