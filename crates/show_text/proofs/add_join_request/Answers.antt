-- `add_join_request` adds its five lines, one after the other. Assumes nothing.
use mathlib.Core.Path.{ap}
use native.Mathlib.Omega.{arith}
use Rattle.show_text.specs.Text.{mic_word, hex_line_of, join_request_text}
use Rattle.show_text.proofs.Fields.{mic-part}
use Rattle.show_text.proofs.Writing.{then, same}
use Rattle.show_text.proofs.add_join_request.Goals as goal

pub returns : goal.returns
unfolding join_request_text
returns c =
    let mic = same (ap (hex_line_of mic_word) (mic-part c.args.frame.now 19 (omega arith))) c.add_hex_line-4.ensures in
    then (then (then (then c.add_number_line.ensures c.add_hex_line.ensures) c.add_hex_line-2.ensures) c.add_hex_line-3.ensures) mic
