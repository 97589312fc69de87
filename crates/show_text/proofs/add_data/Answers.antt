-- `add_data` adds its eight lines, one after the other. Assumes nothing.
use mathlib.Core.Path.{ap}
use native.Mathlib.Omega.{arith}
use Rattle.show_text.specs.Text.{type_word, fctrl_word, mic_word, hex_line_of, number_line, header_text, rest_text, data_text}
use Rattle.show_text.proofs.Fields.{fields, fctrl-part, mic-part}
use Rattle.show_text.proofs.Writing.{then, same}
use Rattle.show_text.proofs.add_data.Goals as goal

pub overflow_sub-d : goal.overflow_sub-d
overflow_sub-d c =
    let known = fields c.args.frame.now c.args.d (λ i. (c.type_inv.frame i).fits) c.requires.fact c.requires.d_value in
    omega (arith, known.fopts_from)

pub add_payload_line-requires : goal.add_payload_line-requires
add_payload_line-requires c =
    let known = fields c.args.frame.now c.args.d (λ i. (c.type_inv.frame i).fits) c.requires.fact c.requires.d_value in
    known.spans

pub slice_bounds-add_hex_line-count-3 : goal.slice_bounds-add_hex_line-count-3
slice_bounds-add_hex_line-count-3 c =
    let known = fields c.args.frame.now c.args.d (λ i. (c.type_inv.frame i).fits) c.requires.fact c.requires.d_value in
    omega (arith, known.mic-at)

pub slice_bounds-add_hex_line-start-3 : goal.slice_bounds-add_hex_line-start-3
slice_bounds-add_hex_line-start-3 c =
    let known = fields c.args.frame.now c.args.d (λ i. (c.type_inv.frame i).fits) c.requires.fact c.requires.d_value in
    omega (arith, known.mic-at)

pub returns : goal.returns
unfolding data_text header_text rest_text
returns c =
    let known = fields c.args.frame.now c.args.d (λ i. (c.type_inv.frame i).fits) c.requires.fact c.requires.d_value in
    let frame = c.args.frame.now in
    let fctrl = same (ap (hex_line_of fctrl_word) (fctrl-part frame c.args.d c.requires.fact c.requires.d_value)) c.add_hex_line-2.ensures in
    let mic = same (ap (hex_line_of mic_word) (mic-part frame c.args.d.mic known.mic-at)) c.add_hex_line-3.ensures in
    let type_line = same (ap (number_line type_word) c.from.ensures) c.add_number_line.ensures in
    then
    (then (then (then type_line c.add_hex_line.ensures) fctrl) c.add_number_line-2.ensures)
    (then (then (then c.add_number_line-3.ensures c.add_port_line.ensures) c.add_payload_line.ensures) mic)
