-- `decrypt_payload` decrypts from the end of the header to the MIC: the places and the counter are those of the reading.
-- Assumes nothing.
use mathlib.Core.Path.{refl, ◌∙◌}
use native.Mathlib.Omega.{arith}
use Rattle.frame_security.specs.Security.{full_counter_of}
use Rattle.frame_security.proofs.SecurityLaws.{crypted_nothing}
use Rattle.frame_opening.proofs.OpeningLaws.{fopts_place, decrypted_in_place}
use Rattle.frame_opening.proofs.payload.decrypt_payload.Goals as goal

pub header_end-start-requires : goal.header_end-start-requires
header_end-start-requires c =
    omega (arith, fopts_place c.args.frame.now c.args.fields c.requires.1, c.requires.0.most, c.requires.0.fits)

-- no payload: there is nothing to decrypt
pub returns-then-start-mic : goal.returns-then-start-mic
returns-then-start-mic c =
    let whole = full_counter_of c.args.counter c.args.fields.fcnt in
    crypted_nothing c.args.key c.args.frame.now whole c.header_end-start.result c.args.fields.mic (omega (arith, c.if-start-mic.true))
    ∙ decrypted_in_place c.args.key c.args.frame.now c.args.counter c.args.fields c.requires.0 c.requires.1
    c.header_end-start.result c.header_end-start.ensures whole refl

pub returns : goal.returns
returns c =
    c.encrypt_part.ensures
    ∙ decrypted_in_place c.args.key c.args.frame.now c.args.counter c.args.fields c.requires.0 c.requires.1
    c.header_end-start.result c.header_end-start.ensures c.full_counter-whole.result c.full_counter-whole.ensures
