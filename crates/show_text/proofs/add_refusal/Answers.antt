-- `add_refusal` adds the line of its number and its place. Assumes nothing.
use mathlib.Core.Path.{ap}
use Prim.Native.Nat.{ℕ}
use Rattle.show_text.specs.Text.{refused_word, at_word, pair_line, refusal_text}
use Rattle.show_text.proofs.Writing.{same}
use Rattle.show_text.proofs.add_refusal.Goals as goal

pub returns : goal.returns
unfolding refusal_text
returns c =
    same (ap (λ (n : ℕ). pair_line refused_word n at_word c.args.refusal.place) c.from.ensures) c.add_pair_line.ensures
