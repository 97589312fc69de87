-- `aes::key_expansion::next_word` meets its contract: it is the sum of the two words, byte by byte.
-- Assumes nothing.
use mathlib.Core.Path.{ap, ap₂, ◌∙◌}
use mathlib.Core.List.{List}
use Prim.Native.Nat.{ℕ, ◌+◌}
use borrow.Author.Rules.{rules}
use Rattle.base.specs.Bytes.{at, ◌⊕◌}
use Rattle.aes.specs.KeyExpansion.{xor_word, temp, next_word_of}
use Rattle.aes.proofs.Made.{made}
use Rattle.aes.proofs.key_expansion.next_word.Goals as goal

pub returns : goal.returns
unfolding next_word_of
returns c =
    made (λ j. at c.word_at-p.result j ⊕ at c.added-t.result j) 4 c.from_fn.result c.from_fn.ensures.items
    (λ i y q l r. (search rules, search rules))
    ∙ ap₂ xor_word c.word_at-p.ensures (c.added-t.ensures ∙ ap (λ (q : List ℕ). temp q (c.args.n + 4)) c.word_at.ensures)
