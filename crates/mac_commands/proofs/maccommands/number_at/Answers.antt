use mathlib.Core.Path.{sym}
use borrow.Author.Rules.{rules}
use Rattle.mac_commands.proofs.Numbering.{none, one, two, three, four, five}
use Rattle.mac_commands.proofs.maccommands.number_at.Goals as goal

pub returns-then-n-eq0 : goal.returns-then-n-eq0
returns-then-n-eq0 c = sym (none _ c.args.from c.args.n c.if-n-eq0.true (search rules))

pub returns-then-n-eq1 : goal.returns-then-n-eq1
returns-then-n-eq1 c = sym (one _ c.args.from c.args.n c.if-n-eq1.true (search rules))

pub returns-then-n-eq2 : goal.returns-then-n-eq2
returns-then-n-eq2 c = sym (two _ c.args.from c.args.n c.if-n-eq2.true (search rules))

pub returns-then-n-eq3 : goal.returns-then-n-eq3
returns-then-n-eq3 c = sym (three _ c.args.from c.args.n c.if-n-eq3.true (search rules))

pub returns-then-n-eq4 : goal.returns-then-n-eq4
returns-then-n-eq4 c = sym (four _ c.args.from c.args.n c.if-n-eq4.true (search rules))

pub returns : goal.returns
returns c = sym (five _ c.args.from c.args.n (search rules) (search rules))
