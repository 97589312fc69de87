use native.Mathlib.Omega.{arith}
use Rattle.mac_commands.proofs.TableLaws.{size_most}
use borrow.Author.Rules.{rules}
use Rattle.mac_commands.proofs.maccommands.read_row.Goals as goal

pub number_at-v-requires : goal.number_at-v-requires
number_at-v-requires c = omega (arith, c.row_at-n.ensures.size, size_most c.args.r (search rules))
