use Rattle.std.proofs.Common.{arith}
use Rattle.reply_text.proofs.HexLemmas.{figure_in_table, letter_in_table}
use Rattle.reply_text.proofs.hexadecimal.digit_of.Goals as goal

pub returns-then-value-lt10 : goal.returns-then-value-lt10
returns-then-value-lt10 c = figure_in_table c.args.value (omega arith)

pub returns-else-value-lt10 : goal.returns-else-value-lt10
returns-else-value-lt10 c = letter_in_table c.args.value (omega arith) c.requires
