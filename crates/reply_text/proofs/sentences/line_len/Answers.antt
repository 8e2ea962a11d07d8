use Rattle.std.proofs.Common.{rules, arith, []}
use Rattle.reply_text.proofs.SentenceLemmas.{next_length}
use Rattle.reply_text.proofs.sentences.line_len.Goals as goal

pub loop-word-preserved : goal.loop-word-preserved
loop-word-preserved c = search (rules, next_length c.args.first.now c.args.others.now c.loop-word.word-index (record { ref_ptr = (0, 0); now = [] }) (omega arith))
