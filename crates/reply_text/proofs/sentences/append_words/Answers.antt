use Rattle.std.proofs.Common.{rules, arith, [], append_assoc}
use Rattle.reply_text.proofs.SentenceLemmas.{word_within, next_length, next_word}
use Rattle.reply_text.proofs.sentences.append_words.Goals as goal

pub append-requires-in-loop-word : goal.append-requires-in-loop-word
append-requires-in-loop-word c = search (rules, word_within c.args.first.now c.args.others.now c.loop-word.word-index (record { ref_ptr = (0, 0); now = [] }) (omega arith))

pub append-requires-in-loop-word-2 : goal.append-requires-in-loop-word-2
append-requires-in-loop-word-2 c = search (rules, word_within c.args.first.now c.args.others.now c.loop-word.word-index (record { ref_ptr = (0, 0); now = [] }) (omega arith))

pub loop-word-preserved : goal.loop-word-preserved
loop-word-preserved c = search (rules, next_length c.args.first.now c.args.others.now c.loop-word.word-index (record { ref_ptr = (0, 0); now = [] }) (omega arith), next_word c.args.first.now c.args.others.now c.loop-word.word-index (record { ref_ptr = (0, 0); now = [] }) (omega arith), append_assoc)
