use Rattle.std.proofs.Common.{◌≡◌, ◌+◌, ◌++◌, length, take}
use Rattle.reply_text.proofs.SentenceLemmas.{joined}
use Rattle.reply_text.proofs.sentences.append_words.Given as goal

abbrev pub invariant-loop-word : goal.invariant-loop-word
invariant-loop-word l =
    (l.reply.text ≡ l.fn.reply.text ++ joined l.first (take l.word-index l.others))
    × (l.reply.spare + length (joined l.first (take l.word-index l.others)) ≡ l.fn.reply.spare)
