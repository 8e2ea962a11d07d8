use Rattle.std.proofs.Common.{◌≡◌, ◌+◌, ◌<◌, ◌≤◌, ◌^◌, length, take}
use Rattle.reply_text.proofs.SentenceLemmas.{joined}
use Rattle.reply_text.proofs.sentences.line_len.Given as goal

abbrev pub invariant-loop-word : goal.invariant-loop-word
invariant-loop-word l =
    (l.len ≤ length (joined l.first (take l.word-index l.others)))
    × (l.len + 1 < 2 ^ 64 → l.len ≡ length (joined l.first (take l.word-index l.others)))
