use Rattle.std.proofs.Common.{refl}
use Rattle.std_defs.specs.ChaCha20.{words}
use Rattle.chacha_lanes.proofs.cipher.key_words.Goals as goal

pub returns : goal.returns
unfolding words
returns c =
    rw (
      c.word_at.ensures,
      c.word_at-2.ensures,
      c.word_at-3.ensures,
      c.word_at-4.ensures,
      c.word_at-5.ensures,
      c.word_at-6.ensures,
      c.word_at-7.ensures,
      c.word_at-8.ensures,
    ) refl
