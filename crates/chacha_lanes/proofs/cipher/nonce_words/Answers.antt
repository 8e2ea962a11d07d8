use Rattle.std.proofs.Common.{refl}
use Rattle.std_defs.specs.ChaCha20.{words}
use Rattle.chacha_lanes.proofs.cipher.nonce_words.Goals as goal

pub returns : goal.returns
unfolding words
returns c = rw (c.word_at.ensures, c.word_at-2.ensures, c.word_at-3.ensures) refl
