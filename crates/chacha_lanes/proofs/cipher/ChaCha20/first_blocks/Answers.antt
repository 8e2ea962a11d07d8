use Rattle.std.proofs.Common.{◌≡◌, ◌∙◌, ap₂, arith, refl, sym, replicate}
use Rattle.std_defs.specs.ChaCha20.{stream_byte}
use Rattle.std_defs.proofs.ChaChaOpened.{chacha20-all, key_stream}
use Rattle.chacha_lanes.proofs.Shifts.{of_zeros}
use Rattle.chacha_lanes.proofs.cipher.ChaCha20.first_blocks.Goals as goal

pub returns : goal.returns
returns c =
    rw (← c.self.view_is)
    (chacha20-all c.self.inside.key c.args.nonce.now 0 c.eight_blocks_of.result (replicate 512 0) (omega arith)
    (λ k lt. c.eight_blocks_of.ensures k lt
    ∙ ap₂ (λ a b. stream_byte a b 0 k) c.key_words.ensures c.nonce_words.ensures
    ∙ sym (of_zeros 512 k (key_stream c.self.inside.key c.args.nonce.now 0 k) lt)))
