use Rattle.std.proofs.Common.{◌≡◌, ◌∙◌, ℕ, ◌+◌, ap, ap₂, arith, subst, slice_index, bit_xor}
use Rattle.std_defs.specs.ChaCha20.{stream_byte}
use Rattle.std_defs.proofs.ChaChaOpened.{chacha20-all}
use Rattle.chacha_lanes.proofs.cipher.ChaCha20.apply.Goals as goal

pub returns : goal.returns
returns c =
    rw (← c.self.view_is)
    (chacha20-all c.self.inside.key c.args.nonce.now c.args.counter c.apply_from.new.text c.args.text.now c.apply_from.ensures.long
    (λ k lt. (let start : 0 + k ≡ k = omega arith in
    subst (λ p. slice_index c.apply_from.new.text p ≡ bit_xor (slice_index c.args.text.now p) (stream_byte c.key_words.result c.nonce_words.result c.args.counter k)) start
    (c.apply_from.ensures.there k (omega arith))
    ∙ ap₂ (λ a b. bit_xor (slice_index c.args.text.now k) (stream_byte a b c.args.counter k)) c.key_words.ensures c.nonce_words.ensures)))
