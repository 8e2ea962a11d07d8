use Rattle.std.proofs.Common.{◌≡◌, ◌∙◌, ℕ, ◌+◌, ◌*◌, ◌/◌, ◌%◌, ◌^◌, ◌<◌, ◌≤◌, [], arith, slice_index, slice_index_or}
use Rattle.std_defs.specs.ChaCha20.{stream_byte}
use Rattle.chacha_lanes.proofs.Written.{front_word, back_word, byte_there, both_parts}
use Rattle.chacha_lanes.proofs.stream.xor_eight.Goals as goal

pub loop-n-preserved : goal.loop-n-preserved
loop-n-preserved c =
    let key = c.args.key.now in
    let nonce = c.args.nonce.now in
    let counter : ℕ = c.args.counter in
    let n : ℕ = c.loop-n.n in
    let lt : n < 8 = omega arith in
    let x = c.eight_blocks-x.result in
    let front = c.transposed-front.result in
    let back = c.transposed-back.result in
    let a = c.add_words.ensures in
    let b = c.add_words-in-loop-n.ensures in
    let f : ℕ → ℕ = λ k. slice_index (slice_index_or front n []) (k / 4) / 256 ^ (k % 4) % 256 in
    let g : ℕ → ℕ = λ k. slice_index (slice_index_or back n []) (k / 4) / 256 ^ (k % 4) % 256 in
    let is_f : (k : ℕ) → k < 32 → f k ≡ stream_byte key nonce counter (64 * n + k) = λ k h.
    byte_there key nonce counter n k (64 * n + k) (slice_index (slice_index_or front n []) (k / 4)) (omega arith) (omega arith)
    (front_word x front n (k / 4) lt (omega arith) c.transposed-front.ensures ∙ c.eight_blocks-x.ensures n (k / 4) lt (omega arith)) in
    let is_g : (k : ℕ) → k < 32 → g k ≡ stream_byte key nonce counter (64 * n + 32 + k) = λ k h.
    (let word : (32 + k) / 4 ≡ 8 + k / 4 = omega arith in
    let byte : (32 + k) % 4 ≡ k % 4 = omega arith in
    rw (← byte) (byte_there key nonce counter n (32 + k) (64 * n + 32 + k) (slice_index (slice_index_or back n []) (k / 4)) (omega arith) (omega arith)
    (rw word (back_word x back n (k / 4) lt (omega arith) c.transposed-back.ensures ∙ c.eight_blocks-x.ensures n (8 + k / 4) lt (omega arith))))) in
    record {
      long = omega (arith, a.long, b.long);
      done = both_parts c.args.text.now c.loop-n.text c.add_words.new.text c.add_words-in-loop-n.new.text f g (stream_byte key nonce counter) n
          c.loop-n.invariant.done c.loop-n.invariant.left a.before a.there a.behind b.before b.there is_f is_g;
      left = λ i h. b.behind i (omega arith) ∙ a.behind i (omega arith) ∙ c.loop-n.invariant.left i (omega arith);
    }
