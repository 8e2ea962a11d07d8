use Rattle.std.proofs.Common.{◌≡◌, ◌∙◌, ℕ, ◌+◌, ◌-◌, ◌<◌, ◌≤◌, List, ap, ap₂, arith, subst, ⊎_elim, length, slice_index, bit_xor}
use Rattle.std.proofs.lemmas.Bool.{cases_lt}
use Rattle.std_defs.specs.ChaCha20.{stream_byte, words}
use Rattle.std_defs.proofs.ChaChaOpened.{chacha20-all}
use Rattle.chacha_lanes.proofs.Shifts.{shifted, first_at}
use Rattle.chacha_lanes.proofs.cipher.ChaCha20.apply_behind.Goals as goal

-- the front of a text, under the first blocks from their second on
front : (key nonce first : List ℕ) (old new : List ℕ) (k : ℕ)
    → slice_index new (0 + k) ≡ bit_xor (slice_index old (0 + k)) (slice_index first (64 + k))
    → slice_index first (64 + k) ≡ stream_byte (words 8 key) (words 3 nonce) 1 k
    → slice_index new k ≡ bit_xor (slice_index old k) (stream_byte (words 8 key) (words 3 nonce) 1 k)
front key nonce first old new k there is =
    let start : 0 + k ≡ k = omega arith in
    subst (λ p. slice_index new p ≡ bit_xor (slice_index old p) (slice_index first (64 + k))) start there
    ∙ ap (bit_xor (slice_index old k)) is

pub returns-then-text-le448 : goal.returns-then-text-le448
returns-then-text-le448 c =
    chacha20-all c.args.self.now c.args.nonce.now 1 c.xor_part.new.text c.args.text.now c.xor_part.ensures.long
    (λ k lt. front c.args.self.now c.args.nonce.now c.args.first.now c.args.text.now c.xor_part.new.text k (c.xor_part.ensures.there k (omega arith) (omega arith))
    (first_at c.args.self.now c.args.nonce.now c.args.first.now k c.requires.first (omega arith)))

pub returns : goal.returns
returns c =
    let key = c.self.inside.key in
    let nonce = c.args.nonce.now in
    let old = c.args.text.now in
    let mid = c.xor_part.new.text in
    let new = c.apply_from.new.text in
    let long : length mid ≡ length old = c.xor_part.ensures.long in
    rw (← c.self.view_is)
    (chacha20-all key nonce 1 new old (c.apply_from.ensures.long ∙ long)
    (λ k lt. ⊎_elim
    (λ (h : k < 448). c.apply_from.ensures.before k h
    ∙ front key nonce c.args.first.now old mid k (c.xor_part.ensures.there k (omega arith) (omega arith))
    (first_at key nonce c.args.first.now k (rw c.self.view_is c.requires.first) (omega arith)))
    (λ (h : 448 ≤ k).
    let place : 448 + (k - 448) ≡ k = omega arith in
    subst (λ p. slice_index new p ≡ bit_xor (slice_index mid p) (stream_byte c.key_words.result c.nonce_words.result 8 (k - 448))) place
    (c.apply_from.ensures.there (k - 448) (omega arith))
    ∙ ap₂ bit_xor (c.xor_part.ensures.behind k (omega arith))
    (ap₂ (λ a b. stream_byte a b 8 (k - 448)) c.key_words.ensures c.nonce_words.ensures
    ∙ shifted (words 8 key) (words 3 nonce) 8 1 (k - 448) k (omega arith) (omega arith)))
    (cases_lt k 448)))
