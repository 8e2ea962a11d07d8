use Rattle.std.proofs.Common.{◌≡◌, ◌∙◌, ℕ, ◌+◌, ◌*◌, ◌<◌, ap, arith, take, drop, slice_index}
use Rattle.std_defs.specs.Poly1305.{little_endian}
use Rattle.poly1305.proofs.Words.{in_both, two_words}
use Rattle.poly1305.proofs.blocks.four_blocks.Goals as goal

pub returns-clause-value : goal.returns-clause-value
returns-clause-value c j lt small =
    let bytes = c.args.bytes.now in
    let at = c.args.at in
    let f : ℕ → ℕ = λ i. little_endian (take 8 (drop (at + 8 * i) bytes)) in
    let x = c.four_words-x.result in
    let y = c.four_words-y.result in
    let ey : (j : ℕ) → j < 4 → slice_index y j ≡ f (4 + j) =
    λ j h. (let place : at + 32 + 8 * j ≡ at + 8 * (4 + j) = omega arith in c.four_words-y.ensures.word j h ∙ ap (λ n. little_endian (take 8 (drop n bytes))) place) in
    let first : slice_index c.even.result j ≡ f (2 * j) = c.even.ensures j lt ∙ in_both x y f c.four_words-x.ensures.long c.four_words-x.ensures.word ey (2 * j) (omega arith) in
    let second : slice_index c.odd.result j ≡ f (2 * j + 1) = c.odd.ensures j lt ∙ in_both x y f c.four_words-x.ensures.long c.four_words-x.ensures.word ey (2 * j + 1) (omega arith) in
    let one : at + 8 * (2 * j) ≡ at + 16 * j = omega arith in
    let two : at + 8 * (2 * j + 1) ≡ at + 16 * j + 8 = omega arith in
    let lows : slice_index c.even.result j ≡ little_endian (take 8 (drop (at + 16 * j) bytes)) = first ∙ ap (λ n. little_endian (take 8 (drop n bytes))) one in
    let highs : slice_index c.odd.result j ≡ little_endian (take 8 (drop (at + 16 * j + 8) bytes)) = second ∙ ap (λ n. little_endian (take 8 (drop n bytes))) two in
    let both = two_words bytes (at + 16 * j) (omega arith) in
    c.limbs_of.ensures.value j lt small ∙ omega arith
