use Rattle.std.proofs.Common.{ℕ, ◌≡◌, ◌∙◌, ◌/◌, ◌%◌, ◌^◌, ap, ap₂, sym, bit_xor, slice_index}
use Rattle.std_defs.specs.Aes.{product}
use Rattle.ghash_clmul.specs.Wide.{number}
use Rattle.ghash_clmul.proofs.Vectors.{number-halves, number-low, number-high}
use Rattle.ghash_clmul.proofs.Parts.{spanned-same, product-of_halves}
use Rattle.ghash_clmul.proofs.wide.product_of.Goals as goal

pub returns : goal.returns
returns c =
    let x = c.args.x in
    let y = c.args.y in
    let lx : number x % 2 ^ 64 ≡ slice_index x 0 = number-low x c.fits-x in
    let hx : number x / 2 ^ 64 ≡ slice_index x 1 = number-high x c.fits-x in
    let ly : number y % 2 ^ 64 ≡ slice_index y 0 = number-low y c.fits-y in
    let hy : number y / 2 ^ 64 ≡ slice_index y 1 = number-high y c.fits-y in
    spanned-same
    (ap number c.clmul_low_low.ensures ∙ number-halves (product (slice_index x 0) (slice_index y 0) 64) ∙ sym (ap₂ (λ (a b : ℕ). product a b 64) lx ly))
    (c.added.ensures.sum
    ∙ ap₂ bit_xor
    (ap number c.clmul_low_high.ensures ∙ number-halves (product (slice_index x 0) (slice_index y 1) 64) ∙ sym (ap₂ (λ (a b : ℕ). product a b 64) lx hy))
    (ap number c.clmul_high_low.ensures ∙ number-halves (product (slice_index x 1) (slice_index y 0) 64) ∙ sym (ap₂ (λ (a b : ℕ). product a b 64) hx ly)))
    (ap number c.clmul_high_high.ensures ∙ number-halves (product (slice_index x 1) (slice_index y 1) 64) ∙ sym (ap₂ (λ (a b : ℕ). product a b 64) hx hy))
    ∙ sym (product-of_halves (number x) (number y))
