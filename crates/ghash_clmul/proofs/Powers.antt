-- Products by powers that are kept divided by x.
use Rattle.std.proofs.Common.{◌≡◌, ℕ, suc, ◌/◌, ◌%◌, ◌^◌, ◌<◌, Bool, true, false, cond, eqb, bit_xor, refl, sym, ap, ap₂, ◌∙◌, arith, lit<}
use Rattle.std.specs.Int.Bits.{xor_assoc, xor_lt}
use Rattle.std_defs.specs.Aes.{product}
use Rattle.std_defs.specs.GhashField.{polynomial_of, field_product, field_power, field_one}
use Rattle.std_defs.proofs.Multiples.{fold, times_x, multiple-times_x}
use Rattle.std_defs.proofs.Field.{field_product-multiple, field_product-comm, field_product-one, field_power-lt}
use Rattle.ghash_field.specs.ByteRows.{sum_of_eight}
use Rattle.ghash_clmul.specs.Wide.{reduced}
use Rattle.ghash_clmul.proofs.Reduced.{reduced-xor, reduced-product}

pub times_x-lt : (v : ℕ) → v < 2 ^ 128 → times_x v < 2 ^ 128
unfolding times_x
times_x-lt v h = xor_lt 128 (v / 2) (cond (eqb (v % 2) 1) fold 0) (omega arith) (chosen (eqb (v % 2) 1))
  where
    chosen : (b : Bool) → cond b fold 0 < 2 ^ 128
    chosen true = lit< tt
    chosen false = lit< tt

pub field_product-times_x : (a b : ℕ) → b < 2 ^ 128 → field_product a (times_x b) ≡ times_x (field_product a b)
field_product-times_x a b h =
    field_product-multiple a (times_x b) (times_x-lt b h)
    ∙ multiple-times_x 128 (polynomial_of a) b
    ∙ ap times_x (sym (field_product-multiple a b h))

-- the product by a block p, reduced, is the field's product by x times p
pub by_divided : (a p : ℕ) → a < 2 ^ 128 → p < 2 ^ 128 → reduced (product a p 128) ≡ field_product a (times_x p)
by_divided a p ha hp = reduced-product a p ha hp ∙ sym (field_product-times_x a p hp)

-- x^-2
over_x_squared : times_x (times_x 0x46000000000000000000000000000003) ≡ field_one
unfolding times_x
over_x_squared = refl

-- a block divided by x
pub divided : (h : ℕ) → h < 2 ^ 128 → times_x (reduced (product h 0x46000000000000000000000000000003 128)) ≡ h
divided h fits =
    ap times_x (by_divided h 0x46000000000000000000000000000003 fits (lit< tt))
    ∙ sym (field_product-times_x h (times_x 0x46000000000000000000000000000003) (times_x-lt 0x46000000000000000000000000000003 (lit< tt)))
    ∙ ap (field_product h) over_x_squared
    ∙ field_product-one h fits

-- the next power, divided by x
pub next_divided : (p q r : ℕ) → p < 2 ^ 128 → q < 2 ^ 128 → r ≡ field_product p (times_x q) → times_x r ≡ field_product (times_x p) (times_x q)
next_divided p q r hp hq e =
    ap times_x (e ∙ field_product-comm p (times_x q) hp (times_x-lt q hq))
    ∙ sym (field_product-times_x (times_x q) p hp)
    ∙ field_product-comm (times_x q) (times_x p) (times_x-lt q hq) (times_x-lt p hp)

pub next_of_powers : (h n v w : ℕ) → h < 2 ^ 128 → v ≡ field_power h n → w ≡ field_product v h → w ≡ field_power h (suc n)
unfolding field_power
next_of_powers h n v w fits ev ew = ew ∙ ap (λ (t : ℕ). field_product t h) ev ∙ field_product-comm (field_power h n) h (field_power-lt h n) fits

-- ---- eight products, added before they are reduced

pub reduced_eight : (a b c d e f g h : ℕ)
    → reduced (bit_xor (bit_xor (bit_xor (bit_xor (bit_xor (bit_xor (bit_xor a b) c) d) e) f) g) h)
    ≡ sum_of_eight (reduced a) (reduced b) (reduced c) (reduced d) (reduced e) (reduced f) (reduced g) (reduced h)
reduced_eight a b c d e f g h =
    ap reduced (regrouped a b c d e f g h)
    ∙ reduced-xor (bit_xor (bit_xor a b) (bit_xor c d)) (bit_xor (bit_xor e f) (bit_xor g h))
    ∙ ap₂ bit_xor (four a b c d) (four e f g h)
  where
    four : (a b c d : ℕ) → reduced (bit_xor (bit_xor a b) (bit_xor c d)) ≡ bit_xor (bit_xor (reduced a) (reduced b)) (bit_xor (reduced c) (reduced d))
    four a b c d = reduced-xor (bit_xor a b) (bit_xor c d) ∙ ap₂ bit_xor (reduced-xor a b) (reduced-xor c d)

    regrouped : (a b c d e f g h : ℕ) → bit_xor (bit_xor (bit_xor (bit_xor (bit_xor (bit_xor (bit_xor a b) c) d) e) f) g) h ≡ sum_of_eight a b c d e f g h
    regrouped a b c d e f g h =
        ap (λ (t : ℕ). bit_xor (bit_xor (bit_xor (bit_xor t e) f) g) h) (xor_assoc (bit_xor a b) c d)
        ∙ ap (λ (t : ℕ). bit_xor (bit_xor t g) h) (xor_assoc (bit_xor (bit_xor a b) (bit_xor c d)) e f)
        ∙ xor_assoc (bit_xor (bit_xor (bit_xor a b) (bit_xor c d)) (bit_xor e f)) g h
        ∙ xor_assoc (bit_xor (bit_xor a b) (bit_xor c d)) (bit_xor e f) (bit_xor g h)
