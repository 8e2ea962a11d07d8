use Rattle.std.proofs.Common.{◌∙◌, ℕ, sym, ap, subst, lit<, bit_xor}
use Rattle.std_defs.specs.GhashField.{polynomial_of, product, IsCongruent, field_one, field_product}
use Rattle.std_defs.proofs.Field.{field_product-congruent, field_product-only, field_product-comm, field_product-assoc, field_product-xor_right, field_product-one}
use Rattle.ghash_field.proofs.product.multiply.Goals as goal

pub returns-clause-congruent : goal.returns-clause-congruent
returns-clause-congruent c =
    subst (λ (r : ℕ). IsCongruent (product (polynomial_of c.args.x) (polynomial_of c.args.y)) (polynomial_of r))
    (sym c.shift_and_fold.ensures) (field_product-congruent c.args.x c.args.y)

pub returns-clause-only : goal.returns-clause-only
returns-clause-only c = λ r fits congruent. field_product-only c.args.x c.args.y r fits congruent ∙ sym c.shift_and_fold.ensures

pub returns-clause-commutes : goal.returns-clause-commutes
returns-clause-commutes c = c.shift_and_fold.ensures ∙ field_product-comm c.args.x c.args.y c.ranges.x.fits c.ranges.y.fits

pub returns-clause-associates : goal.returns-clause-associates
returns-clause-associates c = λ z h.
    ap (λ t. field_product t z) c.shift_and_fold.ensures
    ∙ field_product-assoc c.args.x c.args.y z c.ranges.x.fits c.ranges.y.fits h

pub returns-clause-distributes : goal.returns-clause-distributes
returns-clause-distributes c = λ z h.
    field_product-xor_right c.args.x c.args.y z c.ranges.y.fits h
    ∙ ap (λ t. bit_xor t (field_product c.args.x z)) (sym c.shift_and_fold.ensures)

pub returns-clause-one : goal.returns-clause-one
returns-clause-one c = λ is.
    c.shift_and_fold.ensures
    ∙ ap (λ t. field_product t c.args.y) is
    ∙ field_product-comm field_one c.args.y (lit< tt) c.ranges.y.fits
    ∙ field_product-one c.args.y c.ranges.y.fits
