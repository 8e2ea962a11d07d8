use Rattle.std.proofs.Common.{◌≡◌, ℕ, ◌^◌, ◌<◌, arith, List, slice_index}
use Rattle.poly1305.specs.Limbs.{limb, AreBelow, products_in}
use Rattle.poly1305.proofs.Products.{product_of, products_below}
use Rattle.poly1305.proofs.limbs.products.Goals as goal

-- a sum of products, and its bound
row : (d : ℕ) (a b : List (List ℕ)) (j : ℕ) → (AreBelow (2 ^ 28) a j → AreBelow (2 ^ 30) b j → d ≡ products_in a b j)
    → AreBelow (2 ^ 28) a j → AreBelow (2 ^ 30) b j → (d ≡ products_in a b j) × (d < 2 ^ 61)
row d a b j is below_a below_b =
    let e = is below_a below_b in
    let f = products_below a b j below_a below_b in
    (e, omega arith)

pub returns-clause-below : goal.returns-clause-below
returns-clause-below c j lt below_h below_r =
    let s1 = c.five_times-s1.ensures j lt (omega arith) in
    let s2 = c.five_times-s2.ensures j lt (omega arith) in
    let s3 = c.five_times-s3.ensures j lt (omega arith) in
    let s4 = c.five_times-s4.ensures j lt (omega arith) in
    let d0 = row _ _ _ j (c.sum_of_products.ensures j lt) below_h (record { b0 = omega arith; b1 = omega arith; b2 = omega arith; b3 = omega arith; b4 = omega arith }) in
    let d1 = row _ _ _ j (c.sum_of_products-2.ensures j lt) below_h (record { b0 = omega arith; b1 = omega arith; b2 = omega arith; b3 = omega arith; b4 = omega arith }) in
    let d2 = row _ _ _ j (c.sum_of_products-3.ensures j lt) below_h (record { b0 = omega arith; b1 = omega arith; b2 = omega arith; b3 = omega arith; b4 = omega arith }) in
    let d3 = row _ _ _ j (c.sum_of_products-4.ensures j lt) below_h (record { b0 = omega arith; b1 = omega arith; b2 = omega arith; b3 = omega arith; b4 = omega arith }) in
    let d4 = row _ _ _ j (c.sum_of_products-5.ensures j lt) below_h (record { b0 = omega arith; b1 = omega arith; b2 = omega arith; b3 = omega arith; b4 = omega arith }) in
    record { b0 = d0.1; b1 = d1.1; b2 = d2.1; b3 = d3.1; b4 = d4.1 }

pub returns-clause-product : goal.returns-clause-product
returns-clause-product c j lt below_h below_r =
    let h = c.args.h in
    let r = c.args.r in
    let s1 = c.five_times-s1.ensures j lt (omega arith) in
    let s2 = c.five_times-s2.ensures j lt (omega arith) in
    let s3 = c.five_times-s3.ensures j lt (omega arith) in
    let s4 = c.five_times-s4.ensures j lt (omega arith) in
    let d0 = row _ _ _ j (c.sum_of_products.ensures j lt) below_h (record { b0 = omega arith; b1 = omega arith; b2 = omega arith; b3 = omega arith; b4 = omega arith }) in
    let d1 = row _ _ _ j (c.sum_of_products-2.ensures j lt) below_h (record { b0 = omega arith; b1 = omega arith; b2 = omega arith; b3 = omega arith; b4 = omega arith }) in
    let d2 = row _ _ _ j (c.sum_of_products-3.ensures j lt) below_h (record { b0 = omega arith; b1 = omega arith; b2 = omega arith; b3 = omega arith; b4 = omega arith }) in
    let d3 = row _ _ _ j (c.sum_of_products-4.ensures j lt) below_h (record { b0 = omega arith; b1 = omega arith; b2 = omega arith; b3 = omega arith; b4 = omega arith }) in
    let d4 = row _ _ _ j (c.sum_of_products-5.ensures j lt) below_h (record { b0 = omega arith; b1 = omega arith; b2 = omega arith; b3 = omega arith; b4 = omega arith }) in
    product_of (limb h 0 j) (limb h 1 j) (limb h 2 j) (limb h 3 j) (limb h 4 j) (limb r 0 j) (limb r 1 j) (limb r 2 j) (limb r 3 j) (limb r 4 j)
    (slice_index c.five_times-s1.result j) (slice_index c.five_times-s2.result j) (slice_index c.five_times-s3.result j) (slice_index c.five_times-s4.result j)
    (slice_index c.sum_of_products.result j) (slice_index c.sum_of_products-2.result j) (slice_index c.sum_of_products-3.result j) (slice_index c.sum_of_products-4.result j) (slice_index c.sum_of_products-5.result j)
    s1 s2 s3 s4 d0.0 d1.0 d2.0 d3.0 d4.0
