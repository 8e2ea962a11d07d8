use Rattle.std.proofs.Common.{◌^◌, arith}
use Rattle.std.proofs.lemmas.Nat.{mul-lt}
use Rattle.poly1305.specs.Limbs.{limb}
use Rattle.poly1305.proofs.limbs.sum_of_products.Goals as goal

pub returns : goal.returns
returns c j lt below_a below_b =
    let a = c.args.a in
    let b = c.args.b in
    let m0 = c.times.ensures j lt (omega arith) (omega arith) in
    let m1 = c.times-2.ensures j lt (omega arith) (omega arith) in
    let m2 = c.times-3.ensures j lt (omega arith) (omega arith) in
    let m3 = c.times-4.ensures j lt (omega arith) (omega arith) in
    let m4 = c.times-5.ensures j lt (omega arith) (omega arith) in
    let f0 = mul-lt (limb a 0 j) (limb b 0 j) (2 ^ 28) (2 ^ 30) below_a.b0 below_b.b0 in
    let f1 = mul-lt (limb a 1 j) (limb b 1 j) (2 ^ 28) (2 ^ 30) below_a.b1 below_b.b1 in
    let f2 = mul-lt (limb a 2 j) (limb b 2 j) (2 ^ 28) (2 ^ 30) below_a.b2 below_b.b2 in
    let f3 = mul-lt (limb a 3 j) (limb b 3 j) (2 ^ 28) (2 ^ 30) below_a.b3 below_b.b3 in
    let f4 = mul-lt (limb a 4 j) (limb b 4 j) (2 ^ 28) (2 ^ 30) below_a.b4 below_b.b4 in
    let s0 = c.plus.ensures j lt (omega arith) in
    let s1 = c.plus-2.ensures j lt (omega arith) in
    let s2 = c.plus-3.ensures j lt (omega arith) in
    let s3 = c.plus-4.ensures j lt (omega arith) in
    omega arith
