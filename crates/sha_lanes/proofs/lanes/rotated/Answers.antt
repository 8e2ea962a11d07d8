use Rattle.std.proofs.Common.{◌≡◌, ◌-◌, ◌*◌, ◌/◌, ◌%◌, ◌^◌, bit_or, arith}
use Rattle.std.proofs.lemmas.Simd.{zip2_splat, zip2_of_maps}
use Rattle.sha_lanes.proofs.lanes.rotated.Goals as goal

pub returns : goal.returns
returns c =
    let x = c.args.x in
    let by = c.args.by in
    let down : by % 32 ≡ by = omega arith in
    let up : (32 - by) % 32 ≡ 32 - by = omega arith in
    rw (down, up)
    (zip2_of_maps bit_or (λ w. w / 2 ^ by) (λ w. w * 2 ^ (32 - by) % 2 ^ 32) x
    (zip2_splat (λ w n. w / 2 ^ n) x 8 by c.fits-x.0) (zip2_splat (λ w n. w * 2 ^ n % 2 ^ 32) x 8 (32 - by) c.fits-x.0))
