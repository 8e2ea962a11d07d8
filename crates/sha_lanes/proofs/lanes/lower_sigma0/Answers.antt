use Rattle.std.proofs.Common.{◌/◌, ◌^◌, bit_xor}
use Rattle.std.specs.Int.{rotate_right, w32}
use Rattle.std.proofs.lemmas.Simd.{zip2_splat, zip2_of_maps}
use Rattle.sha_lanes.proofs.lanes.lower_sigma0.Goals as goal

pub returns : goal.returns
returns c =
    let x = c.args.x in
    zip2_of_maps bit_xor (λ w. bit_xor (rotate_right w32 w 7) (rotate_right w32 w 18)) (λ w. w / 2 ^ 3) x
    (zip2_of_maps bit_xor (λ w. rotate_right w32 w 7) (λ w. rotate_right w32 w 18) x c.rotated.ensures c.rotated-2.ensures)
    (zip2_splat (λ w n. w / 2 ^ n) x 8 3 c.fits-x.0)
