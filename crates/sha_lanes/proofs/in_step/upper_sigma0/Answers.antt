use Rattle.std.proofs.Common.{bit_xor}
use Rattle.std.specs.Int.{rotate_right, w32}
use Rattle.std.proofs.lemmas.Simd.{zip2_of_maps}
use Rattle.sha2.specs.Sha256.{big_sigma0}
use Rattle.sha_lanes.proofs.InStep.{of_map}
use Rattle.sha_lanes.proofs.in_step.upper_sigma0.Goals as goal

pub returns : goal.returns
returns c = λ n lt.
    let x = c.args.x in
    of_map big_sigma0 x n
    (zip2_of_maps bit_xor (λ w. bit_xor (rotate_right w32 w 2) (rotate_right w32 w 13)) (λ w. rotate_right w32 w 22) x
    (zip2_of_maps bit_xor (λ w. rotate_right w32 w 2) (λ w. rotate_right w32 w 13) x c.rotated.ensures c.rotated-2.ensures)
    c.rotated-3.ensures)
    c.fits-x.0 lt
