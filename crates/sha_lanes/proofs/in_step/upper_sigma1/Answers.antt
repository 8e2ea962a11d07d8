use Rattle.std.proofs.Common.{bit_xor}
use Rattle.std.specs.Int.{rotate_right, w32}
use Rattle.std.proofs.lemmas.Simd.{zip2_of_maps}
use Rattle.sha2.specs.Sha256.{big_sigma1}
use Rattle.sha_lanes.proofs.InStep.{of_map}
use Rattle.sha_lanes.proofs.in_step.upper_sigma1.Goals as goal

pub returns : goal.returns
returns c = λ n lt.
    let x = c.args.x in
    of_map big_sigma1 x n
    (zip2_of_maps bit_xor (λ w. bit_xor (rotate_right w32 w 6) (rotate_right w32 w 11)) (λ w. rotate_right w32 w 25) x
    (zip2_of_maps bit_xor (λ w. rotate_right w32 w 6) (λ w. rotate_right w32 w 11) x c.rotated.ensures c.rotated-2.ensures)
    c.rotated-3.ensures)
    c.fits-x.0 lt
