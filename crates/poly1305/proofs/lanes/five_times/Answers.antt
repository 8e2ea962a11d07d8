use Rattle.std.proofs.Common.{◌∙◌, ℕ, List, ◌+◌, ◌*◌, ◌%◌, ◌^◌, [], ◌∷◌, ap, arith, slice_index}
use Rattle.std.proofs.lemmas.Simd.{length-zip2}
use Rattle.poly1305.proofs.LaneFacts.{lane, with_splat}
use Rattle.poly1305.proofs.lanes.five_times.Goals as goal
use lib.Lanes.{zip2}

pub returns : goal.returns
returns c j lt small =
    let a = c.args.a in
    let twos : List ℕ = 2 ∷ 2 ∷ 2 ∷ 2 ∷ [] in
    lane (λ x y. (x + y) % 2 ^ 64) a (zip2 (λ x n. x * 2 ^ n % 2 ^ 64) a twos) j c.fits-a.0 (length-zip2 (λ x n. x * 2 ^ n % 2 ^ 64) a twos c.fits-a.0 ∙ c.fits-a.0) lt
    ∙ ap (λ y. (slice_index a j + y) % 2 ^ 64) (with_splat (λ x n. x * 2 ^ n % 2 ^ 64) a 2 j c.fits-a.0 lt) ∙ omega arith
