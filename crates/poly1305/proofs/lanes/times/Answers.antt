use Rattle.std.proofs.Common.{◌≡◌, ◌∙◌, ℕ, List, ◌*◌, ◌%◌, ◌^◌, ◌<◌, [], ◌∷◌, ap₂, arith, bit_and, slice_index}
use Rattle.std.proofs.lemmas.Nat.{and_mask, mul-lt}
use Rattle.std.proofs.lemmas.Simd.{length-zip2}
use Rattle.poly1305.proofs.LaneFacts.{lane, with_splat}
use Rattle.poly1305.proofs.lanes.times.Goals as goal
use lib.Lanes.{zip2}

pub returns : goal.returns
returns c j lt small_a small_b =
    let a = c.args.a in
    let b = c.args.b in
    let m : List ℕ = 0xffffffff ∷ 0xffffffff ∷ 0xffffffff ∷ 0xffffffff ∷ [] in
    let xs : List ℕ = zip2 bit_and a m in
    let ys : List ℕ = zip2 bit_and b m in
    let x : slice_index xs j ≡ slice_index a j = with_splat bit_and a 0xffffffff j c.fits-a.0 lt ∙ and_mask (slice_index a j) 32 ∙ omega arith in
    let y : slice_index ys j ≡ slice_index b j = with_splat bit_and b 0xffffffff j c.fits-b.0 lt ∙ and_mask (slice_index b j) 32 ∙ omega arith in
    let fits : slice_index a j * slice_index b j < 2 ^ 64 = mul-lt (slice_index a j) (slice_index b j) (2 ^ 32) (2 ^ 32) small_a small_b in
    lane (λ x y. x * y % 2 ^ 64) xs ys j (length-zip2 bit_and a m c.fits-a.0 ∙ c.fits-a.0) (length-zip2 bit_and b m c.fits-b.0 ∙ c.fits-b.0) lt
    ∙ ap₂ (λ x y. x * y % 2 ^ 64) x y ∙ omega arith
