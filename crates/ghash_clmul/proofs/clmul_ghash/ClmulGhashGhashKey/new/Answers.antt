use Rattle.ghash_field.proofs.LaneRows.{first_field_power}
use Rattle.ghash_clmul.proofs.Powers.{next_of_powers}
use Rattle.ghash_clmul.proofs.clmul_ghash.ClmulGhashGhashKey.new.Goals as goal

pub invariant_of-result : goal.invariant_of-result
invariant_of-result c =
    let h = c.new-first.result in
    let fits = c.new-first.ensures.fits in
    let p2 = next_of_powers h 1 h c.times-second.result fits (first_field_power h fits) c.times-second.ensures in
    let p3 = next_of_powers h 2 c.times-second.result c.times-third.result fits p2 c.times-third.ensures in
    let p4 = next_of_powers h 3 c.times-third.result c.times-fourth.result fits p3 c.times-fourth.ensures in
    let p5 = next_of_powers h 4 c.times-fourth.result c.times-fifth.result fits p4 c.times-fifth.ensures in
    let p6 = next_of_powers h 5 c.times-fifth.result c.times-sixth.result fits p5 c.times-sixth.ensures in
    let p7 = next_of_powers h 6 c.times-sixth.result c.times-seventh.result fits p6 c.times-seventh.ensures in
    let p8 = next_of_powers h 7 c.times-seventh.result c.times-eighth.result fits p7 c.times-eighth.ensures in
    record { fits = fits; powers = (p2, p3, p4, p5, p6, p7, p8) }
