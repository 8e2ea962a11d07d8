use Rattle.std.specs.Prelude.{ℕ, ◌+◌, ◌*◌, ◌/◌, ◌≡◌, refl}
use Rattle.std.proofs.Common.{ap, arith, get_or}
use Rattle.aes_lanes.proofs.Lookups.{indices_ok, looked_up}
use Rattle.aes_lanes.proofs.one_block.looked_up.Goals as goal

pub swizzle : goal.swizzle
swizzle c = indices_ok 1 16 c.args.index refl c.fits-index.0 c.requires.places

pub returns : goal.returns
returns c =
    looked_up 16 c.args.table c.args.table c.args.index c.fits-index.0 c.requires.places
    (λ i j l m. let at : 16 * (i / 16) + j ≡ j = omega arith in ap (λ (n : ℕ). get_or c.args.table n 0) at)
