use Rattle.std.specs.Prelude.{◌++◌, refl}
use Rattle.std.proofs.Common.{arith}
use lib.Lanes.{pick_l}
use Rattle.aes_lanes.specs.declared.lookup.TheConstants.{TWICE}
use Rattle.aes_lanes.proofs.Lookups.{indices_ok, looked_up, spread_at}
use Rattle.aes_lanes.proofs.lookup.looked_up.Goals as goal

pub swizzle : goal.swizzle
swizzle c = indices_ok 2 32 c.args.index refl c.fits-index.0 c.requires.places

pub returns : goal.returns
returns c =
    looked_up 32 (pick_l 0 (c.args.table ++ c.args.table) TWICE) c.args.table c.args.index c.fits-index.0 c.requires.places
    (spread_at 32 c.args.table TWICE c.requires.long (λ i j l m. omega arith) refl)
