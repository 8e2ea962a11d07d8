use Rattle.std.proofs.Common.{[]}
use Rattle.ghash_field.proofs.LaneRows.{indices_ok, entries}
use Rattle.ghash_field.proofs.byte_rows.Rows.looked_up.Goals as goal

pub swizzle : goal.swizzle
swizzle c = indices_ok c.args.x.lanes c.args.x.bytes c.args.x.wide c.args.x.halves c.args.x.small

pub returns : goal.returns
returns c =
    let s = c.args.self.now in
    entries s.rows s.h c.args.k c.args.x.lanes c.args.x.bytes (record { lanes = [] }) s.fits s.products c.requires c.args.x.wide c.args.x.halves c.args.x.small
