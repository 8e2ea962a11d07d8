use Rattle.std.proofs.Common.{◌≡◌, ◌++◌, ap, arith, length, map, take, drop, take_at, length-take}
use Rattle.std.specs.List.{concat}
use Rattle.sg_walk.specs.Segments.{Segmented}
use Rattle.sg_walk.proofs.Cutting.{cut_lie_in}
use Rattle.sg_walk.proofs.segs.Segs.cut.Goals as goal

pub invariant_of-self : goal.invariant_of-self
invariant_of-self c =
    let parts = c.self.inside.parts.items in
    let new = c.cut_to.new.parts in
    let count : length new ≡ c.self.inside.parts.len = omega (arith, c.cut_to.auto.parts, c.deref_mut.ensures.len) in
    let whole : take c.self.inside.parts.len (new ++ drop (length new) parts) ≡ new = take_at _ _ _ count in
    let text = ap (λ (segs : Segmented). length segs.text) c.self.view_is in
    rw (whole, c.cut_to.ensures.text, c.cut_to.ensures.sizes, c.cut_to-2.ensures, c.deref_mut.ensures.value) (
      omega (arith, text, c.requires, length-take c.args.len (concat parts)),
      cut_lie_in c.args.len (map length parts) c.self.inside.within c.self.invariant.1,
    )
