use Rattle.std.proofs.Common.{arith, refl, sym, subst, ◌<◌, ◌≤◌, length}
use Rattle.std.specs.VecDeque.{deque_capacity}
use Rattle.padata_core.proofs.Putting.{put_at, on_ok}
use Rattle.padata_core.proofs.row.Row.put.Goals as goal

pub returns : goal.returns
returns g c =
    (let p = c.place_for-place.ensures in
    let e = put_at c.self.inside.entries.items c.place_for-place.result c.args.number c.args.out (omega (arith, p.within)) p.low p.high in
    let v : c.self.inside.room ≤ deque_capacity c.self.inside.entries = c.self.invariant in
    let r : length c.self.inside.entries.items < c.self.inside.room = subst (λ s. length s.entries < s.room) (sym c.self.view_is) c.requires.room in
    let i = on_ok c.insert.result c.insert.ensures.items c.insert.ensures.full (λ f. omega arith) in
    rw (← c.self.view_is, i, e) refl)
