use Rattle.std.proofs.Common.{arith, refl, ap, sym, length, ◌∙◌, ◌+◌, ◌-◌}
use Rattle.padata_core.specs.Pad.{Pad, kept_at, running_of}
use Rattle.padata_core.proofs.Tables.{length-outcomes}
use Rattle.padata_core.proofs.Making.{more_rows, more_outcomes, share_enough}
use Rattle.padata_core.proofs.Padata.reserve.Goals as goal

pub invariant_of-self-2 : goal.invariant_of-self-2
invariant_of-self-2 g c =
    (let s = c.self.inside in
    let i = c.self.invariant in
    let m = c.reserve_rows.ensures in
    let more = more_outcomes s.rows.items c.reserve_rows.new.rows.items s.lists s.collected (s.taken - s.collected) m.more in
    let total = c.in-Some.ensures in
    let share = c.in-Some-checked_add.ensures in
    let a = i.0 in
    let len = length-outcomes (kept_at s.rows.items s.lists) s.collected (s.taken - s.collected) in
    let enough = share_enough c.in-Some.total s.lists a.some in
    let same = c.reserve.ensures in
    let all = i.4 in
    let asked = c.uncollected-uncollected.ensures in
    let viewed = ap (λ (pad : Pad _ _). length pad.outcomes + length pad.waiting) c.self.view_is in
    let few = i.3 in
    let count = m.more.count ∙ a.count in
    let fits = c.in_ok-reserve.ensures.ok in
    let q = total.1 in (
      more_rows s.rows.items c.reserve_rows.new.rows.items s.lists s.collected s.taken s.room c.in-Some-checked_add.share a m.more (λ k d l. c.in_ok-reserve_rows.ensures.room k d (omega arith)),
      i.1,
      i.2 ∙ ap running_of (sym more),
      omega (arith, same.len),
      fits,
      rw share.1 (omega (arith, same.len, asked, viewed, len, q)),
    ))

pub returns-clause-same : goal.returns-clause-same
returns-clause-same g c =
    (let s = c.self.inside in
    let m = c.reserve_rows.ensures in
    let more = more_outcomes s.rows.items c.reserve_rows.new.rows.items s.lists s.collected (s.taken - s.collected) m.more in
    let same = c.reserve.ensures in
    rw (← c.self.view_is, more, same.items) refl)
