use Rattle.std.proofs.Common.{arith, ap, sym, subst, length, ◌∙◌, ◌+◌, ◌-◌, ◌≡◌}
use Rattle.padata_core.specs.Pad.{Pad, kept_at, running_of}
use Rattle.padata_core.proofs.Tables.{length-outcomes, outcomes-same}
use Rattle.padata_core.proofs.Making.{share_enough}
use Rattle.padata_core.proofs.Padata.remask.Goals as goal

pub move_rows-requires-clause-enough : goal.move_rows-requires-clause-enough
move_rows-requires-clause-enough g c =
    (let s = c.self.inside in
    let i = c.self.invariant in
    let total = c.in-Some.ensures in
    let t = total.1 in
    let share = c.in-Some-checked_add.ensures in
    let len = length-outcomes (kept_at s.rows.items s.lists) s.collected (s.taken - s.collected) in
    let asked = subst (λ (p : Pad _ _). c.uncollected.result ≡ length p.outcomes + length p.waiting) (sym c.self.view_is) c.uncollected.ensures in
    let enough = share_enough c.in-Some.total c.args.lists c.requires in
    rw share.1 (omega arith))

pub invariant_of-self : goal.invariant_of-self
invariant_of-self g c =
    (let s = c.self.inside in
    let i = c.self.invariant in
    let m = c.move_rows.ensures in
    let total = c.in-Some.ensures in
    let t = total.1 in
    let share = c.in-Some-checked_add.ensures in
    let l = i.1 in
    let same = outcomes-same (kept_at c.move_rows.new.new.items c.args.lists) (kept_at s.rows.items s.lists) s.collected (s.taken - s.collected) (λ n a b. m.kept n a (omega arith)) in
    let len = length-outcomes (kept_at s.rows.items s.lists) s.collected (s.taken - s.collected) in
    let asked = subst (λ (p : Pad _ _). c.uncollected.result ≡ length p.outcomes + length p.waiting) (sym c.self.view_is) c.uncollected.ensures in
    let enough = share_enough c.in-Some.total c.args.lists c.requires in
    (m.rows, i.1, i.2 ∙ ap running_of (sym same), i.3, i.4, rw share.1 (omega arith)))

pub returns-clause-ok : goal.returns-clause-ok
returns-clause-ok g c =
    (let s = c.self.inside in
    let m = c.move_rows.ensures in
    let i = c.self.invariant in
    let l = i.1 in
    let same = outcomes-same (kept_at c.move_rows.new.new.items c.args.lists) (kept_at s.rows.items s.lists) s.collected (s.taken - s.collected) (λ n a b. m.kept n a (omega arith)) in
    rw (← c.self.view_is) (ap (λ os. record { lists = c.args.lists; collected = s.collected; outcomes = os; waiting = s.waiting.items; spare = s.spare }) same))
