use Rattle.std.proofs.Common.{arith, refl, sym, ap, ◌∙◌, ◌-◌}
use Rattle.padata_core.specs.Rows.{Slot, first_is}
use Rattle.padata_core.proofs.Finishing.{none_ready, released_all, row_at, same_outcomes}
use Rattle.padata_core.proofs.Padata.collect_next.Goals as goal

pub returns-in_err-out : goal.returns-in_err-out
returns-in_err-out g c =
    (let s = c.self.inside in
    let i = c.self.invariant in
    let none = c.in_err-out.ensures in
    let row = row_at s.rows.items s.lists s.collected s.taken s.room s.collected c.index_mut-row.result.now i.0 c.index_mut-row.ensures.value in
    let ready = none_ready s.rows.items s.lists s.collected s.taken s.room i.0 (ap (λ (r : Slot _). first_is s.collected r.entries) (sym row) ∙ none.0) in
    let same = same_outcomes s.rows.items s.lists s.collected s.taken s.room s.collected (s.taken - s.collected) c.take_first.new.self i.0 (none.1 ∙ row) in
    rw (c.from_residual.ensures, ← c.self.view_is) (ready, ap (λ os. record { lists = s.lists; collected = s.collected; outcomes = os; waiting = s.waiting.items; spare = s.spare }) same))

pub invariant_of-self-2 : goal.invariant_of-self-2
invariant_of-self-2 g c =
    (let s = c.self.inside in
    let i = c.self.invariant in
    let ok = c.in_ok-out.ensures in
    let row = row_at s.rows.items s.lists s.collected s.taken s.room s.collected c.index_mut-row.result.now i.0 c.index_mut-row.ensures.value in
    let all = released_all s.rows.items s.lists s.collected s.taken s.room s.running c.in_ok-out.out c.take_first.new.self i.0 i.2 (ap (λ (r : Slot _). r.entries) (sym row) ∙ ok.0) (ok.1 ∙ ap (λ (r : Slot _). r.room) row) in
    let low = all.1 in
    let most = i.5 in
    (all.0, omega arith, all.3, i.3, i.4, omega arith))

pub returns : goal.returns
returns g c =
    (let s = c.self.inside in
    let i = c.self.invariant in
    let ok = c.in_ok-out.ensures in
    let row = row_at s.rows.items s.lists s.collected s.taken s.room s.collected c.index_mut-row.result.now i.0 c.index_mut-row.ensures.value in
    let all = released_all s.rows.items s.lists s.collected s.taken s.room s.running c.in_ok-out.out c.take_first.new.self i.0 i.2 (ap (λ (r : Slot _). r.entries) (sym row) ∙ ok.0) (ok.1 ∙ ap (λ (r : Slot _). r.room) row) in
    rw (← c.self.view_is) (refl, all.2, refl))
