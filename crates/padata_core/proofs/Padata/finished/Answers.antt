use Rattle.std.proofs.Common.{arith, ◌-◌}
use Rattle.padata_core.specs.Pad.{kept_at, outcomes_from}
use Rattle.padata_core.proofs.Tables.{length-outcomes, running-le, ready-le}
use Rattle.padata_core.proofs.Padata.finished.Goals as goal

pub overflow_sub-result-2 : goal.overflow_sub-result-2
overflow_sub-result-2 g c =
    (let s = c.self.inside in
    let i = c.self.invariant in
    let r = i.2 in
    let len = length-outcomes (kept_at s.rows.items s.lists) s.collected (s.taken - s.collected) in
    let le = running-le (outcomes_from (kept_at s.rows.items s.lists) s.collected (s.taken - s.collected)) in
    omega arith)

pub returns-clause-exact : goal.returns-clause-exact
returns-clause-exact g c =
    (let s = c.self.inside in
    let i = c.self.invariant in
    let r = i.2 in
    let len = length-outcomes (kept_at s.rows.items s.lists) s.collected (s.taken - s.collected) in
    let le = running-le (outcomes_from (kept_at s.rows.items s.lists) s.collected (s.taken - s.collected)) in
    rw (← c.self.view_is) (omega arith))

pub returns-clause-enough : goal.returns-clause-enough
returns-clause-enough g c =
    (let s = c.self.inside in
    let i = c.self.invariant in
    let r = i.2 in
    let len = length-outcomes (kept_at s.rows.items s.lists) s.collected (s.taken - s.collected) in
    let le = ready-le (outcomes_from (kept_at s.rows.items s.lists) s.collected (s.taken - s.collected)) in
    rw (← c.self.view_is) (omega arith))
