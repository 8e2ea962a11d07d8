use Rattle.std.proofs.Common.{arith, ap, ◌-◌, ◌+◌}
use Rattle.padata_core.specs.Pad.{kept_at, outcomes_from}
use Rattle.padata_core.proofs.Sorted.{rows_more}
use Rattle.padata_core.proofs.Tables.{length-outcomes, running-le, running-more}
use Rattle.padata_core.proofs.Finishing.{take_outcomes}
use Rattle.padata_core.proofs.Padata.take.Goals as goal

pub overflow_add-self-2 : goal.overflow_add-self-2
overflow_add-self-2 g c =
    (let s = c.self.inside in
    let i = c.self.invariant in
    let a = i.2 in
    let b = i.3 in
    let d = i.1 in
    let len = length-outcomes (kept_at s.rows.items s.lists) s.collected (s.taken - s.collected) in
    let le = running-le (outcomes_from (kept_at s.rows.items s.lists) s.collected (s.taken - s.collected)) in
    omega arith)

pub invariant_of-self-2 : goal.invariant_of-self-2
invariant_of-self-2 g c =
    (let s = c.self.inside in
    let i = c.self.invariant in
    let o = take_outcomes s.rows.items s.lists s.collected s.taken s.room i.0 i.1 in
    let more = running-more (outcomes_from (kept_at s.rows.items s.lists) s.collected (s.taken - s.collected)) in
    let a = i.2 in
    let d = i.1 in
    (rows_more s.rows.items s.lists s.collected s.taken (s.taken + 1) s.room i.0 (omega arith), omega arith, rw o (omega arith), omega (arith, c.in_ok-job.ensures.cases, i.3), omega (arith, c.in_ok-job.ensures.cases, c.pop_front.ensures.capacity, i.4), omega (arith, c.in_ok-job.ensures.cases, i.5)))

pub returns : goal.returns
returns g c =
    (let s = c.self.inside in
    let i = c.self.invariant in
    let o = take_outcomes s.rows.items s.lists s.collected s.taken s.room i.0 i.1 in
    let len = length-outcomes (kept_at s.rows.items s.lists) s.collected (s.taken - s.collected) in
    let d = i.1 in
    rw (← c.self.view_is) (omega arith, c.in_ok-job.ensures.items, ap (λ os. record { lists = s.lists; collected = s.collected; outcomes = os; waiting = c.pop_front.new.self.items; spare = s.spare }) o))
