use Rattle.std.proofs.Common.{arith, ◌-◌}
use Rattle.padata_core.specs.Pad.{kept_at, outcomes_from}
use Rattle.padata_core.proofs.Tables.{length-outcomes, running-le}
use Rattle.padata_core.proofs.Padata.unfinished.Goals as goal

pub overflow_add-result : goal.overflow_add-result
overflow_add-result g c =
    (let s = c.self.inside in
    let i = c.self.invariant in
    let a = i.2 in
    let b = i.3 in
    let d = i.1 in
    let len = length-outcomes (kept_at s.rows.items s.lists) s.collected (s.taken - s.collected) in
    let le = running-le (outcomes_from (kept_at s.rows.items s.lists) s.collected (s.taken - s.collected)) in
    let w = c.len.ensures in
    omega arith)
