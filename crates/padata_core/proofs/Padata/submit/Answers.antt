use Rattle.std.proofs.Common.{arith, sym, subst, ◌-◌, ◌≤◌, ◌<◌, ◌^◌, ◌+◌}
use Rattle.padata_core.specs.Pad.{Pad, kept_at, submitted_of}
use Rattle.padata_core.proofs.Tables.{length-outcomes}
use Rattle.std.specs.VecDeque.{deque_len, deque_capacity}
use Rattle.padata_core.proofs.Putting.{pushed_len}
use Rattle.padata_core.proofs.Padata.submit.Goals as goal

pub invariant_of-self : goal.invariant_of-self
invariant_of-self g c =
    (let s = c.self.inside in
    let i = c.self.invariant in
    let l = i.1 in
    let spare = subst (λ (p : Pad _ _). 1 ≤ p.spare) (sym c.self.view_is) c.requires.spare in
    let few = subst (λ (p : Pad _ _). submitted_of p < 2 ^ 63) (sym c.self.view_is) c.requires.number in
    let len = length-outcomes (kept_at s.rows.items s.lists) s.collected (s.taken - s.collected) in
    let room : deque_len s.waiting < deque_capacity s.waiting = omega (arith, i.4) in
    let ok = pushed_len _ (deque_len s.waiting + 1) (deque_len s.waiting) c.push_back.result (c.push_back.ensures.succeeds room) c.push_back.ensures.len in
    let cap = c.push_back.ensures.in_place room in
    let most = i.5 in
    let all = i.4 in
    (i.0, i.1, i.2, omega arith, omega arith, omega arith))

pub returns-clause-number : goal.returns-clause-number
returns-clause-number g c =
    (let s = c.self.inside in
    let l = c.self.invariant.1 in
    let len = length-outcomes (kept_at s.rows.items s.lists) s.collected (s.taken - s.collected) in
    rw (← c.self.view_is) (omega (arith, c.len.ensures)))
