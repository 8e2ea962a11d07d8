use Rattle.std.proofs.Common.{arith, refl, sym, subst, ap, ◌∙◌, ◌≡◌, ◌-◌, ◌<◌, ◌≤◌, Some, None}
use Rattle.std.specs.Prelude.{slice_get}
use Rattle.padata_core.specs.Rows.{Slot, put}
use Rattle.padata_core.specs.Pad.{Pad, kept_at, taken_of}
use Rattle.padata_core.proofs.Tables.{length-outcomes}
use Rattle.padata_core.proofs.Finishing.{put_row, runs_free, finish_room, finish_rising, finished_all, row_at}
use Rattle.padata_core.proofs.Padata.finish.Goals as goal

pub put-requires-clause-room : goal.put-requires-clause-room
put-requires-clause-room g c =
    (let s = c.self.inside in
    let i = c.self.invariant in
    let low = subst (λ (p : Pad _ _). p.collected ≤ c.args.number) (sym c.self.view_is) c.requires.low in
    let high = subst (λ (p : Pad _ _). c.args.number < taken_of p) (sym c.self.view_is) c.requires.high in
    let runs = subst (λ (p : Pad _ _). slice_get p.outcomes (c.args.number - p.collected) ≡ Some None) (sym c.self.view_is) c.requires.runs in
    let len = length-outcomes (kept_at s.rows.items s.lists) s.collected (s.taken - s.collected) in
    let l = i.1 in
    let most = i.5 in
    rw (row_at s.rows.items s.lists s.collected s.taken s.room c.args.number c.index_mut-row.result.now i.0 c.index_mut-row.ensures.value) (finish_room s.rows.items s.lists s.collected s.taken s.room c.args.number c.args.out i.0 low (omega arith) (runs_free s.rows.items s.lists s.collected (s.taken - s.collected) c.args.number low runs) (omega arith)))

pub put-requires-clause-rising : goal.put-requires-clause-rising
put-requires-clause-rising g c =
    (let s = c.self.inside in
    let i = c.self.invariant in
    rw (row_at s.rows.items s.lists s.collected s.taken s.room c.args.number c.index_mut-row.result.now i.0 c.index_mut-row.ensures.value) (finish_rising s.rows.items s.lists s.collected s.taken s.room c.args.number i.0))

pub overflow_sub-self : goal.overflow_sub-self
overflow_sub-self g c =
    (let s = c.self.inside in
    let i = c.self.invariant in
    let low = subst (λ (p : Pad _ _). p.collected ≤ c.args.number) (sym c.self.view_is) c.requires.low in
    let high = subst (λ (p : Pad _ _). c.args.number < taken_of p) (sym c.self.view_is) c.requires.high in
    let runs = subst (λ (p : Pad _ _). slice_get p.outcomes (c.args.number - p.collected) ≡ Some None) (sym c.self.view_is) c.requires.runs in
    (finished_all s.rows.items s.lists s.collected s.taken s.room s.running c.args.number c.args.out (put_row s.rows.items s.lists c.args.number c.args.out) i.0 i.1 i.2 low high runs refl).3)

pub invariant_of-self : goal.invariant_of-self
invariant_of-self g c =
    (let s = c.self.inside in
    let i = c.self.invariant in
    let low = subst (λ (p : Pad _ _). p.collected ≤ c.args.number) (sym c.self.view_is) c.requires.low in
    let high = subst (λ (p : Pad _ _). c.args.number < taken_of p) (sym c.self.view_is) c.requires.high in
    let runs = subst (λ (p : Pad _ _). slice_get p.outcomes (c.args.number - p.collected) ≡ Some None) (sym c.self.view_is) c.requires.runs in
    let row = row_at s.rows.items s.lists s.collected s.taken s.room c.args.number c.index_mut-row.result.now i.0 c.index_mut-row.ensures.value in
    let all = finished_all s.rows.items s.lists s.collected s.taken s.room s.running c.args.number c.args.out c.put.new.self i.0 i.1 i.2 low high runs (c.put.ensures ∙ ap (λ (r : Slot _). record r { entries = put c.args.number c.args.out r.entries }) row) in
    (all.0, i.1, all.2, i.3, i.4, i.5))

pub returns : goal.returns
returns g c =
    (let s = c.self.inside in
    let i = c.self.invariant in
    let low = subst (λ (p : Pad _ _). p.collected ≤ c.args.number) (sym c.self.view_is) c.requires.low in
    let high = subst (λ (p : Pad _ _). c.args.number < taken_of p) (sym c.self.view_is) c.requires.high in
    let runs = subst (λ (p : Pad _ _). slice_get p.outcomes (c.args.number - p.collected) ≡ Some None) (sym c.self.view_is) c.requires.runs in
    let row = row_at s.rows.items s.lists s.collected s.taken s.room c.args.number c.index_mut-row.result.now i.0 c.index_mut-row.ensures.value in
    let all = finished_all s.rows.items s.lists s.collected s.taken s.room s.running c.args.number c.args.out c.put.new.self i.0 i.1 i.2 low high runs (c.put.ensures ∙ ap (λ (r : Slot _). record r { entries = put c.args.number c.args.out r.entries }) row) in
    rw (← c.self.view_is) (ap (λ os. record { lists = s.lists; collected = s.collected; outcomes = os; waiting = s.waiting.items; spare = s.spare }) all.1))
