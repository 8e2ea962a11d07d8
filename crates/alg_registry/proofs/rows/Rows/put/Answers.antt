use Rattle.std.proofs.Common.{◌≡◌, ◌<◌, ◌++◌, List, length, take, drop, set, get_or, refl, sym, ap, subst, ◌∙◌, arith}
use Rattle.std.proofs.lemmas.List.{length-set}
use Rattle.std.specs.List.{filter}
use Rattle.alg_registry.specs.declared.row.Row.{Row}
use Rattle.alg_registry.specs.Rows.{is_held, standing}
use Rattle.alg_registry.specs.Calls.{put_row_of}
use Rattle.alg_registry.specs.Held.{RowTable, held_from, listed_from, is_row_listed, passes}
use Rattle.alg_registry.proofs.Changing.{a_row, whole, put-changes, kept-fewer, kept-same}
use Rattle.alg_registry.proofs.rows.Rows.put.Goals as goal

pub invariant_of-self : goal.invariant_of-self
invariant_of-self c =
    let rows : List Row = c.self.inside.all.items in
    let new : List Row = c.put_row.new.rows in
    let list : rows ≡ c.args.self.now.list = ap (λ (t : RowTable). t.list) c.self.view_is in
    let all : take c.self.inside.all.len (new ++ drop (length new) rows) ≡ new = whole c.self.inside.all.len new rows (omega (arith, c.put_row.auto.rows, c.deref_mut.ensures.len)) in
    let is : new ≡ standing (set rows c.args.place (put_row_of (get_or rows c.args.place a_row))) =
    c.put_row.ensures.rows a_row ∙ ap (λ (rs : List Row). standing (set rs c.args.place (put_row_of (get_or rs c.args.place a_row)))) c.deref_mut.ensures.value in
    let lt : c.args.place < length rows = omega (arith, c.requires.within, ap length list) in
    let some : 0 < (let r : Row = get_or rows c.args.place a_row in r.taken) = subst (λ (rs : List Row). 0 < (let r : Row = get_or rs c.args.place a_row in r.taken)) (sym list) (c.requires.taken a_row) in
    kept-fewer rows (set rows c.args.place (put_row_of (get_or rows c.args.place a_row))) _ c.self.inside.held.items _ c.self.inside.listed.items _ _ _ _ _ _ _ _ _ c.self.invariant
    (put-changes rows c.args.place a_row lt c.self.invariant.stands some) (all ∙ is) (length-set rows c.args.place (put_row_of (get_or rows c.args.place a_row)))
    (c.let_go.ensures.items ∙ ap (λ (rs : List Row). filter (passes is_held rs) c.self.inside.held.items) c.deref-then-put_row.ensures.value)
    (c.strike_unlisted.ensures.items ∙ ap (λ (rs : List Row). filter (passes is_row_listed rs) c.self.inside.listed.items) c.deref-then-put_row-2.ensures.value)
    refl (omega arith) c.let_go.ensures.capacity c.strike_unlisted.ensures.capacity

pub invariant_of-self-else-put_row : goal.invariant_of-self-else-put_row
invariant_of-self-else-put_row c =
    let rows : List Row = c.self.inside.all.items in
    let new : List Row = c.put_row.new.rows in
    let all : take c.self.inside.all.len (new ++ drop (length new) rows) ≡ new = whole c.self.inside.all.len new rows (omega (arith, c.put_row.auto.rows, c.deref_mut.ensures.len)) in
    let is : new ≡ standing (set rows c.args.place (put_row_of (get_or rows c.args.place a_row))) =
    c.put_row.ensures.rows a_row ∙ ap (λ (rs : List Row). standing (set rs c.args.place (put_row_of (get_or rs c.args.place a_row)))) c.deref_mut.ensures.value in
    let same = c.put_row.ensures.same c.if-put_row.false in
    kept-same rows (set rows c.args.place (put_row_of (get_or rows c.args.place a_row))) _ c.self.inside.held.items c.self.inside.listed.items _ _ _ _ c.self.invariant
    (all ∙ is) (length-set rows c.args.place (put_row_of (get_or rows c.args.place a_row)))
    (ap (λ (rs : List Row). held_from 0 rs) all ∙ (same.0 ∙ ap (λ (rs : List Row). held_from 0 rs) c.deref_mut.ensures.value), ap (λ (rs : List Row). listed_from 0 rs) all ∙ (same.1 ∙ ap (λ (rs : List Row). listed_from 0 rs) c.deref_mut.ensures.value))
