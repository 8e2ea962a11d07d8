use Rattle.std.proofs.Common.{◌≡◌, ◌++◌, true, List, length, take, drop, set, get_or, refl, ap, ◌∙◌, arith}
use Rattle.std.proofs.lemmas.List.{length-set}
use Rattle.std.specs.List.{filter}
use Rattle.alg_registry.specs.declared.row.Row.{Row}
use Rattle.alg_registry.specs.Rows.{is_held, listed_at, standing}
use Rattle.alg_registry.specs.Calls.{unlisted_row}
use Rattle.alg_registry.specs.Held.{RowTable, is_row_listed, passes}
use Rattle.alg_registry.proofs.Changing.{a_row, whole, unlist-changes, kept-fewer}
use Rattle.alg_registry.proofs.rows.Rows.unlist.Goals as goal

pub invariant_of-self : goal.invariant_of-self
invariant_of-self c =
    let rows : List Row = c.self.inside.all.items in
    let new : List Row = c.unlist_row.new.rows in
    let list : rows ≡ c.args.self.now.list = ap (λ (t : RowTable). t.list) c.self.view_is in
    let all : take c.self.inside.all.len (new ++ drop (length new) rows) ≡ new = whole c.self.inside.all.len new rows (omega (arith, c.unlist_row.auto.rows, c.deref_mut.ensures.len)) in
    let is : new ≡ standing (set rows c.args.place (unlisted_row (get_or rows c.args.place a_row))) =
    c.unlist_row.ensures a_row ∙ ap (λ (rs : List Row). standing (set rs c.args.place (unlisted_row (get_or rs c.args.place a_row)))) c.deref_mut.ensures.value in
    let listed : listed_at rows c.args.place ≡ true = ap (λ (rs : List Row). listed_at rs c.args.place) list ∙ c.requires.listed in
    kept-fewer rows (set rows c.args.place (unlisted_row (get_or rows c.args.place a_row))) _ c.self.inside.held.items _ c.self.inside.listed.items _ _ _ _ _ _ _ _ _ c.self.invariant
    (unlist-changes rows c.args.place a_row listed) (all ∙ is) (length-set rows c.args.place (unlisted_row (get_or rows c.args.place a_row)))
    (c.let_go.ensures.items ∙ ap (λ (rs : List Row). filter (passes is_held rs) c.self.inside.held.items) c.deref-2.ensures.value)
    (c.strike_unlisted.ensures.items ∙ ap (λ (rs : List Row). filter (passes is_row_listed rs) c.self.inside.listed.items) c.deref-3.ensures.value) refl (omega arith) c.let_go.ensures.capacity c.strike_unlisted.ensures.capacity
