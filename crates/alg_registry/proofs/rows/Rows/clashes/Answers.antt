use Rattle.std.proofs.Common.{◌≡◌, List, ap, ◌∙◌}
use Rattle.std.specs.List.{list_any}
use Rattle.alg_registry.specs.declared.row.Row.{Row}
use Rattle.alg_registry.specs.Answers.{clashes_with}
use Rattle.alg_registry.specs.Held.{RowTable, listed_from, passes}
use Rattle.alg_registry.proofs.Scanning.{clashes-listed}
use Rattle.alg_registry.proofs.rows.Rows.clashes.Goals as goal

pub returns : goal.returns
returns c =
    let all : c.deref.result.now ≡ c.self.inside.all.items = c.deref.ensures.value in
    let listed : c.deref-2.result.now ≡ listed_from 0 c.self.inside.all.items = c.deref-2.ensures.value ∙ c.self.invariant.listed_are in
    let list : c.self.inside.all.items ≡ c.args.self.now.list = ap (λ (t : RowTable). t.list) c.self.view_is in
    c.do_clash.ensures
    ∙ ((λ i. list_any (passes (clashes_with c.args.spec.now) (all i)) (listed i))
    ∙ (clashes-listed c.args.spec.now c.self.inside.all.items ∙ ap (λ (rows : List Row). list_any (clashes_with c.args.spec.now) rows) list))
