use Rattle.std.proofs.Common.{◌<◌, sym, subst, ◌∙◌}
use Rattle.padata_core.specs.Pad.{Pad}
use Rattle.padata_core.proofs.Listed.{list_is}
use Rattle.padata_core.proofs.Padata.list.Goals as goal

pub returns : goal.returns
returns g c =
    let s = c.self.inside in
    let i = c.self.invariant in
    let k = subst (λ (p : Pad _ _). c.args.k < p.lists) (sym c.self.view_is) c.requires in
    rw (← c.self.view_is) (c.entries.ensures ∙ list_is s.rows.items s.lists s.collected s.taken s.room c.args.k c.index-row.result.now i.0 i.1 k c.index-row.ensures)
