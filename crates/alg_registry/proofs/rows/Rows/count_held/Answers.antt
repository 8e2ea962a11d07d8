use Rattle.std.proofs.Common.{◌≡◌, List, length, ap, ◌∙◌, arith}
use Rattle.alg_registry.specs.declared.row.Row.{Row}
use Rattle.alg_registry.specs.Answers.{held_count}
use Rattle.alg_registry.specs.Held.{RowTable}
use Rattle.alg_registry.proofs.Scanning.{count-held}
use Rattle.alg_registry.proofs.rows.Rows.count_held.Goals as goal

pub returns : goal.returns
returns c =
    let list : c.self.inside.all.items ≡ c.args.self.now.list = ap (λ (t : RowTable). t.list) c.self.view_is in
    let held : length c.self.inside.held.items ≡ held_count c.args.self.now.list = ap length c.self.invariant.held_are ∙ (count-held 0 c.self.inside.all.items ∙ ap (λ (rows : List Row). held_count rows) list) in
    omega (arith, c.len.ensures, held)
