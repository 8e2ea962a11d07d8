use Rattle.std.proofs.Common.{◌≡◌, List, ap, ◌∙◌}
use Rattle.std.specs.List.{find}
use Rattle.alg_registry.specs.declared.row.Row.{Row}
use Rattle.alg_registry.specs.Answers.{driver_place}
use Rattle.alg_registry.specs.Held.{RowTable, listed_from, passes, is_listed_driver}
use Rattle.alg_registry.proofs.Scanning.{driver-listed}
use Rattle.alg_registry.proofs.rows.Rows.place_of_driver.Goals as goal

pub returns : goal.returns
returns c =
    let all : c.deref.result.now ≡ c.self.inside.all.items = c.deref.ensures.value in
    let listed : c.deref-2.result.now ≡ listed_from 0 c.self.inside.all.items = c.deref-2.ensures.value ∙ c.self.invariant.listed_are in
    let list : c.self.inside.all.items ≡ c.args.self.now.list = ap (λ (t : RowTable). t.list) c.self.view_is in
    c.find_driver.ensures
    ∙ ((λ i. find (passes (is_listed_driver c.args.driver.now) (all i)) (listed i))
    ∙ (driver-listed c.args.driver.now c.self.inside.all.items ∙ ap (λ (rows : List Row). driver_place rows c.args.driver.now) list))
