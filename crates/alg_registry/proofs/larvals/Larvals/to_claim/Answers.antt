use Rattle.std.proofs.Common.{None, List, ℕ, Option, sym, ap, ◌∙◌}
use Rattle.std.specs.Prelude.{slice_get}
use Rattle.alg_registry.specs.Calls.{is_unclaimed, claimed_number}
use Rattle.alg_registry.specs.Larvals.{LarvalTable}
use Rattle.alg_registry.proofs.Seen.{first-number}
use Rattle.alg_registry.proofs.larvals.Larvals.to_claim.Goals as goal

pub returns-in-None : goal.returns-in-None
returns-in-None c =
    c.first_of.ensures
    ∙ (ap (λ (ns : List ℕ). slice_get ns 0) (c.deref-in-None.ensures.value ∙ c.self.invariant.unclaimed_are)
    ∙ (first-number is_unclaimed 0 c.self.inside.all.items
    ∙ (ap (λ (t : LarvalTable). claimed_number t.list None) c.self.view_is ∙ ap (λ (o : Option ℕ). claimed_number c.args.self.now.list o) (sym c.in-None.is))))
