use Rattle.std.proofs.Common.{◌≡◌, ℕ, zero, suc, ◌<◌, List, [], ◌∷◌, length, get_or, refl, arith, Some}
use Rattle.std.specs.Prelude.{slice_get}
use Rattle.alg_registry.specs.declared.spec.Spec.{Spec}
use Rattle.alg_registry.specs.Rows.{registered}
use Rattle.templates.proofs.PlannedHistories.{Grammar, faithful}
use Rattle.templates.proofs.PlannedMakes.{known-planned}
use Rattle.templates.proofs.laws.planned_drivers.Goals as goal

at_place : (xs : List Spec) (k : ℕ) (d : Spec) → k < length xs → slice_get xs k ≡ Some (get_or xs k d)
at_place [] k d lt = absurd (omega (arith, lt))
at_place (x ∷ xs) zero d lt = refl
at_place (x ∷ xs) (suc k) d lt = at_place xs k d (omega (arith, lt))

pub returns : goal.returns
returns c h legal made k d lt =
    let g : Grammar = record { read = c.computed_tree.ensures.named; named = c.computed_tree.ensures.computed; arguments = c.named_arguments.ensures } in
    known-planned g (get_or (registered h) k d) ((faithful g h legal made).entries k (get_or (registered h) k d) (at_place (registered h) k d lt))
