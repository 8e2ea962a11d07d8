use Rattle.std.proofs.Common.{◌≡◌, List, Option, Result, Ok, Err, ap, ◌∙◌}
use Rattle.std.specs.Prelude.{IfOk, slice_get}
use Rattle.std.specs.Option.{option_map}
use Rattle.alg_registry.specs.declared.spec.Spec.{Spec}
use Rattle.alg_registry.specs.declared.row.Row.{Row}
use Rattle.alg_registry.specs.declared.entry.RegErr.{RegErr}
use Rattle.alg_registry.specs.declared.entry.RegEntry.{RegEntry}
use Rattle.alg_registry.specs.Rows.{rows_of, registered}
use Rattle.alg_registry.proofs.Fresh.{spec-rows_of}
use Rattle.alg_registry.proofs.registry.Registry.origin.Goals as goal

answer_is : (r : Result (Option Spec) RegErr) (o p : Option Spec) → o ≡ p → IfOk r (λ x. x ≡ o) → IfOk r (λ x. x ≡ p)
answer_is (Ok x) o p same is = is ∙ same
answer_is (Err e) o p same is = tt

pub returns-clause-answer : goal.returns-clause-answer
returns-clause-answer c =
    let rows : c.all.result.now ≡ rows_of c.args.self.now = c.all.ensures.all ∙ (c.self.invariant.kept.rows_are ∙ ap (λ (h : List RegEntry). rows_of h) c.self.view_is) in
    answer_is c.origin_of.result (option_map (λ row. row.spec) (slice_get c.all.result.now c.args.id)) (slice_get (registered c.args.self.now) c.args.id)
    (ap (λ (rs : List Row). option_map (λ row. row.spec) (slice_get rs c.args.id)) rows ∙ spec-rows_of c.args.self.now c.args.id)
    c.origin_of.ensures.ok
