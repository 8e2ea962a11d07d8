use Rattle.std.proofs.Common.{ℕ, List, ◌∙◌, ap, subst, sym}
use Rattle.templates.specs.declared.driver_plans.Plan.{Plan}
use Rattle.transforms.specs.Asked.{takes}
use Rattle.transforms.specs.Keys.{IsKeyed}
use Rattle.transforms.proofs.Kept.{kept_takes}
use Rattle.transforms.proofs.keyed.Keyed.run.Goals as goal

pub run_aead-requires-clause-taken : goal.run_aead-requires-clause-taken
run_aead-requires-clause-taken c =
    let kept = subst (λ inner. IsKeyed inner c.self.inside.plan c.self.inside.key) (sym c.deref.ensures ∙ c.in-Aead.is) c.self.invariant in
    kept_takes c.in-Aead.aead c.self.inside.plan c.self.inside.key c.args.authsize c.args.request.now kept
    ∙ (ap (λ (keyed : Plan × List ℕ). takes keyed.0 c.args.authsize c.args.request.now) c.self.view_is ∙ c.requires.taken)
