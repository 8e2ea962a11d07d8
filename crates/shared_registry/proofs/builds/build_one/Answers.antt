use Rattle.std.proofs.Common.{Ok, None, inl, ap, sym, subst, ◌∙◌}
use Rattle.turn_lock.specs.Passes.{knows}
use Rattle.shared_registry.specs.Within.{BeginsText}
use Rattle.shared_registry.proofs.Working.{works_none}
use Rattle.shared_registry.proofs.Claiming.{took_none, took_not, claimed_none, claimed_not}
use Rattle.shared_registry.proofs.Outcomes.{begins_oldest, works_oldest, built_oldest}
use Rattle.shared_registry.proofs.builds.build_one.Goals as goal

pub build_text-pass-requires-clause-begins : goal.build_text-pass-requires-clause-begins
build_text-pass-requires-clause-begins g c =
    subst (λ text. BeginsText c.in-Some.begun.larval text (knows c.claim-pass.result.0)) (sym c.as_slice.ensures)
    (begins_oldest (knows c.args.pass) (knows c.claim-pass.result.0) c.claim-pass.result.1 c.in-Some.begun c.claim-pass.ensures.turn c.claim-pass.ensures.sound (c.in-Ok.is ∙ ap (λ x. Ok x) c.in-Some.is))

pub returns-clause-works : goal.returns-clause-works
returns-clause-works g c =
    works_oldest (knows c.args.pass) (knows c.claim-pass.result.0) c.claim-pass.result.1 c.in-Some.begun c.claim-pass.ensures.turn c.claim-pass.ensures.sound (c.in-Ok.is ∙ ap (λ x. Ok x) c.in-Some.is)
    (knows c.build_text-pass.result.0) c.build_text-pass.ensures.closes

pub returns-clause-built : goal.returns-clause-built
returns-clause-built g c =
    built_oldest (knows c.args.pass) (knows c.claim-pass.result.0) c.claim-pass.result.1 c.in-Some.begun c.claim-pass.ensures.turn c.claim-pass.ensures.sound (c.in-Ok.is ∙ ap (λ x. Ok x) c.in-Some.is)
    (knows c.build_text-pass.result.0) c.build_text-pass.result.1 c.has_come.result c.build_text-pass.ensures.closes c.build_text-pass.ensures.ends c.build_text-pass.ensures.wanting c.has_come.ensures

pub returns-in-None-clause-works : goal.returns-in-None-clause-works
returns-in-None-clause-works g c =
    works_none (knows c.args.pass) (knows c.claim-pass.result.0) (claimed_none (knows c.args.pass) (knows c.claim-pass.result.0) None c.claim-pass.result.1 c.claim-pass.ensures.turn (c.in-Ok.is ∙ ap (λ x. Ok x) c.in-None.is))

pub returns-in-None-clause-built : goal.returns-in-None-clause-built
returns-in-None-clause-built g c =
    took_none (knows c.args.pass) (knows c.claim-pass.result.0) c.claim-pass.result.1 c.claim-pass.ensures.turn (c.in-Ok.is ∙ ap (λ x. Ok x) c.in-None.is)

pub returns-in-Err-clause-works : goal.returns-in-Err-clause-works
returns-in-Err-clause-works g c =
    works_none (knows c.args.pass) (knows c.claim-pass.result.0) (claimed_not (knows c.args.pass) (knows c.claim-pass.result.0) None c.claim-pass.result.1 c.claim-pass.ensures.turn c.in-Err.field-0 c.in-Err.is)

pub returns-in-Err-clause-built : goal.returns-in-Err-clause-built
returns-in-Err-clause-built g c = inl (took_not (knows c.args.pass) (knows c.claim-pass.result.0) c.claim-pass.result.1 c.in-Err.field-0 c.claim-pass.ensures.turn c.in-Err.is)
