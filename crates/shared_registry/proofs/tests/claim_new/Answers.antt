use Rattle.std.proofs.Common.{ap, ◌∙◌, Ok, subst}
use Rattle.std.specs.Prelude.{IfOk, false}
use Rattle.alg_names.specs.Name.{spelling}
use Rattle.turn_lock.specs.Passes.{knows}
use Rattle.shared_registry.specs.Builds.{Looks, HasText}
use Rattle.shared_registry.proofs.Claiming.{begins, claimed_it, text_on}
use Rattle.shared_registry.proofs.tests.claim_new.Goals as goal

pub returns-clause-begins : goal.returns-clause-begins
returns-clause-begins g c =
    let k = knows c.look_for-pass.result.0 in let l = knows c.claim-pass.result.0 in
    let did = subst (λ r. IfOk r (λ looked. Looks (knows c.args.pass) k (spelling c.args.name.now) false looked × HasText k.seen (spelling c.args.name.now) looked)) (c.expect-looked.ensures ∙ ap (λ x. Ok x) c.in-Began.is) c.look_for-pass.ensures.ok in
    let claims = claimed_it k l c.in-Began.larval c.claim-pass.result.1 c.expect.result c.claim-pass.ensures.turn (c.expect-claimed.ensures ∙ ap (λ x. Ok x) c.expect.ensures) in
    begins k l c.in-Began.larval claims (spelling c.args.name.now) c.claim-pass.ensures.sound (text_on k l _ c.in-Began.larval (spelling c.args.name.now) claims.goes did.1)
