use Rattle.std.proofs.Common.{◌∷◌, subst}
use Rattle.std.specs.Prelude.{IfOk, false}
use Rattle.alg_names.specs.Name.{spelling}
use Rattle.turn_lock.specs.Passes.{knows}
use Rattle.alg_registry.specs.declared.entry.RegEntry.TheVariants.{Look}
use Rattle.shared_registry.specs.Builds.{Looks, HasText}
use Rattle.shared_registry.proofs.Clients.{was_answered, answered_on}
use Rattle.shared_registry.proofs.tests.look_both.Goals as goal

pub returns-clause-answered : goal.returns-clause-answered
returns-clause-answered g c =
    let k = knows c.args.pass in let l = knows c.look_for-pass.result.0 in let m = knows c.look_for-pass-2.result.0 in
    let one = subst (λ r. IfOk r (λ looked. Looks k l (spelling c.args.first.now) false looked × HasText l.seen (spelling c.args.first.now) looked)) c.expect-one.ensures c.look_for-pass.ensures.ok in
    let two = subst (λ r. IfOk r (λ looked. Looks l m (spelling c.args.second.now) false looked × HasText m.seen (spelling c.args.second.now) looked)) c.expect-two.ensures c.look_for-pass-2.ensures.ok in
    answered_on l m (Look l.number (spelling c.args.second.now) false c.expect-two.result ∷ two.0.work) (spelling c.args.first.now) c.expect-one.result two.0.goes (was_answered k l (spelling c.args.first.now) false c.expect-one.result one.0)

pub returns-clause-answered_second : goal.returns-clause-answered_second
returns-clause-answered_second g c =
    let l = knows c.look_for-pass.result.0 in let m = knows c.look_for-pass-2.result.0 in
    let two = subst (λ r. IfOk r (λ looked. Looks l m (spelling c.args.second.now) false looked × HasText m.seen (spelling c.args.second.now) looked)) c.expect-two.ensures c.look_for-pass-2.ensures.ok in
    was_answered l m (spelling c.args.second.now) false c.expect-two.result two.0
