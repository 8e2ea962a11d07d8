use Rattle.std.proofs.Common.{refl, sym, ap, ◌∙◌, subst}
use Rattle.alg_registry.specs.Rows.{caller_of, larvals_of}
use Rattle.turn_lock.specs.Passes.{knows}
use Rattle.turn_lock.specs.Turns.{Shows, sees}
use Rattle.turn_lock.specs.TurnLaws.{meets}
use Rattle.shared_registry.specs.Faithful.{IsFaithful}
use Rattle.alg_registry.specs.declared.entry.RegEntry.TheVariants.{Claim}
use Rattle.alg_registry.specs.Calls.{claimed_number}
use Rattle.shared_registry.proofs.Turning.{claim_gave, sound_if}
use Rattle.shared_registry.proofs.registry_lock.SharedRegistry.claim.Goals as goal

pub returns-clause-turn : goal.returns-clause-turn
returns-clause-turn g c =
    let t = c.turn-turn.ensures in let h = c.get.result.now in let v = c.get.ensures.value in
    let shows = subst (Shows caller_of (knows c.args.pass)) (sym v) t.shows in
    let kept = subst IsFaithful (sym v) t.faithful in
    let met = meets caller_of IsFaithful (knows c.args.pass) h shows kept in
    let same = t.sees ∙ ap (sees (knows c.args.pass)) (sym v) in
    (h, met, claim_gave (knows c.args.pass) _ h c.claim-answer.new.self _ same c.claim-answer.ensures.faithful _ (claimed_number (larvals_of h) c.args.larval) c.claim-answer.result _ _ c.number-by.ensures c.is_given-added.ensures c.claim-answer.ensures.answer c.claim-answer.ensures.history c.claim-answer.ensures.memory c.give-pass.ensures.view)

pub returns-clause-sound : goal.returns-clause-sound
returns-clause-sound g c =
    let t = c.turn-turn.ensures in let h = c.get.result.now in let v = c.get.ensures.value in
    let shows = subst (Shows caller_of (knows c.args.pass)) (sym v) t.shows in
    let kept = subst IsFaithful (sym v) t.faithful in
    let met = meets caller_of IsFaithful (knows c.args.pass) h shows kept in
    let same = t.sees ∙ ap (sees (knows c.args.pass)) (sym v) in
    sound_if (knows c.args.pass) _ h (λ larval. Claim (knows c.args.pass).number larval) (claimed_number (larvals_of h) c.args.larval) _ c.claim-answer.result (λ larval. refl) met
    (claim_gave (knows c.args.pass) _ h c.claim-answer.new.self _ same c.claim-answer.ensures.faithful _ (claimed_number (larvals_of h) c.args.larval) c.claim-answer.result _ _ c.number-by.ensures c.is_given-added.ensures c.claim-answer.ensures.answer c.claim-answer.ensures.history c.claim-answer.ensures.memory c.give-pass.ensures.view)
