use Rattle.std.proofs.Common.{refl, sym, ap, ◌∙◌, subst}
use Rattle.alg_registry.specs.Rows.{caller_of}
use Rattle.turn_lock.specs.Passes.{knows}
use Rattle.turn_lock.specs.Turns.{Shows, sees}
use Rattle.turn_lock.specs.TurnLaws.{meets}
use Rattle.shared_registry.specs.Faithful.{IsFaithful}
use Rattle.alg_registry.specs.declared.entry.RegEntry.TheVariants.{List as Lists}
use Rattle.shared_registry.proofs.Turning.{ok_gave, sound_ok}
use Rattle.shared_registry.proofs.registry_lock.SharedRegistry.list.Goals as goal

pub returns-clause-turn : goal.returns-clause-turn
returns-clause-turn g c =
    let t = c.turn-turn.ensures in let h = c.get.result.now in let v = c.get.ensures.value in
    let shows = subst (Shows caller_of (knows c.args.pass)) (sym v) t.shows in
    let kept = subst IsFaithful (sym v) t.faithful in
    let met = meets caller_of IsFaithful (knows c.args.pass) h shows kept in
    let same = t.sees ∙ ap (sees (knows c.args.pass)) (sym v) in
    (h, met, ok_gave (knows c.args.pass) _ h c.list-answer.new.self _ same c.list-answer.ensures.faithful _ c.list-answer.result (λ n x. Lists n) _ _ c.number-by.ensures c.is_ok-added.ensures.value c.list-answer.ensures.answer c.list-answer.ensures.history c.list-answer.ensures.memory c.give.ensures.view)

pub returns-clause-sound : goal.returns-clause-sound
returns-clause-sound g c =
    let t = c.turn-turn.ensures in let h = c.get.result.now in let v = c.get.ensures.value in
    let shows = subst (Shows caller_of (knows c.args.pass)) (sym v) t.shows in
    let kept = subst IsFaithful (sym v) t.faithful in
    let met = meets caller_of IsFaithful (knows c.args.pass) h shows kept in
    let same = t.sees ∙ ap (sees (knows c.args.pass)) (sym v) in
    sound_ok (knows c.args.pass) _ h (λ x. Lists (knows c.args.pass).number) _ c.list-answer.result (λ x. refl) met
    (ok_gave (knows c.args.pass) _ h c.list-answer.new.self _ same c.list-answer.ensures.faithful _ c.list-answer.result (λ n x. Lists n) _ _ c.number-by.ensures c.is_ok-added.ensures.value c.list-answer.ensures.answer c.list-answer.ensures.history c.list-answer.ensures.memory c.give.ensures.view)
