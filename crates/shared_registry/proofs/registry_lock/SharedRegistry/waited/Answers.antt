use Rattle.std.proofs.Common.{refl, sym, ap, ◌∙◌, subst}
use Rattle.alg_registry.specs.Rows.{caller_of}
use Rattle.turn_lock.specs.Passes.{knows}
use Rattle.turn_lock.specs.Turns.{Shows, sees}
use Rattle.turn_lock.specs.TurnLaws.{meets}
use Rattle.shared_registry.specs.Faithful.{IsFaithful}
use Rattle.alg_registry.specs.declared.entry.RegEntry.TheVariants.{Waited}
use Rattle.alg_registry.specs.Legal.{ended_as}
use Rattle.shared_registry.proofs.Asking.{began_at}
use Rattle.shared_registry.proofs.Turning.{waited_gave, sound_if}
use Rattle.shared_registry.proofs.registry_lock.SharedRegistry.waited.Goals as goal

pub waited-answer-requires : goal.waited-answer-requires
waited-answer-requires g c =
    let t = c.turn-turn.ensures in let h = c.get.result.now in let v = c.get.ensures.value in
    let shows = subst (Shows caller_of (knows c.args.pass)) (sym v) t.shows in
    let kept = subst IsFaithful (sym v) t.faithful in
    let met = meets caller_of IsFaithful (knows c.args.pass) h shows kept in
    let same = t.sees ∙ ap (sees (knows c.args.pass)) (sym v) in
    began_at (knows c.args.pass) h c.args.larval shows c.requires.began

pub returns-clause-turn : goal.returns-clause-turn
returns-clause-turn g c =
    let t = c.turn-turn.ensures in let h = c.get.result.now in let v = c.get.ensures.value in
    let shows = subst (Shows caller_of (knows c.args.pass)) (sym v) t.shows in
    let kept = subst IsFaithful (sym v) t.faithful in
    let met = meets caller_of IsFaithful (knows c.args.pass) h shows kept in
    let same = t.sees ∙ ap (sees (knows c.args.pass)) (sym v) in
    (h, met, waited_gave (knows c.args.pass) _ h c.waited-answer.new.self _ same c.waited-answer.ensures.faithful c.args.larval (ended_as h c.args.larval) c.waited-answer.result _ _ c.number-by.ensures c.is_given-added.ensures c.waited-answer.ensures.answer c.waited-answer.ensures.history c.waited-answer.ensures.memory c.give.ensures.view)

pub returns-clause-sound : goal.returns-clause-sound
returns-clause-sound g c =
    let t = c.turn-turn.ensures in let h = c.get.result.now in let v = c.get.ensures.value in
    let shows = subst (Shows caller_of (knows c.args.pass)) (sym v) t.shows in
    let kept = subst IsFaithful (sym v) t.faithful in
    let met = meets caller_of IsFaithful (knows c.args.pass) h shows kept in
    let same = t.sees ∙ ap (sees (knows c.args.pass)) (sym v) in
    sound_if (knows c.args.pass) _ h (λ _. Waited (knows c.args.pass).number c.args.larval) (ended_as h c.args.larval) _ c.waited-answer.result (λ _. refl) met
    (waited_gave (knows c.args.pass) _ h c.waited-answer.new.self _ same c.waited-answer.ensures.faithful c.args.larval (ended_as h c.args.larval) c.waited-answer.result _ _ c.number-by.ensures c.is_given-added.ensures c.waited-answer.ensures.answer c.waited-answer.ensures.history c.waited-answer.ensures.memory c.give.ensures.view)
