use Rattle.std.proofs.Common.{false, refl, sym, ap, ◌∙◌, subst}
use Rattle.alg_registry.specs.Rows.{caller_of}
use Rattle.turn_lock.specs.Passes.{knows}
use Rattle.turn_lock.specs.Turns.{Shows, sees}
use Rattle.turn_lock.specs.TurnLaws.{meets}
use Rattle.shared_registry.specs.Faithful.{IsFaithful}
use Rattle.shared_registry.proofs.Turning.{gave_none, sound_left}
use Rattle.shared_registry.proofs.registry_lock.SharedRegistry.origin.Goals as goal

pub returns-clause-turn : goal.returns-clause-turn
returns-clause-turn g c =
    let t = c.turn-turn.ensures in let h = c.get.result.now in let v = c.get.ensures.value in
    let shows = subst (Shows caller_of (knows c.args.pass)) (sym v) t.shows in
    let kept = subst IsFaithful (sym v) t.faithful in
    let met = meets caller_of IsFaithful (knows c.args.pass) h shows kept in
    let same = t.sees ∙ ap (sees (knows c.args.pass)) (sym v) in
    (h, met, (c.origin-answer.ensures.answer, c.origin-answer.ensures.memory, gave_none (knows c.args.pass) _ h h _ same kept false refl c.give.ensures.view))

pub returns-clause-sound : goal.returns-clause-sound
returns-clause-sound g c =
    let t = c.turn-turn.ensures in let h = c.get.result.now in let v = c.get.ensures.value in
    let shows = subst (Shows caller_of (knows c.args.pass)) (sym v) t.shows in
    let kept = subst IsFaithful (sym v) t.faithful in
    let met = meets caller_of IsFaithful (knows c.args.pass) h shows kept in
    let same = t.sees ∙ ap (sees (knows c.args.pass)) (sym v) in
    sound_left (knows c.args.pass) _ h met (gave_none (knows c.args.pass) _ h h _ same kept false refl c.give.ensures.view)
