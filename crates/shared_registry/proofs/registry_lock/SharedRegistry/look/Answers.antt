use Rattle.std.proofs.Common.{refl, sym, ap, ◌∙◌, subst}
use Rattle.alg_registry.specs.Rows.{caller_of}
use Rattle.turn_lock.specs.Passes.{knows}
use Rattle.turn_lock.specs.Turns.{Shows, sees}
use Rattle.turn_lock.specs.TurnLaws.{meets}
use Rattle.shared_registry.specs.Faithful.{IsFaithful}
use Rattle.alg_registry.specs.declared.entry.RegEntry.TheVariants.{Look}
use Rattle.shared_registry.proofs.Asking.{look_made, look_caller}
use Rattle.shared_registry.proofs.Turning.{ok_gave, sound_ok}
use Rattle.shared_registry.proofs.registry_lock.SharedRegistry.look.Goals as goal

pub look-answer-requires-clause-next : goal.look-answer-requires-clause-next
look-answer-requires-clause-next g c =
    let t = c.turn-turn.ensures in let h = c.get.result.now in let v = c.get.ensures.value in
    let shows = subst (Shows caller_of (knows c.args.pass)) (sym v) t.shows in
    let kept = subst IsFaithful (sym v) t.faithful in
    let met = meets caller_of IsFaithful (knows c.args.pass) h shows kept in
    let same = t.sees ∙ ap (sees (knows c.args.pass)) (sym v) in
    look_made t.laws (knows c.args.pass) h shows kept.legal _ c.args.text.now c.args.plain c.number-by.ensures c.requires.may

pub look-answer-requires-clause-caller : goal.look-answer-requires-clause-caller
look-answer-requires-clause-caller g c = look_caller (knows c.args.pass) _ c.args.text.now c.args.plain c.number-by.ensures c.requires.may

pub returns-clause-turn : goal.returns-clause-turn
returns-clause-turn g c =
    let t = c.turn-turn.ensures in let h = c.get.result.now in let v = c.get.ensures.value in
    let shows = subst (Shows caller_of (knows c.args.pass)) (sym v) t.shows in
    let kept = subst IsFaithful (sym v) t.faithful in
    let met = meets caller_of IsFaithful (knows c.args.pass) h shows kept in
    let same = t.sees ∙ ap (sees (knows c.args.pass)) (sym v) in
    (h, met, ok_gave (knows c.args.pass) _ h c.look-answer.new.self _ same c.look-answer.ensures.faithful _ c.look-answer.result (λ n x. Look n c.args.text.now c.args.plain x) _ _ c.number-by.ensures c.is_ok-added.ensures.value c.look-answer.ensures.answer c.look-answer.ensures.history c.look-answer.ensures.memory c.give-pass.ensures.view)

pub returns-clause-sound : goal.returns-clause-sound
returns-clause-sound g c =
    let t = c.turn-turn.ensures in let h = c.get.result.now in let v = c.get.ensures.value in
    let shows = subst (Shows caller_of (knows c.args.pass)) (sym v) t.shows in
    let kept = subst IsFaithful (sym v) t.faithful in
    let met = meets caller_of IsFaithful (knows c.args.pass) h shows kept in
    let same = t.sees ∙ ap (sees (knows c.args.pass)) (sym v) in
    sound_ok (knows c.args.pass) _ h (λ x. Look (knows c.args.pass).number c.args.text.now c.args.plain x) _ c.look-answer.result (λ x. refl) met
    (ok_gave (knows c.args.pass) _ h c.look-answer.new.self _ same c.look-answer.ensures.faithful _ c.look-answer.result (λ n x. Look n c.args.text.now c.args.plain x) _ _ c.number-by.ensures c.is_ok-added.ensures.value c.look-answer.ensures.answer c.look-answer.ensures.history c.look-answer.ensures.memory c.give-pass.ensures.view)
