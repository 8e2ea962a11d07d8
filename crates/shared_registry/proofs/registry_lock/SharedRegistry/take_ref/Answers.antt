use Rattle.std.proofs.Common.{refl, sym, ap, ◌∙◌, subst}
use Rattle.alg_registry.specs.Rows.{caller_of, is_listed}
use Rattle.turn_lock.specs.Passes.{knows}
use Rattle.turn_lock.specs.Turns.{Shows, sees}
use Rattle.turn_lock.specs.TurnLaws.{meets}
use Rattle.shared_registry.specs.Faithful.{IsFaithful}
use Rattle.alg_registry.specs.declared.entry.RegEntry.TheVariants.{Get}
use Rattle.shared_registry.proofs.Turning.{unless_memory_gave, beside, sound_unless}
use Rattle.shared_registry.proofs.registry_lock.SharedRegistry.take_ref.Goals as goal

pub returns-clause-turn : goal.returns-clause-turn
returns-clause-turn g c =
    let t = c.turn-turn.ensures in let h = c.get.result.now in let v = c.get.ensures.value in
    let shows = subst (Shows caller_of (knows c.args.pass)) (sym v) t.shows in
    let kept = subst IsFaithful (sym v) t.faithful in
    let met = meets caller_of IsFaithful (knows c.args.pass) h shows kept in
    let same = t.sees ∙ ap (sees (knows c.args.pass)) (sym v) in (
      h,
      met,
      beside c.take_ref-answer.result _ _ _ c.take_ref-answer.ensures.answer
          (unless_memory_gave (knows c.args.pass) _ h c.take_ref-answer.new.self _ same c.take_ref-answer.ensures.faithful c.take_ref-answer.result (λ n. Get n c.args.id (is_listed h c.args.id)) _ _ _ c.number-by.ensures refl c.is_recorded-added.ensures c.take_ref-answer.ensures.history c.give.ensures.view),
    )

pub returns-clause-sound : goal.returns-clause-sound
returns-clause-sound g c =
    let t = c.turn-turn.ensures in let h = c.get.result.now in let v = c.get.ensures.value in
    let shows = subst (Shows caller_of (knows c.args.pass)) (sym v) t.shows in
    let kept = subst IsFaithful (sym v) t.faithful in
    let met = meets caller_of IsFaithful (knows c.args.pass) h shows kept in
    let same = t.sees ∙ ap (sees (knows c.args.pass)) (sym v) in
    sound_unless (knows c.args.pass) _ h (Get (knows c.args.pass).number c.args.id (is_listed h c.args.id)) _ c.take_ref-answer.result refl met
    (beside c.take_ref-answer.result _ _ _ c.take_ref-answer.ensures.answer
    (unless_memory_gave (knows c.args.pass) _ h c.take_ref-answer.new.self _ same c.take_ref-answer.ensures.faithful c.take_ref-answer.result (λ n. Get n c.args.id (is_listed h c.args.id)) _ _ _ c.number-by.ensures refl c.is_recorded-added.ensures c.take_ref-answer.ensures.history c.give.ensures.view))
