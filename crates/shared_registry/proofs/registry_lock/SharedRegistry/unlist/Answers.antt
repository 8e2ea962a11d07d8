use Rattle.std.proofs.Common.{refl, sym, ap, ◌∙◌, subst}
use Rattle.alg_registry.specs.Rows.{caller_of, rows_of}
use Rattle.turn_lock.specs.Passes.{knows}
use Rattle.turn_lock.specs.Turns.{Shows, sees}
use Rattle.turn_lock.specs.TurnLaws.{meets}
use Rattle.shared_registry.specs.Faithful.{IsFaithful}
use Rattle.alg_registry.specs.Answers.{driver_place}
use Rattle.alg_registry.specs.declared.entry.RegEntry.TheVariants.{Unlist}
use Rattle.shared_registry.proofs.Turning.{unless_memory_gave, beside, sound_unless}
use Rattle.shared_registry.proofs.registry_lock.SharedRegistry.unlist.Goals as goal

pub returns-clause-turn : goal.returns-clause-turn
returns-clause-turn g c =
    let t = c.turn-turn.ensures in let h = c.get.result.now in let v = c.get.ensures.value in
    let shows = subst (Shows caller_of (knows c.args.pass)) (sym v) t.shows in
    let kept = subst IsFaithful (sym v) t.faithful in
    let met = meets caller_of IsFaithful (knows c.args.pass) h shows kept in
    let same = t.sees ∙ ap (sees (knows c.args.pass)) (sym v) in (
      h,
      met,
      beside c.unlist-answer.result _ _ _ c.unlist-answer.ensures.answer
          (unless_memory_gave (knows c.args.pass) _ h c.unlist-answer.new.self _ same c.unlist-answer.ensures.faithful c.unlist-answer.result (λ n. Unlist n c.args.driver.now (driver_place (rows_of h) c.args.driver.now)) _ _ _ c.number-by.ensures refl c.is_recorded-added.ensures c.unlist-answer.ensures.history c.give.ensures.view),
    )

pub returns-clause-sound : goal.returns-clause-sound
returns-clause-sound g c =
    let t = c.turn-turn.ensures in let h = c.get.result.now in let v = c.get.ensures.value in
    let shows = subst (Shows caller_of (knows c.args.pass)) (sym v) t.shows in
    let kept = subst IsFaithful (sym v) t.faithful in
    let met = meets caller_of IsFaithful (knows c.args.pass) h shows kept in
    let same = t.sees ∙ ap (sees (knows c.args.pass)) (sym v) in
    sound_unless (knows c.args.pass) _ h (Unlist (knows c.args.pass).number c.args.driver.now (driver_place (rows_of h) c.args.driver.now)) _ c.unlist-answer.result refl met
    (beside c.unlist-answer.result _ _ _ c.unlist-answer.ensures.answer
    (unless_memory_gave (knows c.args.pass) _ h c.unlist-answer.new.self _ same c.unlist-answer.ensures.faithful c.unlist-answer.result (λ n. Unlist n c.args.driver.now (driver_place (rows_of h) c.args.driver.now)) _ _ _ c.number-by.ensures refl c.is_recorded-added.ensures c.unlist-answer.ensures.history c.give.ensures.view))
