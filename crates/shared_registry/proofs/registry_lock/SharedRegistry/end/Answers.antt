use Rattle.std.proofs.Common.{refl, sym, ap, ◌∙◌, subst, Some}
use Rattle.alg_registry.specs.Rows.{caller_of, rows_of}
use Rattle.turn_lock.specs.Passes.{knows}
use Rattle.turn_lock.specs.Turns.{Shows, sees}
use Rattle.turn_lock.specs.TurnLaws.{meets}
use Rattle.shared_registry.specs.Faithful.{IsFaithful}
use Rattle.alg_registry.specs.declared.entry.RegEntry.TheVariants.{End}
use Rattle.alg_registry.specs.Calls.{end_given, unless_memory}
use Rattle.shared_registry.proofs.Asking.{open_at, end_made, is_failure}
use Rattle.shared_registry.proofs.Turning.{end_gave, sound_entered}
use Rattle.shared_registry.proofs.registry_lock.SharedRegistry.end.Goals as goal

pub end-answer-requires-clause-claimed : goal.end-answer-requires-clause-claimed
end-answer-requires-clause-claimed g c =
    let t = c.turn-turn.ensures in let h = c.get.result.now in let v = c.get.ensures.value in
    let shows = subst (Shows caller_of (knows c.args.pass)) (sym v) t.shows in
    let kept = subst IsFaithful (sym v) t.faithful in
    let met = meets caller_of IsFaithful (knows c.args.pass) h shows kept in
    let same = t.sees ∙ ap (sees (knows c.args.pass)) (sym v) in
    (open_at t.laws (knows c.args.pass) h shows kept.legal c.args.larval c.requires.open).0 ∙ ap (λ n. Some n) (sym c.number-by.ensures)

pub end-answer-requires-clause-unended : goal.end-answer-requires-clause-unended
end-answer-requires-clause-unended g c =
    let t = c.turn-turn.ensures in let h = c.get.result.now in let v = c.get.ensures.value in
    let shows = subst (Shows caller_of (knows c.args.pass)) (sym v) t.shows in
    let kept = subst IsFaithful (sym v) t.faithful in
    let met = meets caller_of IsFaithful (knows c.args.pass) h shows kept in
    let same = t.sees ∙ ap (sees (knows c.args.pass)) (sym v) in
    (open_at t.laws (knows c.args.pass) h shows kept.legal c.args.larval c.requires.open).1

pub end-answer-requires-clause-handed : goal.end-answer-requires-clause-handed
end-answer-requires-clause-handed g c = is_failure (knows c.args.pass) c.args.larval c.args.built c.requires.handed

pub end-answer-requires-clause-made : goal.end-answer-requires-clause-made
end-answer-requires-clause-made g c =
    let t = c.turn-turn.ensures in let h = c.get.result.now in let v = c.get.ensures.value in
    let shows = subst (Shows caller_of (knows c.args.pass)) (sym v) t.shows in
    let kept = subst IsFaithful (sym v) t.faithful in
    let met = meets caller_of IsFaithful (knows c.args.pass) h shows kept in
    let same = t.sees ∙ ap (sees (knows c.args.pass)) (sym v) in
    end_made t.laws (knows c.args.pass) h shows kept.legal c.number-by.result c.args.larval c.args.built c.requires.open c.requires.handed

pub returns-clause-turn : goal.returns-clause-turn
returns-clause-turn g c =
    let t = c.turn-turn.ensures in let h = c.get.result.now in let v = c.get.ensures.value in
    let shows = subst (Shows caller_of (knows c.args.pass)) (sym v) t.shows in
    let kept = subst IsFaithful (sym v) t.faithful in
    let met = meets caller_of IsFaithful (knows c.args.pass) h shows kept in
    let same = t.sees ∙ ap (sees (knows c.args.pass)) (sym v) in
    (h, met, (c.end-answer.ensures.answer, c.end-answer.ensures.memory, end_gave (knows c.args.pass) _ h c.end-answer.new.self _ same c.end-answer.ensures.faithful (λ n. End n c.args.larval (unless_memory c.end-answer.result (end_given (rows_of h) c.args.built))) _ _ c.number-by.ensures refl c.end-answer.ensures.history c.give-pass.ensures.view))

pub returns-clause-sound : goal.returns-clause-sound
returns-clause-sound g c =
    let t = c.turn-turn.ensures in let h = c.get.result.now in let v = c.get.ensures.value in
    let shows = subst (Shows caller_of (knows c.args.pass)) (sym v) t.shows in
    let kept = subst IsFaithful (sym v) t.faithful in
    let met = meets caller_of IsFaithful (knows c.args.pass) h shows kept in
    let same = t.sees ∙ ap (sees (knows c.args.pass)) (sym v) in
    sound_entered (knows c.args.pass) _ h (End (knows c.args.pass).number c.args.larval (unless_memory c.end-answer.result (end_given (rows_of h) c.args.built))) refl met
    (end_gave (knows c.args.pass) _ h c.end-answer.new.self _ same c.end-answer.ensures.faithful (λ n. End n c.args.larval (unless_memory c.end-answer.result (end_given (rows_of h) c.args.built))) _ _ c.number-by.ensures refl c.end-answer.ensures.history c.give-pass.ensures.view)
