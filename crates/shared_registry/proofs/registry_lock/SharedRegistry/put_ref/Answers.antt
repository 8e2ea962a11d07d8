use Rattle.std.proofs.Common.{refl, sym, ap, ◌∙◌, subst}
use Rattle.alg_registry.specs.Rows.{caller_of}
use Rattle.turn_lock.specs.Passes.{knows}
use Rattle.turn_lock.specs.Turns.{Shows, sees}
use Rattle.turn_lock.specs.TurnLaws.{meets}
use Rattle.shared_registry.specs.Faithful.{IsFaithful}
use Rattle.alg_registry.specs.declared.entry.RegEntry.TheVariants.{Put}
use Rattle.alg_registry.specs.Legal.{HasReference}
use Rattle.shared_registry.proofs.Turning.{end_gave, sound_entered}
use Rattle.shared_registry.proofs.registry_lock.SharedRegistry.put_ref.Goals as goal

pub put_ref-requires-clause-has : goal.put_ref-requires-clause-has
put_ref-requires-clause-has g c =
    let t = c.turn-turn.ensures in let h = c.get.result.now in let v = c.get.ensures.value in
    let shows = subst (Shows caller_of (knows c.args.pass)) (sym v) t.shows in
    let kept = subst IsFaithful (sym v) t.faithful in
    let met = meets caller_of IsFaithful (knows c.args.pass) h shows kept in
    let same = t.sees ∙ ap (sees (knows c.args.pass)) (sym v) in
    subst (λ n. HasReference h n c.args.id) (sym c.number-by.ensures) (t.laws.references h (knows c.args.pass).number c.args.id (subst (λ es. HasReference es (knows c.args.pass).number c.args.id) (sym shows.made) c.requires.has))

pub returns-clause-turn : goal.returns-clause-turn
returns-clause-turn g c =
    let t = c.turn-turn.ensures in let h = c.get.result.now in let v = c.get.ensures.value in
    let shows = subst (Shows caller_of (knows c.args.pass)) (sym v) t.shows in
    let kept = subst IsFaithful (sym v) t.faithful in
    let met = meets caller_of IsFaithful (knows c.args.pass) h shows kept in
    let same = t.sees ∙ ap (sees (knows c.args.pass)) (sym v) in
    (h, met, end_gave (knows c.args.pass) _ h c.put_ref.new.self _ same c.put_ref.ensures.faithful (λ n. Put n c.args.id) _ _ c.number-by.ensures refl c.put_ref.ensures.history c.give.ensures.view)

pub returns-clause-sound : goal.returns-clause-sound
returns-clause-sound g c =
    let t = c.turn-turn.ensures in let h = c.get.result.now in let v = c.get.ensures.value in
    let shows = subst (Shows caller_of (knows c.args.pass)) (sym v) t.shows in
    let kept = subst IsFaithful (sym v) t.faithful in
    let met = meets caller_of IsFaithful (knows c.args.pass) h shows kept in
    let same = t.sees ∙ ap (sees (knows c.args.pass)) (sym v) in
    sound_entered (knows c.args.pass) _ h (Put (knows c.args.pass).number c.args.id) refl met
    (end_gave (knows c.args.pass) _ h c.put_ref.new.self _ same c.put_ref.ensures.faithful (λ n. Put n c.args.id) _ _ c.number-by.ensures refl c.put_ref.ensures.history c.give.ensures.view)
