use Rattle.std.proofs.Common.{◌≡◌, ◌∷◌, [], ◌++◌, slice_get, Some, subst, ap, sym, ◌∙◌}
use Rattle.std.specs.Prelude.{MatchOption}
use Rattle.turn_lock.specs.Passes.{knows, turn_knows}
use Rattle.board.specs.Entries.{entries_of, submissions, finish_entry, take_entry, NoneFor, caller_of}
use Rattle.board.specs.Legal.{MayFinish, LegalBoard}
use Rattle.turn_lock.specs.TurnLaws.{sure_turn, found_next}
use Rattle.shared_board.proofs.Knowing.{itself}
use Rattle.shared_board.proofs.shared.SharedBoard.finish_and_take.Goals as goal

pub finish-requires-clause-took : goal.finish-requires-clause-took
finish-requires-clause-took g c κs within =
    let s = c.turn-turn.ensures.holds.slip c.args.slip.pipe c.args.slip.number c.args.out c.requires.took in
    rw (c.number-caller.ensures, c.get.ensures.value) s.0

pub finish-requires-clause-once : goal.finish-requires-clause-once
finish-requires-clause-once g c κs within =
    let s = c.turn-turn.ensures.holds.slip c.args.slip.pipe c.args.slip.number c.args.out c.requires.took in
    rw c.get.ensures.value s.1

pub finish-requires-clause-right : goal.finish-requires-clause-right
finish-requires-clause-right g c κs within =
    let s = c.turn-turn.ensures.holds.slip c.args.slip.pipe c.args.slip.number c.args.out c.requires.took in
    rw c.get.ensures.value s.2

pub returns-clause-turn : goal.returns-clause-turn
returns-clause-turn g c =
    let t = c.turn-turn.ensures in
    let a = c.finish.ensures in
    let n = c.note-turn.ensures in
    let b = c.take-next.ensures in
    let m = turn_knows c.note-turn.result in
    let l = knows c.give-pass.result in
    let old = c.get-2.result.now in
    let first = sure_turn caller_of (λ xs. LegalBoard xs) itself (knows c.args.pass) _ m _ _ c.finish.new.self _ c.number-caller.ensures c.get.ensures.value t.sees t.meets a.legal
    (λ j xs. finish_entry xs j c.args.slip.pipe c.args.slip.number) a.finished n.view in
    let own : c.number-caller.result ≡ m.number = c.number-caller.ensures ∙ sym (ap (λ z. z.number) first.2.0) in
    let from : old ≡ m.seen = c.get-2.ensures.value ∙ (n.value ∙ (n.view.2 ∙ sym (ap (λ z. z.seen) n.view.3))) in
    let did = subst (λ j. MatchOption c.take-next.result ((c.take-next.new.self ≡ old) × NoneFor old j) (λ t. (c.take-next.new.self ≡ old ++ take_entry old c.number-caller.result t.slip.pipe t.slip.number ∷ []) × (slice_get (submissions (entries_of t.slip.pipe old)) t.slip.number ≡ Some (g.W.Work.asked t.job)))) own b.taken in (
      m,
      first,
      found_next caller_of (λ xs. LegalBoard xs) itself m l old c.take-next.new.self _ own from b.legal c.take-next.result
          (λ v j xs. take_entry xs j v.slip.pipe v.slip.number) (λ xs. NoneFor xs m.number)
          (λ xs v. slice_get (submissions (entries_of v.slip.pipe xs)) v.slip.number ≡ Some (g.W.Work.asked v.job))
          (λ xs j v. MayFinish g.W.Work.meaning (entries_of v.slip.pipe xs) j v.slip.number (g.W.Work.meaning (g.W.Work.asked v.job)))
          _ c.is_some-added.ensures did b.ready c.give-pass.ensures.view,
    )
