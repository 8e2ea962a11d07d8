use Rattle.std.proofs.Common.{arith, ◌≡◌, ◌+◌, ◌∙◌, sym, refl, subst, false, cond}
use Rattle.board.specs.declared.pipeline.Pipeline.{Pipeline}
use Rattle.board.specs.declared.entry.BoardEntry.TheVariants.{Born}
use Rattle.board.specs.Places.{places}
use Rattle.board.specs.RunQueue.{IsChain, HasRequest, IsReadyFor}
use Rattle.board.specs.RunQueues.{AreReady}
use Rattle.board.specs.Kept.{IsKeptBoard}
use Rattle.board.specs.Stages.{MayServe, MayPass}
use Rattle.board.proofs.KeptUsed.{used_same}
use Rattle.board.proofs.Kept.{shut-same, IsAdded, none_beyond, same_places, same_owed}
use Rattle.board.proofs.KeptBorn.{IsEmpty, born_kept, born_owes, born_step, few_born, no_job, no_request}
use Rattle.board.proofs.RunQueuesHold.{ready_others, ready_born, queues_others, queues_born}
use Rattle.board.proofs.board_core.BoardCore.born.Goals as goal

pub invariant_of-self-2 : goal.invariant_of-self-2
invariant_of-self-2 g c =
    let new : Pipeline _ _ = record { maker = c.args.caller; shared = false; mask = c.args.mask; submitters = c.new.result; collected = 0; stage = c.args.stage } in
    let empty : IsEmpty new c.args.caller c.args.mask c.args.shape = record { maker = refl; shared = refl; mask = refl; submitters = c.new.ensures.items; collected = refl; stage = c.requires.stage } in
    let born = c.self.inside.born in
    let none = none_beyond g.W.Work.asked g.W.Work.meaning (places c.self.inside.pipes) born c.self.inside.log.items c.self.invariant.0 in
    let next = c.enter_board.new.pipes in
    let added : IsAdded c.self.inside.pipes next born new = record { there = c.in_ok-enter_board.ensures.there; others = c.in_ok-enter_board.ensures.others; owed = c.in_ok-enter_board.ensures.owed } in
    let kept = born_kept g.W.Work.asked g.W.Work.meaning c.args.caller born c.args.mask c.args.shape new empty in
    let s = born_step g.W.Work.asked g.W.Work.meaning c.self.inside.pipes next born c.self.inside.log.items c.args.caller new c.args.shape c.self.invariant.0 added kept (born_owes c.args.caller c.args.mask c.args.shape new empty) c.requires.caller c.requires.stage.0 in (
      rw (c.push_reserved.ensures.items, c.in_ok-reserve_entries.ensures.items) s.0,
      rw (c.push_reserved.ensures.items, c.in_ok-reserve_entries.ensures.items) (shut-same c.self.inside.log.items (Born c.args.caller born c.args.shape) refl ∙ c.self.invariant.1),
      omega (arith, c.push_reserved.ensures.len, c.push_reserved.ensures.capacity, c.in_ok-reserve_entries.ensures.ok),
      omega (arith, s.1, c.self.invariant.3),
      rw (c.push_reserved.ensures.items, c.in_ok-reserve_entries.ensures.items) (used_same g.W.Work.weight c.self.inside.used c.self.inside.log.items (Born c.args.caller born c.args.shape) refl c.self.invariant.4),
      queues_born c.self.inside.pipes next c.self.inside.ready c.enter_board.new.ready born new c.self.invariant.5 added c.in_ok-enter_board.ensures.ready c.in_ok-enter_board.ensures.joined (λ m. no_job _ _ c.args.shape (subst (λ x. MayServe x) c.requires.stage.1 m)) c.new.ensures.items,
      ready_born IsChain HasRequest c.self.inside.pipes next c.self.inside.passing c.enter_board.new.passing born new c.self.invariant.6 added c.in_ok-enter_board.ensures.passing c.in_ok-enter_board.ensures.chain (λ m. no_request _ _ c.args.shape (subst (λ x. MayPass x) c.requires.stage.1 m)),
    )

pub returns-clause-legal : goal.returns-clause-legal
returns-clause-legal g c = (invariant_of-self-2 g c).0.legal

pub enter_board-requires : goal.enter_board-requires
enter_board-requires g c = none_beyond g.W.Work.asked g.W.Work.meaning (places c.self.inside.pipes) c.self.inside.born c.self.inside.log.items c.self.invariant.0

pub invariant_of-self-in_err-enter_board : goal.invariant_of-self-in_err-enter_board
invariant_of-self-in_err-enter_board g c =
    let born = c.self.inside.born in
    let none = none_beyond g.W.Work.asked g.W.Work.meaning (places c.self.inside.pipes) born c.self.inside.log.items c.self.invariant.0 in
    let unchanged = c.in_err-enter_board.ensures.unchanged in
    let same = same_places c.self.inside.pipes c.enter_board.new.pipes unchanged in
    let owed = same_owed c.self.inside.pipes c.enter_board.new.pipes unchanged in (
      rw c.in_ok-reserve_entries.ensures.items (subst (λ pipes. IsKeptBoard g.W.Work.asked g.W.Work.meaning pipes born c.self.inside.log.items) (sym same) c.self.invariant.0),
      rw c.in_ok-reserve_entries.ensures.items c.self.invariant.1,
      omega (arith, c.self.invariant.2, c.in_ok-reserve_entries.ensures.len, c.in_ok-reserve_entries.ensures.capacity),
      subst (λ n. c.self.inside.owed ≡ n + cond c.self.inside.shut 0 1) (sym owed) c.self.invariant.3,
      rw c.in_ok-reserve_entries.ensures.items c.self.invariant.4,
      subst (λ pipes. AreReady pipes c.enter_board.new.ready) (sym same) (queues_others c.self.inside.pipes c.self.inside.ready c.enter_board.new.ready born none c.self.invariant.5 c.in_err-enter_board.ensures.ready),
      subst (λ pipes. IsReadyFor IsChain HasRequest pipes c.enter_board.new.passing) (sym same) (ready_others IsChain HasRequest c.self.inside.pipes c.self.inside.passing c.enter_board.new.passing born none c.self.invariant.6 c.in_err-enter_board.ensures.passing),
    )

pub overflow_add-self-2 : goal.overflow_add-self-2
overflow_add-self-2 g c = omega (arith, few_born c.self.inside.log.items, c.self.invariant.0.count, c.self.inside.log.ok, c.self.inside.log.small)
