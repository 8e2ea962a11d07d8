use Rattle.std.proofs.Common.{arith, inr, ◌≡◌, ◌+◌, sym, ◌∙◌, ap, subst, refl}
use Rattle.board.specs.declared.entry.BoardEntry.TheVariants.{Enq}
use Rattle.board.specs.Entries.{entries_of, verdict}
use Rattle.board.specs.Allowance.{used_at}
use Rattle.board.specs.Legal.{MaySubmit, IsOpenQueue}
use Rattle.board.specs.Places.{places}
use Rattle.board.proofs.Kept.{shut-same, loan_here, loan_some, set_here}
use Rattle.board.proofs.KeptRoom.{serve_same, pass_same, notes_same, after_same, answer_same, server_same}
use Rattle.board.proofs.KeptCalls.{kept_open, server_here, room_step}
use Rattle.board.specs.Pipelines.{is_accepted, work_after}
use Rattle.board.proofs.KeptRequests.{work_same, few_submissions, few_entries, accepts_is, used_answer, accepted_here, enqueue_step}
use Rattle.board.proofs.KeptRunQueues.{serves, says, says_passing, passing_same, passing_told, enqueued_queue, enqueued_chain}
use Rattle.board.proofs.RunQueuesHold.{chain_same, room_admits, queues_kept, queues_same, queues_asked}
use Rattle.board.proofs.board_core.BoardCore.enqueue.Goals as goal

pub unwrap-place-requires : goal.unwrap-place-requires
unwrap-place-requires g c =
    let open_ : IsOpenQueue (entries_of c.args.pipe c.self.inside.log.items) = subst (λ h. IsOpenQueue (entries_of c.args.pipe h)) (sym c.self.view_is) c.requires.pipe in
    let there = kept_open g.W.Work.asked g.W.Work.meaning (places c.self.inside.pipes) c.self.inside.born c.self.inside.log.items c.args.pipe c.self.invariant.0 (inr open_) in
    loan_some c.get_mut.result (places c.self.inside.pipes c.args.pipe) there.0 c.get_mut.ensures.value there.1

pub invariant_of-self-in_err-make_room : goal.invariant_of-self-in_err-make_room
invariant_of-self-in_err-make_room g c =
    let open_ : IsOpenQueue (entries_of c.args.pipe c.self.inside.log.items) = subst (λ h. IsOpenQueue (entries_of c.args.pipe h)) (sym c.self.view_is) c.requires.pipe in
    let here = loan_here (places c.self.inside.pipes c.args.pipe) c.get_mut.result c.unwrap-place.result c.get_mut.ensures.value c.unwrap-place.ensures in
    let next = c.get_mut.follows.lender c.make_room.new.place in
    let set = set_here c.self.inside.pipes next c.args.pipe c.unwrap-place.result.now c.make_room.new.place here (c.get_mut.follows.holds c.make_room.new.place) in
    let s = room_step g.W.Work.asked g.W.Work.meaning c.self.inside.pipes c.self.inside.born c.self.inside.log.items c.args.pipe c.unwrap-place.result.now c.self.invariant.0 here next c.make_room.new.place set c.in_err-make_room.ensures.same c.in_err-make_room.ensures.placed in (
      rw c.in_ok-reserve_entries.ensures.items s.0,
      rw c.in_ok-reserve_entries.ensures.items c.self.invariant.1,
      omega (arith, c.self.invariant.2, c.in_ok-reserve_entries.ensures.len, c.in_ok-reserve_entries.ensures.capacity),
      omega (arith, s.1, c.self.invariant.3),
      rw c.in_ok-reserve_entries.ensures.items (λ q. c.in_err-make_room.ensures.unspent q ∙ c.self.invariant.4 q),
      queues_same c.self.inside.pipes next c.make_room.new.ready c.args.pipe c.unwrap-place.result.now c.make_room.new.place (queues_kept c.self.inside.pipes c.self.inside.ready c.make_room.new.ready c.self.invariant.5 c.in_err-make_room.ensures.run_queues) set (serve_same c.make_room.new.place.stage c.unwrap-place.result.now.stage c.in_err-make_room.ensures.same.stage) (room_admits c.unwrap-place.result.now c.make_room.new.place c.in_err-make_room.ensures.same),
      passing_same c.self.inside.pipes next c.self.inside.passing c.args.pipe c.unwrap-place.result.now c.make_room.new.place c.self.invariant.6 set (chain_same c.make_room.new.place.stage c.unwrap-place.result.now.stage c.in_err-make_room.ensures.same.stage) (pass_same c.make_room.new.place.stage c.unwrap-place.result.now.stage c.in_err-make_room.ensures.same.stage),
    )

pub enqueue-answer-requires-clause-server : goal.enqueue-answer-requires-clause-server
enqueue-answer-requires-clause-server g c =
    let open_ : IsOpenQueue (entries_of c.args.pipe c.self.inside.log.items) = subst (λ h. IsOpenQueue (entries_of c.args.pipe h)) (sym c.self.view_is) c.requires.pipe in
    let here = loan_here (places c.self.inside.pipes c.args.pipe) c.get_mut.result c.unwrap-place.result c.get_mut.ensures.value c.unwrap-place.ensures in
    server_same c.make_room.new.place.stage c.unwrap-place.result.now.stage c.in_ok-make_room.ensures.same.stage ∙ server_here g.W.Work.asked g.W.Work.meaning c.self.inside.pipes c.self.inside.born c.self.inside.log.items c.args.pipe c.unwrap-place.result.now c.self.invariant.0 here open_.0

pub enqueue-answer-requires-clause-few : goal.enqueue-answer-requires-clause-few
enqueue-answer-requires-clause-few g c =
    let open_ : IsOpenQueue (entries_of c.args.pipe c.self.inside.log.items) = subst (λ h. IsOpenQueue (entries_of c.args.pipe h)) (sym c.self.view_is) c.requires.pipe in
    let here = loan_here (places c.self.inside.pipes c.args.pipe) c.get_mut.result c.unwrap-place.result c.get_mut.ensures.value c.unwrap-place.ensures in
    let a = accepted_here g.W.Work.asked g.W.Work.meaning c.self.inside.pipes c.self.inside.born c.self.inside.log.items c.args.pipe c.unwrap-place.result.now c.self.invariant.0 here c.make_room.new.place c.in_ok-make_room.ensures.same in
    omega (arith, a, few_submissions c.args.pipe c.self.inside.log.items, c.self.inside.log.ok.0, c.self.inside.log.ok.1, c.self.inside.log.small)

pub invariant_of-self-2 : goal.invariant_of-self-2
invariant_of-self-2 g c =
    let open_ : IsOpenQueue (entries_of c.args.pipe c.self.inside.log.items) = subst (λ h. IsOpenQueue (entries_of c.args.pipe h)) (sym c.self.view_is) c.requires.pipe in
    let here = loan_here (places c.self.inside.pipes c.args.pipe) c.get_mut.result c.unwrap-place.result c.get_mut.ensures.value c.unwrap-place.ensures in
    let next = c.get_mut.follows.lender c.enqueue-answer.new.self in
    let set = set_here c.self.inside.pipes next c.args.pipe c.unwrap-place.result.now c.enqueue-answer.new.self here (c.get_mut.follows.holds c.enqueue-answer.new.self) in
    let may : MaySubmit (entries_of c.args.pipe c.self.inside.log.items) c.args.caller = subst (λ h. MaySubmit (entries_of c.args.pipe h) c.args.caller) (sym c.self.view_is) c.requires.caller in
    let answer = c.enqueue-answer.result in
    let e = c.enqueue-answer.ensures.entered ∙ after_same c.make_room.new.place.stage c.unwrap-place.result.now.stage c.args.job answer c.in_ok-make_room.ensures.same.stage in
    let said = c.enqueue-answer.ensures.answer ∙ answer_same c.make_room.new.place.stage c.unwrap-place.result.now.stage c.args.backlog c.in_ok-make_room.ensures.same.stage in
    let noting = notes_same c.unwrap-place.result.now c.make_room.new.place c.enqueue-answer.new.self c.args.caller _ c.in_ok-make_room.ensures.same c.enqueue-answer.ensures.notes in
    let s = enqueue_step g.W.Work.asked g.W.Work.meaning c.self.inside.pipes c.self.inside.born c.self.inside.log.items c.args.pipe c.unwrap-place.result.now c.self.invariant.0 here next c.args.caller c.in_ok-ask.field-0.ask c.enqueue-answer.new.self c.args.job c.args.backlog answer set c.in_ok-ask.ensures.ask said noting e c.enqueue-answer.ensures.placed may open_ in
    let spent = c.accepts-accepted.ensures ∙ (accepts_is c.unwrap-place.result.now.stage c.args.backlog ∙ ap is_accepted (sym said)) in
    let used : c.in_ok-ask.field-0.used ≡ record { requests = (used_at c.self.inside.used c.args.caller).requests + 1; bytes = (used_at c.self.inside.used c.args.caller).bytes + g.W.Work.weight (g.W.Work.asked c.args.job) } = rw (c.self.invariant.4 c.args.caller, c.self.view_is) c.in_ok-ask.ensures.used in
    let more : c.work_entries.result ≡ work_after c.unwrap-place.result.now.stage answer = c.work_entries.ensures ∙ work_same c.enqueue-answer.new.self.stage c.unwrap-place.result.now.stage c.args.job answer e in (
      rw (c.push_reserved.ensures.items, c.in_ok-reserve_entries.ensures.items) s.0,
      rw (c.push_reserved.ensures.items, c.in_ok-reserve_entries.ensures.items) (shut-same c.self.inside.log.items (Enq c.args.caller c.args.pipe c.in_ok-ask.field-0.ask c.args.backlog answer) refl ∙ c.self.invariant.1),
      omega (arith, more, few_entries c.unwrap-place.result.now.stage answer, c.push_reserved.ensures.len, c.push_reserved.ensures.capacity, c.in_ok-reserve_entries.ensures.ok),
      omega (arith, more, s.1, c.self.invariant.3),
      rw (c.push_reserved.ensures.items, c.in_ok-reserve_entries.ensures.items) (used_answer g.W.Work.weight c.self.inside.used c.make_room.new.used c.self.inside.log.items c.args.caller c.args.pipe c.in_ok-ask.field-0.ask c.args.backlog answer (g.W.Work.asked c.args.job) _ c.in_ok-ask.ensures.ask refl c.self.invariant.4 (rw (spent, used) at c.in_ok-make_room.ensures.spent)),
      queues_asked c.self.inside.pipes next c.make_room.new.ready c.update_run_queues.new.ready c.args.pipe c.unwrap-place.result.now c.enqueue-answer.new.self c.args.caller _ c.may_serve-had_job.result c.update_run_queues.ensures.ready.0 (queues_kept c.self.inside.pipes c.self.inside.ready c.make_room.new.ready c.self.invariant.5 c.in_ok-make_room.ensures.run_queues) set c.in_ok-make_room.ensures.joined c.in_ok-make_room.ensures.queued c.update_run_queues.ensures.ready.2 noting (enqueued_queue c.unwrap-place.result.now.stage c.enqueue-answer.new.self.stage c.args.job answer e) (serves c.unwrap-place.result.now.stage c.may_serve-had_job.result c.may_serve-had_job.ensures) (says c.enqueue-answer.new.self.stage c.update_run_queues.ensures.ready.0 c.update_run_queues.ensures.ready.1),
      passing_told c.self.inside.pipes next c.self.inside.passing c.args.pipe c.unwrap-place.result.now c.enqueue-answer.new.self c.self.invariant.6 set c.update_run_queues.new.passing c.update_run_queues.ensures.passing.0 c.update_run_queues.ensures.passing.2 (enqueued_chain c.unwrap-place.result.now.stage c.enqueue-answer.new.self.stage c.args.job answer e) (says_passing c.enqueue-answer.new.self.stage c.update_run_queues.ensures.passing.0 c.update_run_queues.ensures.passing.1),
    )

pub returns-clause-answered : goal.returns-clause-answered
returns-clause-answered g c =
    let open_ : IsOpenQueue (entries_of c.args.pipe c.self.inside.log.items) = subst (λ h. IsOpenQueue (entries_of c.args.pipe h)) (sym c.self.view_is) c.requires.pipe in
    let here = loan_here (places c.self.inside.pipes c.args.pipe) c.get_mut.result c.unwrap-place.result c.get_mut.ensures.value c.unwrap-place.ensures in
    let next = c.get_mut.follows.lender c.enqueue-answer.new.self in
    let set = set_here c.self.inside.pipes next c.args.pipe c.unwrap-place.result.now c.enqueue-answer.new.self here (c.get_mut.follows.holds c.enqueue-answer.new.self) in
    let may : MaySubmit (entries_of c.args.pipe c.self.inside.log.items) c.args.caller = subst (λ h. MaySubmit (entries_of c.args.pipe h) c.args.caller) (sym c.self.view_is) c.requires.caller in
    let answer = c.enqueue-answer.result in
    let e = c.enqueue-answer.ensures.entered ∙ after_same c.make_room.new.place.stage c.unwrap-place.result.now.stage c.args.job answer c.in_ok-make_room.ensures.same.stage in
    let said = c.enqueue-answer.ensures.answer ∙ answer_same c.make_room.new.place.stage c.unwrap-place.result.now.stage c.args.backlog c.in_ok-make_room.ensures.same.stage in
    let noting = notes_same c.unwrap-place.result.now c.make_room.new.place c.enqueue-answer.new.self c.args.caller _ c.in_ok-make_room.ensures.same c.enqueue-answer.ensures.notes in
    let s = enqueue_step g.W.Work.asked g.W.Work.meaning c.self.inside.pipes c.self.inside.born c.self.inside.log.items c.args.pipe c.unwrap-place.result.now c.self.invariant.0 here next c.args.caller c.in_ok-ask.field-0.ask c.enqueue-answer.new.self c.args.job c.args.backlog answer set c.in_ok-ask.ensures.ask said noting e c.enqueue-answer.ensures.placed may open_ in (
      subst (λ h. answer ≡ verdict (entries_of c.args.pipe h) c.args.backlog) c.self.view_is s.2,
      (
        c.in_ok-ask.field-0.ask,
        c.in_ok-ask.ensures.ask,
        rw (c.push_reserved.ensures.items, c.in_ok-reserve_entries.ensures.items, c.self.view_is) refl,
      ),
    )

pub returns-clause-legal : goal.returns-clause-legal
returns-clause-legal g c = (invariant_of-self-2 g c).0.legal
