use Rattle.std.proofs.Common.{arith, inl, true, ◌≡◌, ◌+◌, ◌<◌, length, Some, sym, ◌∙◌, ap, subst, refl}
use Rattle.board.specs.declared.entry.BoardEntry.TheVariants.{Submit}
use Rattle.board.specs.Entries.{entries_of, submissions, mask}
use Rattle.board.specs.Allowance.{used_at}
use Rattle.board.specs.Legal.{MaySubmit, IsOpenPad}
use Rattle.board.proofs.KeptUsed.{used_more}
use Rattle.board.specs.Places.{places}
use Rattle.board.proofs.Kept.{shut-same, loan_here, loan_some, set_here}
use Rattle.board.proofs.KeptRoom.{serve_same, pass_same, notes_same, job_same, is_pad_same}
use Rattle.board.proofs.KeptCalls.{kept_open, pad_here, room_step}
use Rattle.board.proofs.KeptRequests.{few_submissions, accepted_here, mask_here, submit_step, job_passes}
use Rattle.board.proofs.KeptRunQueues.{serves, passing_same, submitted_queue, submitted_chain}
use Rattle.board.proofs.RunQueuesHold.{chain_same, room_admits, queues_kept, queues_same, queues_asked}
use Rattle.board.proofs.board_core.BoardCore.submit.Goals as goal

pub unwrap-place-requires : goal.unwrap-place-requires
unwrap-place-requires g c =
    let open_ : IsOpenPad (entries_of c.args.pipe c.self.inside.log.items) = subst (λ h. IsOpenPad (entries_of c.args.pipe h)) (sym c.self.view_is) c.requires.pipe in
    let there = kept_open g.W.Work.asked g.W.Work.meaning (places c.self.inside.pipes) c.self.inside.born c.self.inside.log.items c.args.pipe c.self.invariant.0 (inl open_) in
    loan_some c.get_mut.result (places c.self.inside.pipes c.args.pipe) there.0 c.get_mut.ensures.value there.1

pub invariant_of-self-in_err-make_room : goal.invariant_of-self-in_err-make_room
invariant_of-self-in_err-make_room g c =
    let open_ : IsOpenPad (entries_of c.args.pipe c.self.inside.log.items) = subst (λ h. IsOpenPad (entries_of c.args.pipe h)) (sym c.self.view_is) c.requires.pipe in
    let here = loan_here (places c.self.inside.pipes c.args.pipe) c.get_mut.result c.unwrap-place.result c.get_mut.ensures.value c.unwrap-place.ensures in
    let next = c.get_mut.follows.lender c.make_room.new.place in
    let set = set_here c.self.inside.pipes next c.args.pipe c.unwrap-place.result.now c.make_room.new.place here (c.get_mut.follows.holds c.make_room.new.place) in
    let s = room_step g.W.Work.asked g.W.Work.meaning c.self.inside.pipes c.self.inside.born c.self.inside.log.items c.args.pipe c.unwrap-place.result.now c.self.invariant.0 here next c.make_room.new.place set c.in_err-make_room.ensures.same c.in_err-make_room.ensures.placed in (
      rw c.in_ok-reserve_entries.ensures.items s.0,
      rw c.in_ok-reserve_entries.ensures.items c.self.invariant.1,
      omega (arith, c.self.invariant.2, c.in_ok-reserve_entries.ensures.len, c.in_ok-reserve_entries.ensures.capacity),
      omega (arith, s.1, c.self.invariant.3),
      rw c.in_ok-reserve_entries.ensures.items (λ q. c.in_err-make_room.ensures.unspent q ∙ c.self.invariant.4 q),
      queues_same c.self.inside.pipes next c.make_room.new.ready c.args.pipe c.unwrap-place.result.now c.make_room.new.place (queues_kept c.self.inside.pipes c.self.inside.ready c.make_room.new.ready c.self.invariant.5 c.in_err-make_room.ensures.run_queues) set (serve_same c.make_room.new.place.stage c.unwrap-place.result.now.stage c.in_err-make_room.ensures.same.stage) (room_admits c.unwrap-place.result.now c.make_room.new.place c.in_err-make_room.ensures.same),
      passing_same c.self.inside.pipes next c.self.inside.passing c.args.pipe c.unwrap-place.result.now c.make_room.new.place c.self.invariant.6 set (chain_same c.make_room.new.place.stage c.unwrap-place.result.now.stage c.in_err-make_room.ensures.same.stage) (pass_same c.make_room.new.place.stage c.unwrap-place.result.now.stage c.in_err-make_room.ensures.same.stage),
    )

pub submit-number-requires-clause-pad : goal.submit-number-requires-clause-pad
submit-number-requires-clause-pad g c =
    let open_ : IsOpenPad (entries_of c.args.pipe c.self.inside.log.items) = subst (λ h. IsOpenPad (entries_of c.args.pipe h)) (sym c.self.view_is) c.requires.pipe in
    let here = loan_here (places c.self.inside.pipes c.args.pipe) c.get_mut.result c.unwrap-place.result c.get_mut.ensures.value c.unwrap-place.ensures in
    is_pad_same c.make_room.new.place.stage c.unwrap-place.result.now.stage c.in_ok-make_room.ensures.same.stage ∙ pad_here g.W.Work.asked g.W.Work.meaning c.self.inside.pipes c.self.inside.born c.self.inside.log.items c.args.pipe c.unwrap-place.result.now c.self.invariant.0 here open_.0

pub submit-number-requires-clause-few : goal.submit-number-requires-clause-few
submit-number-requires-clause-few g c =
    let open_ : IsOpenPad (entries_of c.args.pipe c.self.inside.log.items) = subst (λ h. IsOpenPad (entries_of c.args.pipe h)) (sym c.self.view_is) c.requires.pipe in
    let here = loan_here (places c.self.inside.pipes c.args.pipe) c.get_mut.result c.unwrap-place.result c.get_mut.ensures.value c.unwrap-place.ensures in
    let a = accepted_here g.W.Work.asked g.W.Work.meaning c.self.inside.pipes c.self.inside.born c.self.inside.log.items c.args.pipe c.unwrap-place.result.now c.self.invariant.0 here c.make_room.new.place c.in_ok-make_room.ensures.same in
    omega (arith, a, few_submissions c.args.pipe c.self.inside.log.items, c.self.inside.log.ok.0, c.self.inside.log.ok.1, c.self.inside.log.small)

pub invariant_of-self-2 : goal.invariant_of-self-2
invariant_of-self-2 g c =
    let open_ : IsOpenPad (entries_of c.args.pipe c.self.inside.log.items) = subst (λ h. IsOpenPad (entries_of c.args.pipe h)) (sym c.self.view_is) c.requires.pipe in
    let here = loan_here (places c.self.inside.pipes c.args.pipe) c.get_mut.result c.unwrap-place.result c.get_mut.ensures.value c.unwrap-place.ensures in
    let next = c.get_mut.follows.lender c.submit-number.new.self in
    let set = set_here c.self.inside.pipes next c.args.pipe c.unwrap-place.result.now c.submit-number.new.self here (c.get_mut.follows.holds c.submit-number.new.self) in
    let may : MaySubmit (entries_of c.args.pipe c.self.inside.log.items) c.args.caller = subst (λ h. MaySubmit (entries_of c.args.pipe h) c.args.caller) (sym c.self.view_is) c.requires.caller in
    let e = c.submit-number.ensures.submitted ∙ job_same c.make_room.new.place.stage c.unwrap-place.result.now.stage c.args.job c.in_ok-make_room.ensures.same.stage in
    let n = c.submit-number.ensures.number ∙ accepted_here g.W.Work.asked g.W.Work.meaning c.self.inside.pipes c.self.inside.born c.self.inside.log.items c.args.pipe c.unwrap-place.result.now c.self.invariant.0 here c.make_room.new.place c.in_ok-make_room.ensures.same in
    let noting = notes_same c.unwrap-place.result.now c.make_room.new.place c.submit-number.new.self c.args.caller _ c.in_ok-make_room.ensures.same c.submit-number.ensures.notes in
    let m : mask (entries_of c.args.pipe c.args.self.now) ≡ c.unwrap-place.result.now.mask = subst (λ h. mask (entries_of c.args.pipe h) ≡ c.unwrap-place.result.now.mask) c.self.view_is (mask_here g.W.Work.asked g.W.Work.meaning c.self.inside.pipes c.self.inside.born c.self.inside.log.items c.args.pipe c.unwrap-place.result.now c.self.invariant.0 here) in
    let some : 0 < c.unwrap-place.result.now.mask = subst (λ n. 0 < n) m c.in_ok-ask.ensures.masked in
    let used : c.in_ok-ask.field-0.used ≡ record { requests = (used_at c.self.inside.used c.args.caller).requests + 1; bytes = (used_at c.self.inside.used c.args.caller).bytes + g.W.Work.weight (g.W.Work.asked c.args.job) } = rw (c.self.invariant.4 c.args.caller, c.self.view_is) c.in_ok-ask.ensures.used in
    let s = submit_step g.W.Work.asked g.W.Work.meaning c.self.inside.pipes c.self.inside.born c.self.inside.log.items c.args.pipe c.unwrap-place.result.now c.self.invariant.0 here next c.submit-number.result c.args.caller c.in_ok-ask.field-0.ask c.submit-number.new.self c.args.job set c.in_ok-ask.ensures.ask noting e may open_ n some in (
      rw (c.push_reserved.ensures.items, c.in_ok-reserve_entries.ensures.items) s.0,
      rw (c.push_reserved.ensures.items, c.in_ok-reserve_entries.ensures.items) (shut-same c.self.inside.log.items (Submit c.args.caller c.args.pipe c.submit-number.result c.in_ok-ask.field-0.ask) refl ∙ c.self.invariant.1),
      omega (arith, c.push_reserved.ensures.len, c.push_reserved.ensures.capacity, c.in_ok-reserve_entries.ensures.ok),
      omega (arith, s.1, c.self.invariant.3),
      rw (c.push_reserved.ensures.items, c.in_ok-reserve_entries.ensures.items) (used_more g.W.Work.weight c.self.inside.used c.make_room.new.used c.self.inside.log.items (Submit c.args.caller c.args.pipe c.submit-number.result c.in_ok-ask.field-0.ask) (g.W.Work.asked c.args.job) _ (ap Some c.in_ok-ask.ensures.ask) refl c.self.invariant.4 (rw used at c.in_ok-make_room.ensures.spent)),
      queues_asked c.self.inside.pipes next c.make_room.new.ready c.set_ready.new.self c.args.pipe c.unwrap-place.result.now c.submit-number.new.self c.args.caller true c.may_serve-had_job.result true (queues_kept c.self.inside.pipes c.self.inside.ready c.make_room.new.ready c.self.invariant.5 c.in_ok-make_room.ensures.run_queues) set c.in_ok-make_room.ensures.joined c.in_ok-make_room.ensures.queued c.set_ready.ensures noting (submitted_queue c.unwrap-place.result.now.stage c.submit-number.new.self.stage c.args.job e) (serves c.unwrap-place.result.now.stage c.may_serve-had_job.result c.may_serve-had_job.ensures) (λ m. refl),
      passing_same c.self.inside.pipes next c.self.inside.passing c.args.pipe c.unwrap-place.result.now c.submit-number.new.self c.self.invariant.6 set (submitted_chain c.unwrap-place.result.now.stage c.submit-number.new.self.stage c.args.job e) (job_passes c.unwrap-place.result.now.stage c.submit-number.new.self.stage c.args.job e),
    )

pub returns-clause-submitted : goal.returns-clause-submitted
returns-clause-submitted g c =
    let open_ : IsOpenPad (entries_of c.args.pipe c.self.inside.log.items) = subst (λ h. IsOpenPad (entries_of c.args.pipe h)) (sym c.self.view_is) c.requires.pipe in
    let here = loan_here (places c.self.inside.pipes c.args.pipe) c.get_mut.result c.unwrap-place.result c.get_mut.ensures.value c.unwrap-place.ensures in
    let a = accepted_here g.W.Work.asked g.W.Work.meaning c.self.inside.pipes c.self.inside.born c.self.inside.log.items c.args.pipe c.unwrap-place.result.now c.self.invariant.0 here c.make_room.new.place c.in_ok-make_room.ensures.same in (
      subst (λ h. c.submit-number.result ≡ length (submissions (entries_of c.args.pipe h))) c.self.view_is (c.submit-number.ensures.number ∙ a),
      (
        c.in_ok-ask.field-0.ask,
        c.in_ok-ask.ensures.ask,
        rw (c.push_reserved.ensures.items, c.in_ok-reserve_entries.ensures.items, c.self.view_is) refl,
      ),
    )

pub returns-clause-legal : goal.returns-clause-legal
returns-clause-legal g c = (invariant_of-self-2 g c).0.legal
