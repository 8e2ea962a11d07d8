use Rattle.std.proofs.Common.{arith, ◌≡◌, ◌∷◌, ◌++◌, [], ap, Some, false, sym, ◌∙◌, subst, refl}
use Rattle.board.specs.declared.entry.BoardEntry.{BoardEntry}
use Rattle.board.specs.Stages.{is_queue}
use Rattle.board.specs.Entries.{entries_of, takers, finished, has, meaning_at, submissions, finish_entry}
use Rattle.board.proofs.KeptRunQueues.{serves, says, passing_same, finished_chain}
use Rattle.board.proofs.KeptUsed.{used_same}
use Rattle.board.specs.Places.{places}
use Rattle.board.proofs.Kept.{shut-same, loan_here, loan_some, set_here}
use Rattle.board.proofs.KeptFinish.{ended_is_queue, job_ended, ended_made, ended_quiet, finish_may, finish_step, finish_entry_is, finish_passes, runs_here}
use Rattle.board.proofs.RunQueuesHold.{admits_same, queues_told}
use Rattle.board.proofs.board_core.BoardCore.finish.Goals as goal

pub unwrap-place-requires : goal.unwrap-place-requires
unwrap-place-requires g c =
    let k = c.self.invariant.0 in
    let t = subst (λ h. takers c.slip.inside.number (entries_of c.slip.inside.pipe h) ≡ c.args.caller ∷ []) (sym c.self.view_is) (subst (λ s. takers s.number (entries_of s.pipe c.args.self.now) ≡ c.args.caller ∷ []) (sym c.slip.view_is) c.requires.took) in
    let f = subst (λ h. has c.slip.inside.number (finished (entries_of c.slip.inside.pipe h)) ≡ false) (sym c.self.view_is) (subst (λ s. has s.number (finished (entries_of s.pipe c.args.self.now)) ≡ false) (sym c.slip.view_is) c.requires.once) in
    let there = runs_here g.W.Work.asked g.W.Work.meaning (places c.self.inside.pipes) c.self.inside.born c.self.inside.log.items c.slip.inside.pipe c.slip.inside.number c.args.caller k t f in
    loan_some c.get_mut.result (places c.self.inside.pipes c.slip.inside.pipe) there.0 c.get_mut.ensures.value there.1

pub finish-requires : goal.finish-requires
finish-requires g c =
    let k = c.self.invariant.0 in
    let pipe = c.unwrap-place.result.now in
    let t = subst (λ h. takers c.slip.inside.number (entries_of c.slip.inside.pipe h) ≡ c.args.caller ∷ []) (sym c.self.view_is) (subst (λ s. takers s.number (entries_of s.pipe c.args.self.now) ≡ c.args.caller ∷ []) (sym c.slip.view_is) c.requires.took) in
    let f = subst (λ h. has c.slip.inside.number (finished (entries_of c.slip.inside.pipe h)) ≡ false) (sym c.self.view_is) (subst (λ s. has s.number (finished (entries_of s.pipe c.args.self.now)) ≡ false) (sym c.slip.view_is) c.requires.once) in
    let o = subst (λ h. meaning_at g.W.Work.meaning (submissions (entries_of c.slip.inside.pipe h)) c.slip.inside.number ≡ Some c.args.out) (sym c.self.view_is) (subst (λ s. meaning_at g.W.Work.meaning (submissions (entries_of s.pipe c.args.self.now)) s.number ≡ Some c.args.out) (sym c.slip.view_is) c.requires.right) in
    let here = loan_here (places c.self.inside.pipes c.slip.inside.pipe) c.get_mut.result c.unwrap-place.result c.get_mut.ensures.value c.unwrap-place.ensures in
    (finish_may g.W.Work.asked g.W.Work.meaning c.self.inside.pipes c.self.inside.born c.self.inside.log.items c.slip.inside.pipe c.slip.inside.number c.args.caller c.args.out pipe k here t f o).may

pub push_reserved-requires : goal.push_reserved-requires
push_reserved-requires g c =
    let k = c.self.invariant.0 in
    let pipe = c.unwrap-place.result.now in
    let t = subst (λ h. takers c.slip.inside.number (entries_of c.slip.inside.pipe h) ≡ c.args.caller ∷ []) (sym c.self.view_is) (subst (λ s. takers s.number (entries_of s.pipe c.args.self.now) ≡ c.args.caller ∷ []) (sym c.slip.view_is) c.requires.took) in
    let f = subst (λ h. has c.slip.inside.number (finished (entries_of c.slip.inside.pipe h)) ≡ false) (sym c.self.view_is) (subst (λ s. has s.number (finished (entries_of s.pipe c.args.self.now)) ≡ false) (sym c.slip.view_is) c.requires.once) in
    let o = subst (λ h. meaning_at g.W.Work.meaning (submissions (entries_of c.slip.inside.pipe h)) c.slip.inside.number ≡ Some c.args.out) (sym c.self.view_is) (subst (λ s. meaning_at g.W.Work.meaning (submissions (entries_of s.pipe c.args.self.now)) s.number ≡ Some c.args.out) (sym c.slip.view_is) c.requires.right) in
    let here = loan_here (places c.self.inside.pipes c.slip.inside.pipe) c.get_mut.result c.unwrap-place.result c.get_mut.ensures.value c.unwrap-place.ensures in
    let next = c.get_mut.follows.lender (record pipe { stage = c.finish.new.self }) in
    let set = set_here c.self.inside.pipes next c.slip.inside.pipe pipe (record pipe { stage = c.finish.new.self }) here (c.get_mut.follows.holds (record pipe { stage = c.finish.new.self })) in
    let s = finish_step g.W.Work.asked g.W.Work.meaning c.self.inside.pipes c.self.inside.born c.self.inside.log.items c.slip.inside.pipe c.slip.inside.number c.args.caller c.args.out pipe c.finish.new.self next k set t f o c.finish.ensures in
    omega (arith, s.1, c.self.invariant.2, c.self.invariant.3)

pub overflow_sub-self : goal.overflow_sub-self
overflow_sub-self g c =
    let k = c.self.invariant.0 in
    let pipe = c.unwrap-place.result.now in
    let t = subst (λ h. takers c.slip.inside.number (entries_of c.slip.inside.pipe h) ≡ c.args.caller ∷ []) (sym c.self.view_is) (subst (λ s. takers s.number (entries_of s.pipe c.args.self.now) ≡ c.args.caller ∷ []) (sym c.slip.view_is) c.requires.took) in
    let f = subst (λ h. has c.slip.inside.number (finished (entries_of c.slip.inside.pipe h)) ≡ false) (sym c.self.view_is) (subst (λ s. has s.number (finished (entries_of s.pipe c.args.self.now)) ≡ false) (sym c.slip.view_is) c.requires.once) in
    let o = subst (λ h. meaning_at g.W.Work.meaning (submissions (entries_of c.slip.inside.pipe h)) c.slip.inside.number ≡ Some c.args.out) (sym c.self.view_is) (subst (λ s. meaning_at g.W.Work.meaning (submissions (entries_of s.pipe c.args.self.now)) s.number ≡ Some c.args.out) (sym c.slip.view_is) c.requires.right) in
    let here = loan_here (places c.self.inside.pipes c.slip.inside.pipe) c.get_mut.result c.unwrap-place.result c.get_mut.ensures.value c.unwrap-place.ensures in
    let next = c.get_mut.follows.lender (record pipe { stage = c.finish.new.self }) in
    let set = set_here c.self.inside.pipes next c.slip.inside.pipe pipe (record pipe { stage = c.finish.new.self }) here (c.get_mut.follows.holds (record pipe { stage = c.finish.new.self })) in
    let s = finish_step g.W.Work.asked g.W.Work.meaning c.self.inside.pipes c.self.inside.born c.self.inside.log.items c.slip.inside.pipe c.slip.inside.number c.args.caller c.args.out pipe c.finish.new.self next k set t f o c.finish.ensures in
    omega (arith, s.1, c.self.invariant.3)

pub invariant_of-self : goal.invariant_of-self
invariant_of-self g c =
    let k = c.self.invariant.0 in
    let pipe = c.unwrap-place.result.now in
    let t = subst (λ h. takers c.slip.inside.number (entries_of c.slip.inside.pipe h) ≡ c.args.caller ∷ []) (sym c.self.view_is) (subst (λ s. takers s.number (entries_of s.pipe c.args.self.now) ≡ c.args.caller ∷ []) (sym c.slip.view_is) c.requires.took) in
    let f = subst (λ h. has c.slip.inside.number (finished (entries_of c.slip.inside.pipe h)) ≡ false) (sym c.self.view_is) (subst (λ s. has s.number (finished (entries_of s.pipe c.args.self.now)) ≡ false) (sym c.slip.view_is) c.requires.once) in
    let o = subst (λ h. meaning_at g.W.Work.meaning (submissions (entries_of c.slip.inside.pipe h)) c.slip.inside.number ≡ Some c.args.out) (sym c.self.view_is) (subst (λ s. meaning_at g.W.Work.meaning (submissions (entries_of s.pipe c.args.self.now)) s.number ≡ Some c.args.out) (sym c.slip.view_is) c.requires.right) in
    let here = loan_here (places c.self.inside.pipes c.slip.inside.pipe) c.get_mut.result c.unwrap-place.result c.get_mut.ensures.value c.unwrap-place.ensures in
    let next = c.get_mut.follows.lender (record pipe { stage = c.finish.new.self }) in
    let set = set_here c.self.inside.pipes next c.slip.inside.pipe pipe (record pipe { stage = c.finish.new.self }) here (c.get_mut.follows.holds (record pipe { stage = c.finish.new.self })) in
    let s = finish_step g.W.Work.asked g.W.Work.meaning c.self.inside.pipes c.self.inside.born c.self.inside.log.items c.slip.inside.pipe c.slip.inside.number c.args.caller c.args.out pipe c.finish.new.self next k set t f o c.finish.ensures in
    let made = c.finish_entry-entry.ensures ∙ ended_made pipe.stage c.finish.new.self c.args.caller c.slip.inside.pipe c.slip.inside.number c.args.out (is_queue c.finish.new.self) refl c.finish.ensures in
    let e : BoardEntry g.row.W-Ask.Denot = job_ended pipe.stage c.args.caller c.slip.inside.pipe c.slip.inside.number in
    let q = ended_quiet g.row.W-Ask.Denot pipe.stage c.args.caller c.slip.inside.pipe c.slip.inside.number in (
      rw (c.push_reserved.ensures.items, made) s.0,
      rw (c.push_reserved.ensures.items, made) (shut-same c.self.inside.log.items e q.0 ∙ c.self.invariant.1),
      omega (arith, s.1, c.self.invariant.2, c.self.invariant.3, c.push_reserved.ensures.len, c.push_reserved.ensures.capacity),
      omega (arith, s.1, c.self.invariant.3),
      rw (c.push_reserved.ensures.items, made) (used_same g.W.Work.weight c.self.inside.used c.self.inside.log.items e q.1 c.self.invariant.4),
      queues_told c.self.inside.pipes next c.self.inside.ready c.set_ready.new.self c.slip.inside.pipe pipe (record pipe { stage = c.finish.new.self }) c.may_serve-had_job.result c.may_serve-has_job.result c.self.invariant.5 set c.set_ready.ensures (admits_same pipe (record pipe { stage = c.finish.new.self }) refl refl refl (ap is_queue c.finish.ensures ∙ ended_is_queue pipe.stage c.slip.inside.number c.args.out)) (serves pipe.stage c.may_serve-had_job.result c.may_serve-had_job.ensures) (says c.finish.new.self c.may_serve-has_job.result c.may_serve-has_job.ensures),
      passing_same c.self.inside.pipes next c.self.inside.passing c.slip.inside.pipe pipe (record pipe { stage = c.finish.new.self }) c.self.invariant.6 set (finished_chain pipe.stage c.finish.new.self c.slip.inside.number c.args.out c.finish.ensures) (finish_passes pipe.stage c.finish.new.self c.slip.inside.number c.args.out c.finish.ensures),
    )

pub returns-clause-finished : goal.returns-clause-finished
returns-clause-finished g c =
    let pipe = c.unwrap-place.result.now in
    let log = c.self.inside.log.items in
    let p = c.slip.inside.pipe in
    let n = c.slip.inside.number in
    let here = loan_here (places c.self.inside.pipes p) c.get_mut.result c.unwrap-place.result c.get_mut.ensures.value c.unwrap-place.ensures in
    let made = c.finish_entry-entry.ensures ∙ ended_made pipe.stage c.finish.new.self c.args.caller p n c.args.out (is_queue c.finish.new.self) refl c.finish.ensures in
    let named = finish_entry_is g.W.Work.asked g.W.Work.meaning log pipe c.args.caller p n (c.self.invariant.0.each p pipe here) in
    let after = c.push_reserved.new.self.items in
    let all : after ≡ log ++ finish_entry log c.args.caller p n ∷ [] = c.push_reserved.ensures.items ∙ ap (λ e. log ++ e ∷ []) (made ∙ named) in
    subst (λ s. after ≡ c.args.self.now ++ finish_entry c.args.self.now c.args.caller s.pipe s.number ∷ []) c.slip.view_is (subst (λ h. after ≡ h ++ finish_entry h c.args.caller p n ∷ []) c.self.view_is all)

pub returns-clause-legal : goal.returns-clause-legal
returns-clause-legal g c = (invariant_of-self g c).0.legal
