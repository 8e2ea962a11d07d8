use Rattle.std.proofs.Common.{◌≡◌, ◌≤◌, Some, sym, subst}
use Rattle.std.specs.Prelude.{slice_get}
use Rattle.board.specs.RunQueue.{KeepsPipe}
use Rattle.board.proofs.Queued.{found_place, same_number, left_keeps}
use Rattle.board.proofs.run_queue.RunQueue.leave.Goals as goal

pub returns-in-Some : goal.returns-in-Some
returns-in-Some c = record {
  others = λ p n.
      (let found = found_place c.self.inside.members.keys c.args.pipe c.in-Some.place (sym c.in-Some.ensures.index) in
      let here = subst (λ queue. slice_get queue.members c.in-Some.place ≡ Some c.args.pipe) c.self.view_is found in
      let kept = c.take_out-last.ensures.others p (λ e. n (same_number (slice_get c.args.self.now.members c.in-Some.place) p c.args.pipe e here)) in
      let last = subst (λ queue. slice_get queue.members c.take_out-last.result ≡ Some c.args.pipe) (sym c.self-in-Some.view_is) (c.take_out-last.ensures.moved c.args.pipe here) in
      let behind = subst (λ queue. queue.ready ≤ c.take_out-last.result) (sym c.self-in-Some.view_is) c.take_out-last.ensures.behind in
      let left = left_keeps c.self-in-Some.inside.members.keys c.swap_remove_index.new.self.keys c.self-in-Some.inside.ready c.take_out-last.result c.args.pipe c.swap_remove_index.result last c.swap_remove_index.ensures.key c.swap_remove_index.ensures.keys behind p n in
      let kept2 = subst (λ queue. KeepsPipe c.args.self.now queue p) (sym c.self-in-Some.view_is) kept in
      (λ m. left.0 (kept2.0 m), λ s. left.1 (kept2.1 s)));
}
