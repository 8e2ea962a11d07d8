use Rattle.std.proofs.Common.{◌≡◌, ◌<◌, ◌≤◌}
use Rattle.reorder_window.specs.Batches.{AddsEach, finished_each, with_finished_each}
use Rattle.reorder_window.proofs.window.Window.finish_many.Given as goal

abbrev pub invariant-loop-i : goal.invariant-loop-i
invariant-loop-i g l = record {
  above : 0 < l.i → l.fn.self.polled ≤ l.first;
  came : l.self ≡ with_finished_each l.fn.self l.first l.i;
  stands : AddsEach l.fn.self l.self (finished_each l.first l.worker l.i);
}
