use Rattle.std.proofs.Common.{◌≡◌, ◌++◌, length, take, drop}
use Rattle.reorder_window.specs.Windows.{taken_of}
use Rattle.reorder_window.specs.Batches.{AddsEach, taken_each, with_taken_each}
use Rattle.reorder_window.proofs.window.Window.take_many.Given as goal

abbrev pub invariant-loop-i : goal.invariant-loop-i
invariant-loop-i g l = record {
  size : length l.out ≡ length l.fn.out;
  rest : drop l.i l.out ≡ drop l.i l.fn.out;
  waiting : l.fn.self.waiting ≡ take l.i l.out ++ l.self.waiting;
  came : l.self ≡ with_taken_each l.fn.self l.worker (take l.i l.out) l.self.waiting;
  stands : AddsEach l.fn.self l.self (taken_each (taken_of l.fn.self) l.worker l.i);
}
