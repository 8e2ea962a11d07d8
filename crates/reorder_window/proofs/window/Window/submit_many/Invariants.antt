use Rattle.std.proofs.Common.{◌≡◌, ◌++◌, take}
use Rattle.reorder_window.specs.Windows.{submitted_of}
use Rattle.reorder_window.specs.Batches.{AddsEach, submitted_each}
use Rattle.reorder_window.proofs.window.Window.submit_many.Given as goal

abbrev pub invariant-loop-i : goal.invariant-loop-i
invariant-loop-i g l = record {
  came : l.self ≡ record l.fn.self { waiting = l.fn.self.waiting ++ take l.i l.requests };
  stands : AddsEach l.fn.self l.self (submitted_each (submitted_of l.fn.self) (take l.i l.requests));
}
