use Rattle.std.proofs.Common.{◌≡◌, ◌+◌, ◌≤◌, length, map, take, drop, true}
use Rattle.std.specs.List.{All}
use Rattle.reorder_window.specs.History.{request_of}
use Rattle.reorder_window.specs.Batches.{AddsEach, polled_each}
use Rattle.reorder_window.proofs.window.Window.poll_many.Given as goal

abbrev pub invariant-loop-i : goal.invariant-loop-i
invariant-loop-i g l = record {
  size : length l.out ≡ length l.fn.out;
  rest : drop l.i l.out ≡ drop l.i l.fn.out;
  within : l.i ≤ length l.fn.self.running;
  polled : map request_of (take l.i l.fn.self.running) ≡ take l.i l.out;
  done : All (λ x. x.is_done ≡ true) (take l.i l.fn.self.running);
  came : l.self ≡ record l.fn.self { polled = l.fn.self.polled + l.i; running = drop l.i l.fn.self.running };
  stands : AddsEach l.fn.self l.self (polled_each l.fn.self.polled (take l.i l.out));
}
