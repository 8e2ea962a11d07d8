use Rattle.std.proofs.Common.{◌≡◌}
use Rattle.pipeline_tests.proofs.served_queue.a_held_queue_serves_its_backlog_in_order.Given as goal

-- none is passed on
abbrev pub invariant-loop : goal.invariant-loop
invariant-loop g l = l.queue.passed ≡ 0
