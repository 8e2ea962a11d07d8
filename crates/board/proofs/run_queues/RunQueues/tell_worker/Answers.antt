use Rattle.std.proofs.Common.{◌≡◌}
use Rattle.board.proofs.RunQueuesMade.{own_less}
use Rattle.board.proofs.run_queues.RunQueues.tell_worker.Goals as goal

pub returns-then-is_masked : goal.returns-then-is_masked
returns-then-is_masked c = own_less c.args.pipe c.args.has_job _ (λ n. n ≡ c.args.worker) c.args.self.now c.tell_one.new.self (λ n h. h.0) c.tell_one.ensures
