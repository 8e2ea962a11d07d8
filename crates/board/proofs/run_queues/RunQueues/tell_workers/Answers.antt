use Rattle.std.proofs.Common.{arith, ◌≡◌, ◌≤◌, ◌+◌}
use Rattle.board.specs.Entries.{IsMasked}
use Rattle.board.proofs.RunQueuesMade.{own_same, own_less, own_on, next_masked}
use Rattle.board.proofs.run_queues.RunQueues.tell_workers.Goals as goal

pub loop-before-init : goal.loop-before-init
loop-before-init c = own_same c.args.pipe c.args.has_job _ c.args.self.now (λ n h. (let up = h.1 in let from = h.0.0 in absurd (omega arith)))

pub loop-before-preserved : goal.loop-before-preserved
loop-before-preserved c =
    let b = c.loop-before.before in
    own_on c.args.pipe c.args.has_job (λ n. IsMasked c.args.mask n × (n ≤ b + 1)) (λ n. IsMasked c.args.mask n × (n ≤ b)) (λ n. (n ≡ b + 1) × IsMasked c.args.mask n) c.args.self.now c.loop-before.self c.tell_worker.new.self
    (λ n h. next_masked c.args.mask b n h) c.loop-before.invariant c.tell_worker.ensures

pub returns : goal.returns
returns c =
    own_less c.args.pipe c.args.has_job _ (λ n. IsMasked c.args.mask n × (n ≤ c.loop-before.before)) c.args.self.now c.loop-before.self
    (λ n m. (m, (let w = m.1 in let e = c.loop-before-test.false in omega arith))) c.loop-before.invariant
