use Rattle.std.proofs.Common.{length}
use Rattle.std.specs.Prelude.{IfOk, IsOk}
use Rattle.client_run.specs.WithWorkers.{printed_by}
use Rattle.client_run.proofs.Gathered.{Gathered}
use Rattle.client_run.proofs.with_workers.put_texts.Given as goal

abbrev pub invariant-loop-out : goal.invariant-loop-out
invariant-loop-out l =
    IsOk l.fn.outs × IfOk l.fn.outs (λ outs. Gathered outs.items l.left.items l.client l.fn.first.reply.text (printed_by l.output) l.fn.first.malformed l.output.malformed)

abbrev pub decreases-loop-out : goal.decreases-loop-out
decreases-loop-out l = length l.left.items
