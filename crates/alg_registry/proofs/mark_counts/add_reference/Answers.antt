use Rattle.std.proofs.Common.{arith}
use Rattle.alg_registry.proofs.Tallies.{referred-at, referred-beyond}
use Rattle.alg_registry.proofs.mark_counts.add_reference.Goals as goal

pub returns-then-place-rows : goal.returns-then-place-rows
returns-then-place-rows c = referred-at c.args.id c.args.rows.now c.index-rows-place.result (omega arith)

pub returns-else-place-rows : goal.returns-else-place-rows
returns-else-place-rows c = referred-beyond c.args.id c.args.rows.now (omega arith)
