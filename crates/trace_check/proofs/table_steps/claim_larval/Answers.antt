use Rattle.std.proofs.Common.{arith, refl}
use Rattle.alg_registry.specs.Calls.{claimed_larval}
use Rattle.trace_check.specs.Registers.{larval_of}
use Rattle.trace_check.proofs.Changes.{changed, unchanged}
use Rattle.trace_check.proofs.table_steps.claim_larval.Goals as goal

pub returns-then-place-larvals : goal.returns-then-place-larvals
returns-then-place-larvals c = changed larval_of (claimed_larval c.args.caller) c.args.larvals.now c.args.number c.index-larvals-place.result _ refl

pub returns-else-place-larvals : goal.returns-else-place-larvals
returns-else-place-larvals c = unchanged larval_of (claimed_larval c.args.caller) c.args.larvals.now c.args.number (omega arith)
