use Rattle.std.proofs.Common.{arith, refl}
use Rattle.alg_registry.specs.Calls.{unlisted_row}
use Rattle.trace_check.specs.Registers.{row_of}
use Rattle.trace_check.proofs.Changes.{changed, unchanged}
use Rattle.trace_check.proofs.table_steps.unlist_entry.Goals as goal

pub returns-then-place-entries : goal.returns-then-place-entries
returns-then-place-entries c = changed row_of unlisted_row c.args.entries.now c.args.id c.index-entries-place.result _ refl

pub returns-else-place-entries : goal.returns-else-place-entries
returns-else-place-entries c = unchanged row_of unlisted_row c.args.entries.now c.args.id (omega arith)
