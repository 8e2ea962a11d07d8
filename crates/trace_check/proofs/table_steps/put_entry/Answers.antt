use Rattle.std.proofs.Common.{arith, get_or}
use Rattle.alg_registry.specs.Calls.{put_row_of}
use Rattle.trace_check.specs.Registers.{row_of}
use Rattle.trace_check.proofs.Changes.{changed, unchanged, put_is}
use Rattle.trace_check.proofs.table_steps.put_entry.Goals as goal

pub returns-then-place-entries : goal.returns-then-place-entries
returns-then-place-entries c = changed row_of put_row_of c.args.entries.now c.args.id c.index-entries-place.result _ (put_is (get_or c.args.entries.now c.args.id c.index-entries-place.result) _ c.saturating_sub-entry.ensures)

pub returns-else-place-entries : goal.returns-else-place-entries
returns-else-place-entries c = unchanged row_of put_row_of c.args.entries.now c.args.id (omega arith)
