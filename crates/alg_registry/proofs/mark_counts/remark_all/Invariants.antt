use Rattle.std.proofs.Common.{◌≡◌, length, drop}
use Rattle.alg_registry.specs.MarkCounts.{remarked_all}
use Rattle.alg_registry.proofs.mark_counts.remark_all.Given as goal

-- those that are left give what all give
abbrev pub invariant-loop-id : goal.invariant-loop-id
invariant-loop-id l = record {
  same : length l.rows ≡ length l.fn.rows;
  marks : remarked_all (drop l.id-index l.held) l.rows ≡ remarked_all l.held l.fn.rows;
}
