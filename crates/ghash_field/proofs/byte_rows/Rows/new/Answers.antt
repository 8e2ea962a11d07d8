use Rattle.ghash_field.proofs.LaneRows.{rows_are}
use Rattle.ghash_field.proofs.byte_rows.Rows.new.Goals as goal

pub invariant_of-result-clause-products : goal.invariant_of-result-clause-products
invariant_of-result-clause-products c = rows_are c.args.h c.products_of.result c.transposed-rows.result c.products_of.ensures c.transposed-rows.ensures
