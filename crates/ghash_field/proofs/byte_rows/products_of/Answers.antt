use Rattle.std.proofs.Common.{arith, ◌∙◌, ap}
use Rattle.std_defs.proofs.Multiples.{times_x}
use Rattle.ghash_field.specs.ByteRows.{row_of}
use Rattle.ghash_field.proofs.LaneRows.{both_products}
use Rattle.ghash_field.proofs.byte_rows.products_of.Goals as goal

pub returns : goal.returns
returns c = λ n d l.
    c.loop-n.invariant.done n d (omega arith)
    ∙ both_products c.args.h n c.multiples_of-high.result c.multiples_of-low.result c.ranges.h.fits c.multiples_of-high.ensures
    (c.multiples_of-low.ensures ∙ ap row_of (c.halved-4.ensures ∙ ap times_x (c.halved-3.ensures ∙ ap times_x (c.halved-2.ensures ∙ ap times_x c.halved.ensures)))) l
