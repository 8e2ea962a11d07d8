use Rattle.std.proofs.Common.{arith, ◌∙◌}
use Rattle.ghash_field.specs.ByteRows.{column}
use Rattle.ghash_field.proofs.LaneRows.{turn, none_after, none_first, whole_start, spread_all, product_columns}
use Rattle.ghash_field.proofs.lane_ghash.product_by.Goals as goal

pub loop-k-init : goal.loop-k-init
loop-k-init c = record { value = whole_start _; start = λ e. none_first 15; none = λ j l. none_first j }

pub loop-k-preserved : goal.loop-k-preserved
loop-k-preserved c = record {
  value = turn c.loop-k.low c.loop-k.high c.together-entries.result c.moved-low.result c.carried-high.result c.loop-k.k (λ k. column c.args.rows.now.h k c.args.x.bytes) (omega arith)
      c.loop-k.auto.low c.loop-k.auto.high c.moved-low.ensures.long c.moved-low.ensures.small c.type_inv.low c.carried-high.ensures c.moved-low.ensures.value (c.together-entries.ensures ∙ c.looked_up.ensures) c.loop-k.invariant.value c.loop-k.invariant.none;
  start = λ e. absurd (omega arith);
  none = none_after c.loop-k.low c.loop-k.high c.carried-high.result c.loop-k.k c.loop-k.auto.high.0 c.carried-high.ensures c.loop-k.invariant.start c.loop-k.invariant.none;
}

pub reduced-requires : goal.reduced-requires
reduced-requires c = c.loop-k.invariant.none 15 (omega arith)

pub returns : goal.returns
returns c =
    c.reduced.ensures ∙ c.loop-k.invariant.value ∙ spread_all (λ k. column c.args.rows.now.h k c.args.x.bytes) c.loop-k.k (omega arith)
    ∙ product_columns c.args.rows.now.h c.args.x.bytes c.args.rows.now.fits c.args.x.small
