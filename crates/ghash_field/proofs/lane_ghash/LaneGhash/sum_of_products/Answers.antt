use Rattle.std.proofs.Common.{arith, ◌∙◌, ap₂, bit_xor}
use Rattle.ghash_field.specs.ByteRows.{column, sum_of_eight}
use Rattle.ghash_field.proofs.LaneRows.{turn, none_after, none_first, whole_start, spread_all, spread_of_eight, product_columns}
use Rattle.ghash_field.proofs.lane_ghash.LaneGhash.sum_of_products.Goals as goal

pub loop-k-init : goal.loop-k-init
loop-k-init c = record { value = whole_start _; start = λ e. none_first 15; none = λ j l. none_first j }

pub loop-k-preserved : goal.loop-k-preserved
loop-k-preserved c =
    let s = c.args.self.now in
    let x = c.args.x in
    record {
      value = turn c.loop-k.low c.loop-k.high c.all_looked_up-entries.result c.moved-low.result c.carried-high.result c.loop-k.k
          (λ k. sum_of_eight (column s.eighth.h k x.first.bytes) (column s.seventh.h k x.second.bytes) (column s.sixth.h k x.third.bytes) (column s.fifth.h k x.fourth.bytes)
          (column s.fourth.h k x.fifth.bytes) (column s.third.h k x.sixth.bytes) (column s.second.h k x.seventh.bytes) (column s.first.h k x.eighth.bytes)) (omega arith)
          c.loop-k.auto.low c.loop-k.auto.high c.moved-low.ensures.long c.moved-low.ensures.small c.type_inv.low c.carried-high.ensures c.moved-low.ensures.value c.all_looked_up-entries.ensures c.loop-k.invariant.value c.loop-k.invariant.none;
      start = λ e. absurd (omega arith);
      none = none_after c.loop-k.low c.loop-k.high c.carried-high.result c.loop-k.k c.loop-k.auto.high.0 c.carried-high.ensures c.loop-k.invariant.start c.loop-k.invariant.none;
    }

pub reduced-requires : goal.reduced-requires
reduced-requires c = c.loop-k.invariant.none 15 (omega arith)

pub returns : goal.returns
returns c =
    let s = c.args.self.now in
    let x = c.args.x in
    c.reduced.ensures ∙ c.loop-k.invariant.value
    ∙ spread_all
    (λ k. sum_of_eight (column s.eighth.h k x.first.bytes) (column s.seventh.h k x.second.bytes) (column s.sixth.h k x.third.bytes) (column s.fifth.h k x.fourth.bytes)
    (column s.fourth.h k x.fifth.bytes) (column s.third.h k x.sixth.bytes) (column s.second.h k x.seventh.bytes) (column s.first.h k x.eighth.bytes)) c.loop-k.k (omega arith)
    ∙ spread_of_eight 16 (λ k. column s.eighth.h k x.first.bytes) (λ k. column s.seventh.h k x.second.bytes) (λ k. column s.sixth.h k x.third.bytes) (λ k. column s.fifth.h k x.fourth.bytes)
    (λ k. column s.fourth.h k x.fifth.bytes) (λ k. column s.third.h k x.sixth.bytes) (λ k. column s.second.h k x.seventh.bytes) (λ k. column s.first.h k x.eighth.bytes)
    ∙ ap₂ bit_xor
    (ap₂ bit_xor
    (ap₂ bit_xor (product_columns s.eighth.h x.first.bytes s.eighth.fits x.first.small) (product_columns s.seventh.h x.second.bytes s.seventh.fits x.second.small))
    (ap₂ bit_xor (product_columns s.sixth.h x.third.bytes s.sixth.fits x.third.small) (product_columns s.fifth.h x.fourth.bytes s.fifth.fits x.fourth.small)))
    (ap₂ bit_xor
    (ap₂ bit_xor (product_columns s.fourth.h x.fifth.bytes s.fourth.fits x.fifth.small) (product_columns s.third.h x.sixth.bytes s.third.fits x.sixth.small))
    (ap₂ bit_xor (product_columns s.second.h x.seventh.bytes s.second.fits x.seventh.small) (product_columns s.first.h x.eighth.bytes s.first.fits x.eighth.small)))
