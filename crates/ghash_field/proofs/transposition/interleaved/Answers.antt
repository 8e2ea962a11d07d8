use Rattle.std.proofs.Common.{arith, ◌∙◌, ◌*◌, ◌+◌, set, length-set, []}
use Rattle.ghash_field.proofs.Transposed.{done_more}
use Rattle.ghash_field.proofs.transposition.interleaved.Goals as goal

pub loop-i-preserved : goal.loop-i-preserved
loop-i-preserved c = record {
  long = length-set (set c.loop-i.turned (2 * c.loop-i.i) _) (2 * c.loop-i.i + 1) _ ∙ length-set c.loop-i.turned (2 * c.loop-i.i) _ ∙ c.loop-i.invariant.long;
  done = done_more c.loop-i.i c.args.rows.now c.loop-i.turned (record { lanes = c.of_low_lanes.result }) (record { lanes = c.of_high_lanes.result }) (record { lanes = [] })
      c.told-rows c.loop-i.invariant.long (omega arith) c.loop-i.invariant.done c.of_low_lanes.ensures c.of_high_lanes.ensures;
}

pub returns : goal.returns
returns c = λ i d l. c.loop-i.invariant.done i d (omega arith)
