use Rattle.std.proofs.Common.{◌∙◌, ◌+◌, ◌-◌, ◌*◌, ◌/◌, length, arith, refl}
use Rattle.sha_lanes.proofs.HashedBlocks.{none, batch, last_batch}
use Rattle.sha_lanes.proofs.blocks.take_in_lanes.Goals as goal

pub loop-i-init : goal.loop-i-init
loop-i-init c = none c.args.state.now c.args.bytes.now

pub loop-i-preserved : goal.loop-i-preserved
loop-i-preserved c =
    let i = c.loop-i.i in
    c.take_first.ensures ∙ batch c.args.state.now c.args.bytes.now i (512 * i) (512 * i + 512 - 512 * i) c.loop-i.invariant refl (omega arith)

pub returns : goal.returns
returns c =
    let p = c.args.bytes.now in
    let batches = length p / 512 in
    c.take_rest.ensures
    ∙ last_batch c.args.state.now p c.loop-i.i (512 * batches) (length p - 512 * batches) c.loop-i.invariant (omega arith) refl (omega arith)
