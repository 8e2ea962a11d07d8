use Rattle.std.proofs.Common.{◌≡◌, ◌∙◌, ◌+◌, ◌-◌, ◌*◌, ◌/◌, length, arith, ap, sym}
use Rattle.sha2.specs.Sha256.{compress}
use Rattle.sha_lanes.specs.Lanes.{block_at}
use Rattle.sha_lanes.proofs.HashedBlocks.{none, next, block_from}
use Rattle.sha_lanes.proofs.blocks.take_one_by_one.Goals as goal

pub loop-i-init : goal.loop-i-init
loop-i-init c = none c.args.state.now c.args.bytes.now

pub loop-i-preserved : goal.loop-i-preserved
loop-i-preserved c =
    let p = c.args.bytes.now in
    let i = c.loop-i.i in
    let long : 64 * i + 64 - 64 * i ≡ 64 = omega arith in
    c.compressed.ensures ∙ ap (compress c.loop-i.state) (block_from p i (64 * i) (64 * i + 64 - 64 * i) (omega arith) long)
    ∙ ap (λ h. compress h (block_at p i)) c.loop-i.invariant ∙ sym (next c.args.state.now p i)

pub returns : goal.returns
returns c =
    let all : c.loop-i.i ≡ length c.args.bytes.now / 64 = omega arith in
    rw all at c.loop-i.invariant
