use Rattle.std.proofs.Common.{arith, ap, not}
use Rattle.aes_block.proofs.Differences.{same_more, back_more, agreed}
use Rattle.aes_block.proofs.tag.tags_differ.Goals as goal

pub loop-i-preserved : goal.loop-i-preserved
loop-i-preserved c = record {
  same = same_more c.loop-i.differences c.loop-i.i c.args.full.now c.args.tag.now (omega arith) c.requires c.loop-i.invariant.same;
  back = back_more c.loop-i.differences c.loop-i.i c.args.full.now c.args.tag.now c.loop-i.invariant.back;
}

pub returns : goal.returns
returns c = ap not (agreed c.loop-i.differences c.loop-i.i c.args.full.now c.args.tag.now (omega arith) c.loop-i.invariant.same c.loop-i.invariant.back)
