use Rattle.std.proofs.Common.{◌<◌, ◌∙◌, length, length-set, arith}
use Rattle.reorder_window.proofs.Batching.{rest_more}
use Rattle.perdoaze_pipes.proofs.Each.{run_more}
use Rattle.perdoaze_pipes.proofs.op_work.run_each.Goals as goal

pub loop-i-preserved : goal.loop-i-preserved
loop-i-preserved c =
    let held = c.loop-i.invariant in
    let ops = c.loop-i.ops in
    let i = c.loop-i.i in
    let l : i < length ops = omega arith in
    record {
      kept = c.run.ensures.kept ∙ held.kept;
      size = length-set ops i _ ∙ held.size;
      rest = rest_more ops c.args.ops.now i _ held.rest;
      came = run_more c.args.slot.now.handle.value c.loop-i.slot.handle.value c.args.ops.now ops i c.run.new.self _ c.run.result held.kept l held.size held.rest held.came c.run.ensures.came;
    }
