use Rattle.std.proofs.Common.{◌<◌, ◌∙◌, length, length-set, arith}
use Rattle.reorder_window.proofs.Batching.{rest_more, take_waiting, take_each_came, take_each_stands}
use Rattle.reorder_window.proofs.window.Window.take_many.Goals as goal

pub loop-i-preserved : goal.loop-i-preserved
loop-i-preserved g c =
    let f = c.args.self.now in
    let out = c.loop-i.out in
    let i = c.loop-i.i in
    let held = c.loop-i.invariant in
    let came = c.in-Some.ensures.came in
    let l : i < length out = omega arith in
    record {
      size = length-set out i _ ∙ held.size;
      rest = rest_more out c.args.out.now i _ held.rest;
      waiting = take_waiting f.waiting _ _ out i _ l held.waiting came.2;
      came = take_each_came f c.loop-i.self _ c.args.worker out i _ l held.came came.3;
      stands = take_each_stands f c.loop-i.self _ c.args.worker out i _ l held.came came.1 held.stands c.in-Some.ensures.stands;
    }
