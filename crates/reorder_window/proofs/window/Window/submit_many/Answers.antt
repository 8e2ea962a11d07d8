use Rattle.reorder_window.proofs.Batching.{submit_came, submit_stands}
use Rattle.reorder_window.proofs.window.Window.submit_many.Goals as goal

pub loop-i-preserved : goal.loop-i-preserved
loop-i-preserved g c =
    let rs = c.args.requests.now in
    let held = c.loop-i.invariant in
    record {
      came = submit_came c.args.self.now c.loop-i.self _ rs c.loop-i.i c.index-requests-i.result c.loop-i-test.true c.index-requests-i.is held.came c.in-Ok.ensures.came.2;
      stands = submit_stands c.args.self.now c.loop-i.self _ rs c.loop-i.i _ c.index-requests-i.result c.loop-i-test.true c.index-requests-i.is held.came c.in-Ok.ensures.came.1 held.stands c.in-Ok.ensures.stands;
    }
