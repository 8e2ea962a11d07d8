use Rattle.std.proofs.Common.{refl, arith}
use Rattle.reorder_window.proofs.Batching.{finish_each_came, finish_each_stands, runs_below}
use Rattle.reorder_window.proofs.window.Window.finish_many.Goals as goal

pub returns-clause-why : goal.returns-clause-why
returns-clause-why g c l r is = runs_below c.args.self.now c.loop-i.self c.args.first c.loop-i.i _ c.args.worker r c.loop-i.invariant.came (omega arith) is

pub loop-i-preserved : goal.loop-i-preserved
loop-i-preserved g c =
    let f = c.args.self.now in
    let i = c.loop-i.i in
    let held = c.loop-i.invariant in
    let came = finish_each_came f c.loop-i.self _ c.args.first _ i c.args.worker refl held.above held.came c.if-not-finish.ensures.came in
    record {
      above = λ _. came.0;
      came = came.1;
      stands = finish_each_stands f c.loop-i.self _ c.args.first _ i c.args.worker refl held.stands c.if-not-finish.ensures.stands;
    }
