use Rattle.std.proofs.Common.{◌<◌, [], arith, slice_index, slice_index_or}
use Rattle.in_step.specs.Pieces.{piece}
use Rattle.perdoaze_calls.proofs.Answering.{IsKey}
use Rattle.perdoaze_calls.proofs.Encryptions.{came_in_step, front_ready, sizes_same}
use Rattle.perdoaze_calls.proofs.transform.Transform.encrypt_in_step.Goals as goal

pub seal_fronts-requires-clause-fronts : goal.seal_fronts-requires-clause-fronts
seal_fronts-requires-clause-fronts c = λ n lt.
    let fit = c.all_fit.ensures c.if-not-all_fit.false in
    front_ready c.in-Some.key c.args.self.now.authsize c.args.asked.now c.args.buffers.now n (slice_index c.lens_of.result n) (piece c.aads_of-aads.result n)
    (c.lens_of.ensures n lt) (c.aads_of-aads.ensures n lt) fit.0 fit.2

pub returns-clause-came : goal.returns-clause-came
returns-clause-came c = λ yes i l m.
    let t = c.args.self.now in
    let fit = c.all_fit.ensures c.if-not-all_fit.false in
    let lt : i < 8 = omega (arith, l, fit.1) in
    let f = fit.2 i l in
    let is : IsKey t c.in-Ok.keyed.now = record { plan = c.in-Ok.ensures.0; key = c.in-Ok.ensures.1 } in
    came_in_step t c.in-Ok.keyed.now c.in-Some.key c.args.asked.now c.mark_each.new.asked c.args.buffers.now c.seal_fronts.new.texts i
    (slice_index_or c.ivs_of.result i []) (piece c.aads_of-aads.result i) (slice_index c.lens_of.result i)
    is f c.in-Some.ensures.values c.in-Some.ensures.taken
    (c.ivs_of.ensures i lt f.iv_long) (c.aads_of-aads.ensures i lt) (c.lens_of.ensures i lt)
    (c.seal_fronts.ensures.sealed i lt m) (c.seal_fronts.ensures.rest i lt m) (c.seal_fronts.ensures.same i lt)
    (c.mark_each.ensures.marked i l).0 (c.mark_each.ensures.marked i l).1

pub returns-clause-sizes : goal.returns-clause-sizes
returns-clause-sizes c =
    let fit = c.all_fit.ensures c.if-not-all_fit.false in
    sizes_same c.seal_fronts.new.texts c.args.buffers.now c.seal_fronts.ensures.count (omega (arith, fit.0, fit.1)) c.seal_fronts.ensures.same
