use Rattle.turn_lock.specs.Passes.{knows}
use Rattle.shared_registry.proofs.Referring.{takes_one, still_held}
use Rattle.shared_registry.proofs.tests.hold_and_count.Goals as goal

pub put_ref-requires-clause-has : goal.put_ref-requires-clause-has
put_ref-requires-clause-has g c =
    let k = knows c.args.pass in let l = knows c.take_ref-pass.result.0 in
    still_held l (knows c.refs-pass.result.0) c.args.id c.as_bytes.result.now _ c.refs-pass.result.1
    (takes_one k l c.args.id c.take_ref-pass.result.1 c.expect.result c.expect.ensures c.requires.fresh c.take_ref-pass.ensures.turn) c.refs-pass.ensures.turn
