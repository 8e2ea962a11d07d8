use Rattle.std.proofs.Common.{arith}
use Rattle.script_run.proofs.Going.{goes-then}
use Rattle.script_run.proofs.LoadLines.{opening-begins, opening-more, opening-held}
use Rattle.script_run.proofs.load_session.hold_opening.Goals as goal

pub loop-number-init : goal.loop-number-init
loop-number-init g c = record { held = opening-begins c.args.session.now c.args.hasher.now; ready = c.requires.ready }

pub loop-number-preserved : goal.loop-number-preserved
loop-number-preserved g c =
    let now = c.loop-number in
    let did = c.in_ok-hold_opening_line.ensures in
    record {
      held =
          opening-more now.number c.args.session.now now.session c.hold_opening_line.new.session c.args.hasher.now now.hasher c.hold_opening_line.new.hasher
          (omega arith) now.invariant.held did.on c.hold_opening_line.ensures.goes_on;
      ready = did.ready;
    }

pub returns-in_err-hold_opening_line-clause-goes_on : goal.returns-in_err-hold_opening_line-clause-goes_on
returns-in_err-hold_opening_line-clause-goes_on g c =
    goes-then c.args.session.now c.loop-number.session c.hold_opening_line.new.session c.loop-number.invariant.held.goes c.hold_opening_line.ensures.goes_on

pub returns-clause-on : goal.returns-clause-on
returns-clause-on g c = opening-held c.loop-number.number c.args.session.now c.loop-number.session c.args.hasher.now c.loop-number.hasher (omega arith) c.loop-number.invariant.held

pub returns-clause-goes_on : goal.returns-clause-goes_on
returns-clause-goes_on g c = c.loop-number.invariant.held.goes

pub returns-clause-unshut : goal.returns-clause-unshut
returns-clause-unshut g c = c.loop-number.invariant.ready.posted.unshut
