use Rattle.turn_lock.specs.Passes.{knows}
use Rattle.script_session.proofs.Joined.{as-pass, as-caller, shuts-board, meets-board}
use Rattle.script_session.proofs.shared_end.leave_board.Goals as goal

pub shut-requires-clause-caller : goal.shut-requires-clause-caller
shut-requires-clause-caller g c κs within = (as-pass c.args.held.now _ c.args.caller c.into_pass-pass.result c.in-Ok.is c.into_pass-pass.ensures c.requires.may).gone.first

pub shut-requires-clause-once : goal.shut-requires-clause-once
shut-requires-clause-once g c κs within = (as-pass c.args.held.now _ c.args.caller c.into_pass-pass.result c.in-Ok.is c.into_pass-pass.ensures c.requires.may).once

pub returns-in-Ok-clause-left : goal.returns-in-Ok-clause-left
returns-in-Ok-clause-left g c =
    let may = as-pass c.args.held.now _ c.args.caller c.into_pass-pass.result c.in-Ok.is c.into_pass-pass.ensures c.requires.may in
    as-caller c.args.held.now _ c.args.caller c.into_pass-pass.result (knows c.shut.result) c.in-Ok.is c.into_pass-pass.ensures
    (shuts-board c.sharing_laws.ensures (knows c.into_pass-pass.result) (knows c.shut.result) may.gone c.shut.ensures.turn)

pub returns-in-Err-clause-left : goal.returns-in-Err-clause-left
returns-in-Err-clause-left g c =
    let have = as-pass c.args.held.now _ c.args.caller c.into_pass-pass.result c.in-Err.is c.into_pass-pass.ensures c.requires.may in
    as-caller c.args.held.now _ c.args.caller c.into_pass-pass.result (knows c.is_shut-pass.result.0) c.in-Err.is c.into_pass-pass.ensures
    (meets-board c.sharing_laws.ensures (knows c.into_pass-pass.result) (knows c.is_shut-pass.result.0) have c.is_shut-pass.ensures.turn)
