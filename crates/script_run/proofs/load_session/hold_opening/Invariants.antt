use Rattle.script_session.specs.Replies.{IsReady}
use Rattle.script_run.proofs.LoadLines.{HoldsOpening}
use Rattle.script_run.proofs.load_session.hold_opening.Given as goal

abbrev pub invariant-loop-number : goal.invariant-loop-number
invariant-loop-number g l = record {
  held : HoldsOpening l.fn.session l.session l.fn.hasher l.hasher l.number;
  ready : IsReady l.registry l.board l.session;
}
