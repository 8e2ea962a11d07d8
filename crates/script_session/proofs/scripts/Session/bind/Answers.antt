use Rattle.std.proofs.Common.{sym, ap, subst, ◌∙◌}
use Rattle.dialogues.specs.ScriptState.{live_of}
use Rattle.recorded_calls.specs.Passes.{known}
use Rattle.script_session.specs.States.{State, PipelinesMatch}
use Rattle.script_session.proofs.Finding.{origin-stands, bound-arm, unbound-arm, unplanned-or}
use Rattle.script_session.proofs.Moving.{fails}
use Rattle.script_session.proofs.scripts.Session.bind.Goals as goal

pub returns-in_default : goal.returns-in_default
returns-in_default g c =
    unplanned-or c.args.self.now c.self.view_is c.args.number c.args.wanted.now.label.now c.args.wanted.now.length c.args.id c.in_ok-spec.spec _ _ c.answer_errno.result c.in_ok-spec.ensures.0 c.in_ok-spec.ensures.1 (sym c.in_ok-plan.ensures ∙ c.in_default.is) c.requires.state.stands c.requires.state.posted c.answer_errno.ensures

pub take_entry-requires-clause-state : goal.take_entry-requires-clause-state
take_entry-requires-clause-state g c =
    record {
      stands = origin-stands c.args.self.now c.self.view_is c.requires.state.stands c.in_ok-spec.ensures.0;
      posted = subst (λ (x : State). PipelinesMatch x.script_state (known x.board)) (sym c.self.view_is) c.requires.state.posted;
    }

pub take_entry-requires-clause-free : goal.take_entry-requires-clause-free
take_entry-requires-clause-free g c = ap (λ (x : State). live_of x.script_state c.args.wanted.now.label.now) c.self.view_is ∙ c.requires.free

pub returns : goal.returns
returns g c =
    bound-arm c.args.self.now c.self.view_is _ c.args.number c.args.wanted.now.label.now c.args.wanted.now.length c.args.id c.in_ok-spec.spec c.in-Some.plan _ _ c.take_entry.result c.in_ok-spec.ensures.0 c.in_ok-spec.ensures.1
    (sym c.in_ok-plan.ensures ∙ c.in-Some.is) c.take_entry.ensures

-- memory was wanting for the entry, or for its plan
pub returns-in_err-spec : goal.returns-in_err-spec
returns-in_err-spec g c =
    fails c.from_residual.result _ c.from_residual.ensures.0
    (unbound-arm c.args.self.now c.self.view_is c.args.number c.args.wanted.now.label.now c.args.wanted.now.length c.args.id c.in_err-spec.ensures c.requires.seen)

pub returns-in_err-plan : goal.returns-in_err-plan
returns-in_err-plan g c =
    fails c.from_residual-in_err-plan.result _ c.from_residual-in_err-plan.ensures.0
    (unbound-arm c.args.self.now c.self.view_is c.args.number c.args.wanted.now.label.now c.args.wanted.now.length c.args.id c.in_ok-spec.ensures.0 c.requires.seen)
