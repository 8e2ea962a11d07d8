use Rattle.std.proofs.Common.{ap, sym, subst, ◌∙◌, Ok, Err}
use Rattle.alg_names.specs.Name.{spelling}
use Rattle.dialogues.specs.ScriptState.{live_of}
use Rattle.recorded_calls.specs.Passes.{known}
use Rattle.script_session.specs.States.{State, PipelinesMatch}
use Rattle.script_session.proofs.Breaking.{or-breaks}
use Rattle.script_session.proofs.Finding.{finds-as, look-stands, look-stops, found-arm, fault-holds}
use Rattle.script_session.proofs.Moving.{fails}
use Rattle.script_session.proofs.scripts.Session.find.Goals as goal

pub bind-requires-clause-state : goal.bind-requires-clause-state
bind-requires-clause-state g c =
    record {
      stands = look-stands c.args.self.now c.self.view_is (spelling c.args.name.now) c.in-Ok.id c.requires.state.stands (finds-as c.self.inside.registry c.resolve.new.self (spelling c.args.name.now) c.in_ok-id.field-0 (Ok c.in-Ok.id) c.in-Ok.is c.in_ok-id.ensures);
      posted = subst (λ (x : State). PipelinesMatch x.script_state (known x.board)) (sym c.self.view_is) c.requires.state.posted;
    }

pub bind-requires-clause-free : goal.bind-requires-clause-free
bind-requires-clause-free g c = ap (λ (x : State). live_of x.script_state c.args.wanted.now.label.now) c.self.view_is ∙ c.requires.free

pub returns-in-Ok : goal.returns-in-Ok
returns-in-Ok g c =
    found-arm c.args.self.now c.self.view_is _ c.args.number c.args.wanted.now.label.now (spelling c.args.name.now) c.args.wanted.now.length c.in-Ok.id _ _ c.bind.result (finds-as c.self.inside.registry c.resolve.new.self (spelling c.args.name.now) c.in_ok-id.field-0 (Ok c.in-Ok.id) c.in-Ok.is c.in_ok-id.ensures) c.bind.ensures

pub returns-in-Err : goal.returns-in-Err
returns-in-Err g c =
    let found = finds-as c.self.inside.registry c.resolve.new.self (spelling c.args.name.now) c.in_ok-id.field-0 (Err c.in-Err.errno) c.in-Err.is c.in_ok-id.ensures in
    or-breaks _ _ c.answer_errno.result c.answer_errno.ensures
    (λ all. fault-holds c.args.self.now c.self.view_is c.args.number c.args.wanted.now.label.now (spelling c.args.name.now) c.args.wanted.now.length c.in-Err.errno _ all found c.requires.state.stands c.requires.state.posted)
    c.requires.state.posted

pub returns-in_err-id : goal.returns-in_err-id
returns-in_err-id g c =
    fails c.from_residual.result _ c.from_residual.ensures.0
    (look-stops c.args.self.now c.self.view_is c.args.number c.args.wanted.now.label.now (spelling c.args.name.now) c.args.wanted.now.length c.in_err-id.ensures)
