use Rattle.std.proofs.Common.{ap, ◌∙◌}
use Rattle.dialogues.specs.ScriptState.{live_of}
use Rattle.script_session.specs.States.{State}
use Rattle.script_session.proofs.Breaking.{or-breaks, unasked-arm}
use Rattle.script_session.proofs.Finding.{asks-got, taken-arm, lost-arm}
use Rattle.script_session.proofs.Moving.{fails}
use Rattle.script_session.proofs.scripts.Session.take_entry.Goals as goal

pub returns-then-not-branch : goal.returns-then-not-branch
returns-then-not-branch g c =
    or-breaks _ _ c.answer_errno.result c.answer_errno.ensures
    (λ all. lost-arm c.args.self.now c.self.view_is c.args.number c.args.wanted.now.label.now c.args.wanted.now.length c.args.chosen.id c.args.chosen.spec c.args.chosen.plan _ all
    (asks-got c.args.chosen.id _ _ c.if-not-branch.true c.in_ok-take_ref.ensures) c.requires.state.stands c.requires.state.posted)
    c.requires.state.posted

pub add_live-requires-clause-free : goal.add_live-requires-clause-free
add_live-requires-clause-free g c = ap (λ (x : State). live_of x.script_state c.args.wanted.now.label.now) c.self.view_is ∙ c.requires.free

pub returns : goal.returns
returns g c =
    taken-arm c.args.self.now c.self.view_is _ c.args.number c.args.wanted.now.label.now c.args.wanted.now.length c.args.chosen.id c.args.chosen.spec c.args.chosen.plan _ _ c.add_live.result
    (asks-got c.args.chosen.id _ _ c.if-not-branch.false c.in_ok-take_ref.ensures) c.requires.state.stands c.requires.state.posted c.add_live.ensures

pub returns-in_err-take_ref : goal.returns-in_err-take_ref
returns-in_err-take_ref g c = fails c.from_residual.result _ c.from_residual.ensures.0 (unasked-arm c.args.self.now c.self.view_is _ c.in_err-take_ref.ensures)
