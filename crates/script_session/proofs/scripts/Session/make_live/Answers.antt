use Rattle.std.proofs.Common.{ap, ◌∙◌}
use Rattle.std.proofs.lemmas.Result.{err_from_is_err_and}
use Rattle.dialogues.specs.ScriptState.{Live, live_of}
use Rattle.script_session.specs.Filed.{lives_of, number_of}
use Rattle.script_session.specs.States.{State}
use Rattle.script_session.proofs.Filed.{nobody-filed}
use Rattle.script_session.proofs.Finding.{making-created, making-none, makes-arm}
use Rattle.script_session.proofs.scripts.Session.make_live.Goals as goal

pub returns-in_err-live : goal.returns-in_err-live
returns-in_err-live g c =
    let p = err_from_is_err_and c.from_residual.result c.from_residual.ensures.1 in
    rw (p.1) (making-none c.args.self.now c.self.view_is (lives_of c.self.inside.lives) _ c.create_live.ensures.lock c.in_err-live.ensures.created)

-- nobody has its label
pub push-requires-clause-free : goal.push-requires-clause-free
push-requires-clause-free g c =
    ap (λ (l : Live). number_of l.label c.self.inside.lives.transforms.entries) c.in_ok-live.ensures.created.1
    ∙ nobody-filed c.args.wanted.now.label.now c.self.inside.lives.transforms.entries (ap (λ (x : State). live_of x.script_state c.args.wanted.now.label.now) c.self.view_is ∙ c.requires.free)

pub returns-in_err-push : goal.returns-in_err-push
returns-in_err-push g c =
    let p = err_from_is_err_and c.from_residual-in_err-push.result c.from_residual-in_err-push.ensures.1 in
    rw (p.1)
    (making-created c.args.self.now c.self.view_is _ c.args.wanted.now.label.now c.args.wanted.now.length c.args.chosen.now.id c.args.chosen.now.spec c.args.chosen.now.plan c.in_ok-live.live
    c.create_live.ensures.lock c.in_ok-live.ensures.created)

pub returns : goal.returns
returns g c =
    makes-arm c.args.self.now c.self.view_is c.create_live.new.caller _ c.args.wanted.now.label.now c.args.wanted.now.length c.args.chosen.now.id c.args.chosen.now.spec c.args.chosen.now.plan c.in_ok-live.live
    c.create_live.ensures.lock c.in_ok-live.ensures.created c.in_ok-push.ensures.added
