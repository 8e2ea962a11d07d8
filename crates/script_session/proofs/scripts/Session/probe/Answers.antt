use Rattle.std.proofs.Common.{◌≡◌, subst, List, ◌++◌}
use Rattle.std.specs.Prelude.{MatchResult}
use Rattle.reply_text.specs.declared.answers.Answer.{Answer}
use Rattle.recorded_calls.specs.Looks.{Builds}
use Rattle.script_session.specs.Probe.{LooksFirst, LooksSome, SettlesThen}
use Rattle.script_session.proofs.Moving.{fails}
use Rattle.script_session.proofs.Probed.{probe-arm, probe-some}
use Rattle.script_session.proofs.scripts.Session.probe.Goals as goal

pub returns : goal.returns
returns g c =
    let r1 = c.look_for_all.new.caller in
    let r2 = c.settle_all.new.caller in
    let answers = c.args.answers.now.items in
    let answers' = c.settle_all.new.answers.items in
    probe-arm c.calls_at_once.ensures.looks c.calls_at_once.ensures.are c.args.self.now c.self.view_is r1 r2 c.settle_all.result c.args.number c.args.names.now c.in_ok-searches.searches.items answers answers' c.requires.state.stands c.requires.state.posted
    (subst (λ ts. LooksFirst c.self.inside.registry r1 ts c.in_ok-searches.searches.items) c.as_slice.ensures c.in_ok-searches.ensures)
    (subst (λ ss. MatchResult c.settle_all.result (λ _. (said : List Answer) × (answers' ≡ answers ++ said) × SettlesThen r1 r2 c.args.number ss said) (λ _. Builds r1 r2)) c.deref.ensures.value c.settle_all.ensures)

pub returns-in_err-searches : goal.returns-in_err-searches
returns-in_err-searches g c =
    let r1 = c.look_for_all.new.caller in
    fails c.from_residual.result _ c.from_residual.ensures.0
    (probe-some c.args.self.now c.self.view_is r1 c.args.number c.args.names.now c.requires.state.stands (subst (λ ts. LooksSome c.self.inside.registry r1 ts) c.as_slice.ensures c.in_err-searches.ensures))
