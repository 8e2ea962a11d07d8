use Rattle.std.proofs.Common.{◌∙◌, sym, ap, subst, take, List, [], ◌∷◌, ◌++◌, append-nil, append_assoc}
use Rattle.recorded_calls.specs.Passes.{known}
use Rattle.script_session.specs.Probe.{Searched, MaySettle, SettlesThen}
use Rattle.script_session.proofs.Probed.{stopped, take-more, builds-then, settles-begin, settles-builds, settles-more, may-still}
use Rattle.script_session.proofs.probe_command.settle_all.Goals as goal

pub loop-search-init : goal.loop-search-init
loop-search-init g c = ([], sym (append-nil c.args.answers.now.items), settles-begin c.args.caller.now c.args.line)

pub settle-requires-clause-may : goal.settle-requires-clause-may
settle-requires-clause-may g c =
    let inv = c.loop-search.invariant in
    let i = c.loop-search.search-index in
    subst (λ (x : Searched). MaySettle (known c.loop-search.caller) x.look) (sym c.search-item.is)
    (may-still c.args.line (take i c.args.searches.now) c.args.searches.now inv.0 inv.2 c.requires.may i c.search-item.result c.loop-search-test.true)

pub returns-in_err-answer : goal.returns-in_err-answer
returns-in_err-answer g c =
    let inv = c.loop-search.invariant in
    stopped c.from_residual.result _ c.from_residual.ensures.0
    (builds-then (settles-builds c.args.line (take c.loop-search.search-index c.args.searches.now) inv.0 inv.2) c.in_err-answer.ensures)

pub returns-in_err-push : goal.returns-in_err-push
returns-in_err-push g c =
    let inv = c.loop-search.invariant in
    stopped c.from_residual-in_err-push.result _ c.from_residual-in_err-push.ensures.0
    (builds-then (settles-builds c.args.line (take c.loop-search.search-index c.args.searches.now) inv.0 inv.2)
    (settles-builds c.args.line (c.search-item.result ∷ []) (c.in_ok-answer.answer ∷ []) c.in_ok-answer.ensures))

pub loop-search-preserved : goal.loop-search-preserved
loop-search-preserved g c =
    let inv = c.loop-search.invariant in
    let i = c.loop-search.search-index in
    let said = inv.0 ++ c.in_ok-answer.answer ∷ [] in (
      said,
      c.in_ok-push.ensures.items ∙ (ap (λ a. a ++ c.in_ok-answer.answer ∷ []) inv.1 ∙ append_assoc c.args.answers.now.items inv.0 (c.in_ok-answer.answer ∷ [])),
      subst (λ (xs : List Searched). SettlesThen c.args.caller.now c.settle.new.caller c.args.line xs said) (take-more c.args.searches.now i c.search-item.result c.loop-search-test.true c.search-item.is)
          (settles-more c.registry_calls_go_on.ensures.found c.args.line (take i c.args.searches.now) (c.search-item.result ∷ []) inv.0 (c.in_ok-answer.answer ∷ []) inv.2 c.in_ok-answer.ensures),
    )
