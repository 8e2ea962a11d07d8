use Rattle.std.proofs.Common.{◌∙◌, ◌+◌, sym, subst, take, List, ℕ, [], ◌∷◌, ◌++◌}
use Rattle.script_session.specs.Probe.{Searched, LooksFirst}
use Rattle.script_session.proofs.Probed.{LooksFor, stopped, take-more, looks-begin, looks-more, looks-still, looks-one-more}
use Rattle.script_session.proofs.probe_command.look_for_all.Goals as goal

pub loop-text-init : goal.loop-text-init
loop-text-init g c = subst (λ (xs : List Searched). LooksFirst c.args.caller.now c.args.caller.now [] xs) (sym c.new-searches.ensures.items) (looks-begin c.args.caller.now)

pub returns-in_err-look : goal.returns-in_err-look
returns-in_err-look g c =
    stopped c.from_residual.result _ c.from_residual.ensures.0
    (looks-still c.args.texts.now c.loop-text.text-index c.loop-text.searches.items c.loop-text.invariant c.in_err-look.ensures)

pub returns-in_err-copy : goal.returns-in_err-copy
returns-in_err-copy g c =
    stopped c.from_residual-in_err-copy.result _ c.from_residual-in_err-copy.ensures.0
    (looks-one-more c.args.texts.now c.loop-text.text-index c.loop-text.searches.items c.text-item.result c.in_ok-look.look c.loop-text.invariant c.loop-text-test.true c.text-item.is
    (subst (λ t. LooksFor c.loop-text.caller c.look_for.new.caller t c.in_ok-look.look) c.as_slice.ensures c.in_ok-look.ensures))

pub returns-in_err-push : goal.returns-in_err-push
returns-in_err-push g c =
    stopped c.from_residual-in_err-push.result _ c.from_residual-in_err-push.ensures.0
    (looks-one-more c.args.texts.now c.loop-text.text-index c.loop-text.searches.items c.text-item.result c.in_ok-look.look c.loop-text.invariant c.loop-text-test.true c.text-item.is
    (subst (λ t. LooksFor c.loop-text.caller c.look_for.new.caller t c.in_ok-look.look) c.as_slice.ensures c.in_ok-look.ensures))

pub loop-text-preserved : goal.loop-text-preserved
loop-text-preserved g c =
    let i = c.loop-text.text-index in
    let texts = take i c.args.texts.now in
    let searches = c.loop-text.searches.items in
    let search : Searched = record { text = c.in_ok-copy.copy; look = c.in_ok-look.look } in
    subst (λ (xs : List Searched). LooksFirst c.args.caller.now c.look_for.new.caller (take (i + 1) c.args.texts.now) xs) (sym c.in_ok-push.ensures.items)
    (subst (λ (ts : List (List ℕ)). LooksFirst c.args.caller.now c.look_for.new.caller ts (searches ++ search ∷ [])) (take-more c.args.texts.now i c.text-item.result c.loop-text-test.true c.text-item.is)
    (looks-more texts searches c.text-item.result search c.loop-text.invariant (c.in_ok-copy.ensures ∙ c.as_slice-in-loop-text.ensures)
    (subst (λ t. LooksFor c.loop-text.caller c.look_for.new.caller t c.in_ok-look.look) c.as_slice.ensures c.in_ok-look.ensures)))
