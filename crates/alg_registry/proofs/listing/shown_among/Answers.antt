use Rattle.std.proofs.Common.{◌∙◌, ◌++◌, [], sym}
use Rattle.std.specs.List.{cons_option}
use Rattle.alg_registry.specs.Calls.{shown}
use Rattle.alg_registry.specs.Held.{made_at}
use Rattle.alg_registry.proofs.Fresh.{filter_map-more}
use Rattle.alg_registry.proofs.listing.shown_among.Goals as goal

pub loop-id-preserved : goal.loop-id-preserved
loop-id-preserved c =
    let more = filter_map-more (made_at shown c.args.all.now) c.args.listed.now c.loop-id.id-index 0 c.loop-id-test.true in
    c.in_ok-push_shown.ensures ∙ ((λ i. c.loop-id.invariant i ++ cons_option (c.in_ok-answer.ensures i) []) ∙ sym more)
