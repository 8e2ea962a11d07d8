use Rattle.std.proofs.Common.{◌++◌, [], ◌∙◌, sym}
use Rattle.std.specs.List.{cons_option}
use Rattle.alg_registry.specs.Larvals.{joined_at}
use Rattle.alg_registry.proofs.Fresh.{filter_map-more}
use Rattle.alg_registry.proofs.larvals.entries_of.Goals as goal

pub loop-number-preserved : goal.loop-number-preserved
loop-number-preserved c =
    let more = filter_map-more (joined_at c.args.text.now c.args.all.now) c.args.seen.now c.loop-number.number-index 0 c.loop-number-test.true in
    c.in_ok-push_some.ensures ∙ ((λ i. c.loop-number.invariant i ++ cons_option (c.entry_at-id.ensures i) []) ∙ sym more)
