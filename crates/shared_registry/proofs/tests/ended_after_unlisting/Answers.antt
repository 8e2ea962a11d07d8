use Rattle.std.proofs.Common.{sym, subst}
use Rattle.turn_lock.specs.Passes.{knows}
use Rattle.shared_registry.specs.Own.{MayHand}
use Rattle.shared_registry.proofs.Claiming.{hands}
use Rattle.shared_registry.proofs.Children.{still_open}
use Rattle.shared_registry.proofs.tests.ended_after_unlisting.Goals as goal

pub end-ended-requires-clause-open : goal.end-ended-requires-clause-open
end-ended-requires-clause-open g c =
    still_open c.claim_new-pass.result.1 c.nested_name-name.result (knows c.claim_new-pass.result.0) (knows c.build-pass.result.0) c.claim_new-pass.ensures.begins c.build-pass.ensures.within

pub end-ended-requires-clause-handed : goal.end-ended-requires-clause-handed
end-ended-requires-clause-handed g c =
    subst (MayHand (knows c.build-pass.result.0) c.claim_new-pass.result.1) (sym c.given_of.ensures) (hands (knows c.build-pass.result.0) c.claim_new-pass.result.1 c.build-pass.result.1 c.build-pass.ensures.builds)
