use Rattle.alg_registry.proofs.Histories.{text_more, claimed_more, ended_more, origin_more, outcome_more, outcomes_more}
use Rattle.alg_registry.proofs.OwnCalls.{building_own, open_own, looks_own, reference_own}
use Rattle.alg_registry.proofs.laws.own_calls.Goals as goal

pub returns : goal.returns
returns c = record {
  stays = λ h more. record { text = text_more h more; claimed = claimed_more h more; ended = ended_more h more; entry = origin_more h more; look = outcome_more h more; looks = outcomes_more h more };
  building = λ h caller. building_own caller h;
  claimed = open_own;
  looks = λ h caller larval legal own. looks_own larval caller h legal own;
  references = λ h caller id has. reference_own caller id h has;
}
