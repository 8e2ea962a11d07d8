use Rattle.trace_check.proofs.RegParts.{right_has_all, all_is_right}
use Rattle.trace_check.proofs.laws.registry_reasons.Goals as goal

pub returns : goal.returns
returns c = record { right = λ h e t. (right_has_all h e, all_is_right h e t) }
