use Rattle.recorded_calls.proofs.Gathers.{hands-all}
use Rattle.recorded_calls.proofs.shared_calls.gathered_hand_out_all.Goals as goal

pub returns : goal.returns
returns c = hands-all c.completions_in_order.ensures.handed
