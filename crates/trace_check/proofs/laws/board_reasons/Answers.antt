use Rattle.trace_check.proofs.Parts.{right_has_all, all_is_right}
use Rattle.trace_check.proofs.Knowing.{next_new}
use Rattle.trace_check.proofs.laws.board_reasons.Goals as goal

pub returns : goal.returns
returns g c = record { right = λ h e l. (right_has_all h e, all_is_right h e (next_new h l)) }
