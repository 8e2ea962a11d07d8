use Rattle.board.proofs.Others.{others_alone, work_leaves_known, work_leaves_drained, work_leaves_own, others_leave_open, others_leave_slips}
use Rattle.board.proofs.history_laws.others_leave.Goals as goal

pub returns : goal.returns
returns g c = record { alone = others_alone; mine = work_leaves_known; drained = work_leaves_drained; own = work_leaves_own; submitting = others_leave_open; slips = others_leave_slips }
