use Rattle.board.proofs.Staying.{opens, stays_open, stays_managed, stays_submitting, work_leaves, collect_drains, taking_is_work, finishing_is_work, passing_is_work}
use Rattle.board.proofs.history_laws.pipelines_stay.Goals as goal

pub returns : goal.returns
returns g c = record {
  born = opens;
  stays_open = stays_open;
  managed = stays_managed;
  submitting = stays_submitting;
  work = work_leaves;
  drained = collect_drains;
  taking = taking_is_work;
  finishing = finishing_is_work;
  passing = passing_is_work;
}
