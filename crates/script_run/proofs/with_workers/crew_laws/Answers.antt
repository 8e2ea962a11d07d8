use Rattle.alg_registry.specs.Rows.{caller_of as reg_caller}
use Rattle.board.specs.Entries.{caller_of as board_caller}
use Rattle.script_run.proofs.with_workers.crew_laws.Goals as goal

pub returns : goal.returns
returns c = record {
  registry_ends = c.crews_end.ensures reg_caller;
  board_ends = c.crews_end-2.ensures board_caller;
  registry_works = c.crew_works.ensures reg_caller;
  board_works = c.crew_works-2.ensures board_caller;
  all_finished = c.work_ends.ensures.all_finished;
  shut_last = c.work_ends.ensures.shut_last;
}
