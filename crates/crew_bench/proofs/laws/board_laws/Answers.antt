use Rattle.crew_bench.proofs.laws.board_laws.Goals as goal

pub returns : goal.returns
returns g c meaning = record {
  holds = c.known_holds.ensures meaning;
  own = c.others_leave.ensures.own;
  born = c.pipelines_stay.ensures.born;
  stays_open = c.pipelines_stay.ensures.stays_open;
  managed = c.pipelines_stay.ensures.managed;
  joins = c.entries_join.ensures.joins;
}
