use Rattle.turn_lock.specs.Passes.{knows}
use Rattle.crew.proofs.Works.{worked_none}
use Rattle.crew.proofs.both.look_at_end.Goals as goal

pub returns-clause-worked : goal.returns-clause-worked
returns-clause-worked g c = record {
  board = worked_none (knows c.args.passes.board) (knows c.look_at_end-on_board.result.0) c.look_at_end-on_board.ensures.turn;
  registry = c.building_goes_on.ensures.still (knows c.args.passes.registry);
}
