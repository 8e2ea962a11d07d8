use Rattle.std.proofs.Common.{subst, sym}
use Rattle.std.specs.Prelude.{◌<◌}
use Rattle.board.proofs.Fronts.{front_is_finished, front_is_greatest}
use Rattle.board.proofs.laws.fronts_tell_all.Goals as goal

pub returns : goal.returns
returns g c = record {
  below = front_is_finished;
  greatest = front_is_greatest;
  all = λ es whole n l. front_is_finished es n (subst (λ m. n < m) (sym whole) l);
}
