use Rattle.board.proofs.Drained as drained
use Rattle.board.proofs.history_laws.entries_join.Goals as goal

pub returns : goal.returns
returns g c = record { joins = drained.joins; leaves = drained.leaves_others; alone = drained.begins_alone }
