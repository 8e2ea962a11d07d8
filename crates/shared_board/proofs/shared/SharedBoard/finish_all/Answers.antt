use Rattle.shared_board.proofs.shared.SharedBoard.finish_all.Goals as goal

pub returns-clause-shows : goal.returns-clause-shows
returns-clause-shows g c = rw c.finish_all.ensures.history c.finish.ensures
