use Rattle.crew.proofs.both.work_or_build.Goals as goal

pub returns-clause-worked : goal.returns-clause-worked
returns-clause-worked g c = record { board = c.work_in_turn-on_board.ensures.worked; registry = c.build_if_any-on_registry.ensures.works }
