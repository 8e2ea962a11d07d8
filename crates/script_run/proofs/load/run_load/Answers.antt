use Rattle.std.proofs.Common.{inl}
use Rattle.script_run.proofs.Loaded.{reached-on}
use Rattle.script_run.proofs.load.run_load.Goals as goal

pub returns-clause-loaded : goal.returns-clause-loaded
returns-clause-loaded g c = reached-on c.write_line.result c.load_with_workers-loaded.result.digest _ c.write_line.ensures.reached c.load_with_workers-loaded.ensures.loaded

pub returns-clause-shut : goal.returns-clause-shut
returns-clause-shut g c = reached-on c.write_line.result c.load_with_workers-loaded.result.digest _ c.write_line.ensures.reached c.load_with_workers-loaded.ensures.shut

pub returns-clause-closed : goal.returns-clause-closed
returns-clause-closed g c = inl c.load_with_workers-loaded.ensures.closed

pub returns-clause-callers : goal.returns-clause-callers
returns-clause-callers g c = c.load_with_workers-loaded.ensures.histories.callers

pub returns-clause-legal : goal.returns-clause-legal
returns-clause-legal g c = c.load_with_workers-loaded.ensures.histories.legal

pub returns-clause-legal_board : goal.returns-clause-legal_board
returns-clause-legal_board g c = c.load_with_workers-loaded.ensures.histories.legal_board

pub returns-clause-faithful : goal.returns-clause-faithful
returns-clause-faithful g c = c.load_with_workers-loaded.ensures.histories.faithful
