use Rattle.std.proofs.Common.{rules}
use Rattle.crew.proofs.OnBoth.{first_room}
use Rattle.crew.proofs.crew.run_crew.Goals as goal

pub add_workers-passes-requires-clause-room : goal.add_workers-passes-requires-clause-room
add_workers-passes-requires-clause-room g c κs within = first_room c.args.workers c.args.passes c.requires.few c.requires.first

pub returns-clause-main : goal.returns-clause-main
returns-clause-main g c = let s = c.add_workers-passes.ensures.main in (s.0, s.1, s.2, s.3, search rules, s.5)
