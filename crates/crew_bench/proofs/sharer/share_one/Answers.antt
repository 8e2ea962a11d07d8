use Rattle.std.proofs.Common.{refl, inl}
use Rattle.turn_lock.specs.Passes.{knows}
use Rattle.board.specs.declared.entry.BoardEntry.TheVariants.{Share}
use Rattle.crew_bench.proofs.Readiness.{nothing, done_ready, done_shared}
use Rattle.crew_bench.proofs.sharer.share_one.Goals as goal

pub share-requires-clause-pipe : goal.share-requires-clause-pipe
share-requires-clause-pipe g c κs within = let r = c.requires.ready in inl r.0

pub returns-clause-ready : goal.returns-clause-ready
returns-clause-ready g c = done_ready nothing (c.board_laws.ensures nothing) c.args.pipe (knows c.args.pass) (knows c.share.result.0) c.share.result.1 (Share (knows c.args.pass).number c.args.pipe) _ refl c.requires.ready c.share.ensures.turn

pub returns-clause-shared : goal.returns-clause-shared
returns-clause-shared g c = done_shared nothing (c.board_laws.ensures nothing) c.args.pipe (knows c.args.pass).number (knows c.args.pass) (knows c.share.result.0) c.share.result.1 _ c.share.ensures.turn
