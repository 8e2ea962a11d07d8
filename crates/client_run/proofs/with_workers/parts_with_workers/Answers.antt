use Rattle.client_run.proofs.Joins.{parts-ran}
use Rattle.client_run.proofs.with_workers.parts_with_workers.Goals as goal

pub returns : goal.returns
returns g c =
    let crewed = c.crew_parts-passes.ensures.crewed in
    let registry = c.finish_all.ensures in
    let board = c.finish_all-2.ensures in
    record {
      ran = parts-ran c.end_laws.ensures c.args.workers c.requires.few c.args.first.now c.args.parts.now c.requires.clients.0 c.args.passes crewed.0 c.crew_parts-passes.result.0 c.finish_all.result c.finish_all-2.result
          c.crew_parts-passes.result.1 crewed.1 crewed.2 crewed.3 registry.shows board.shows registry.faithful.legal registry.faithful.made board.legal;
    }
