use Rattle.board.specs.Entries.{NonePasses}
use Rattle.pipeline_tests.proofs.Chaining.{passed_after}
use Rattle.pipeline_tests.proofs.chains.pass.Goals as goal

pub returns : goal.returns
returns g c = passed_after c.pipelines_stay.ensures.managed c.pipelines_stay.ensures.stays_open c.pipelines_stay.ensures.passing c.pass_on.result c.args.board.now c.pass_on.new.self 1 c.args.pipe 0 (NonePasses c.args.board.now) c.pass_on.ensures.passed c.requires
