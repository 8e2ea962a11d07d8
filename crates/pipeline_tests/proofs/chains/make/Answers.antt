use Rattle.std.proofs.Common.{refl}
use Rattle.board.specs.declared.entry.Shape.TheVariants.{Chain}
use Rattle.board.specs.Shapes.{has_queue}
use Rattle.pipeline_tests.proofs.Staying.{open_at_birth}
use Rattle.pipeline_tests.proofs.chains.make.Goals as goal

pub returns : goal.returns
returns g c = open_at_birth has_queue (c.pipelines_stay.ensures.born has_queue) _ _ 0 c.in_ok-pipe.pipe (Chain 2 3) c.in_ok-pipe.ensures.made.1 c.in_ok-pipe.ensures.legal refl
