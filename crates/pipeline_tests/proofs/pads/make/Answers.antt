use Rattle.std.proofs.Common.{refl}
use Rattle.board.specs.declared.entry.Shape.TheVariants.{Pad}
use Rattle.board.specs.Shapes.{is_pad}
use Rattle.pipeline_tests.proofs.Staying.{open_at_birth}
use Rattle.pipeline_tests.proofs.pads.make.Goals as goal

pub returns : goal.returns
returns g c = open_at_birth is_pad (c.pipelines_stay.ensures.born is_pad) _ _ c.args.caller c.in_ok-pipe.pipe (Pad 2) c.in_ok-pipe.ensures.made.1 c.in_ok-pipe.ensures.legal refl
