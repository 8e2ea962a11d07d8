use Rattle.std.proofs.Common.{refl, inl}
use Rattle.board.specs.Shapes.{is_pad}
use Rattle.pipeline_tests.proofs.Staying.{open_after}
use Rattle.pipeline_tests.proofs.pads.submit.Goals as goal

pub returns : goal.returns
returns g c = open_after is_pad c.pipelines_stay.ensures.managed (c.pipelines_stay.ensures.stays_open is_pad) _ _ _ c.args.pipe c.args.caller (inl c.in_ok-number.ensures.submitted.1.2) refl c.requires
