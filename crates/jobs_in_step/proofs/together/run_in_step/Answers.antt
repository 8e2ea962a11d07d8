use Rattle.std.proofs.Common.{◌∙◌, None, slice_index_or}
use Rattle.jobs_in_step.specs.Lanes.{text_in}
use Rattle.jobs_in_step.specs.Steps.{room_by, sealed_by}
use Rattle.jobs_in_step.proofs.Answering.{as_answer, ready}
use Rattle.jobs_in_step.proofs.together.run_in_step.Goals as goal

pub seal_by-requires : goal.seal_by-requires
seal_by-requires c = λ n lt.
    ready c.args.keyed.now (room_by c.args.key) (slice_index_or c.args.jobs n None) (slice_index_or c.parts_of-asks.result.0 n None) (text_in c.parts_of-asks.result.1 n) c.requires.rooms (c.requires.fit n lt) (c.parts_of-asks.ensures n lt)

pub returns : goal.returns
returns c = λ n lt.
    c.answers_of.ensures n lt
    ∙ as_answer c.args.keyed.now (sealed_by c.args.key) (slice_index_or c.args.jobs n None) (slice_index_or c.parts_of-asks.result.0 n None) (text_in c.parts_of-asks.result.1 n) (text_in c.seal_by.new.texts n)
    c.requires.values (c.requires.fit n lt) (c.parts_of-asks.ensures n lt) (c.seal_by.ensures n lt)
