use Rattle.std.proofs.Common.{None, slice_index, slice_index_or, []}
use Rattle.jobs_in_step.specs.Lanes.{text_in}
use Rattle.jobs_in_step.proofs.Answering.{answered, whole}
use Rattle.jobs_in_step.proofs.sealing.seal_plain.Goals as goal

pub seal_cbc_in_step-requires : goal.seal_cbc_in_step-requires
seal_cbc_in_step-requires c = λ n lt. whole (slice_index_or c.args.asks.now n None) (text_in c.args.texts.now n) (slice_index c.lengths_of.result n) (c.requires n lt) (c.lengths_of.ensures n lt)

pub returns : goal.returns
returns c = λ n lt.
    answered c.args.mode.now (slice_index_or c.args.asks.now n None) (text_in c.args.texts.now n) (text_in c.seal_cbc_in_step.new.texts n) (slice_index_or c.ivs_of.result n [])
    (slice_index c.lengths_of.result n) (c.requires n lt) (c.lengths_of.ensures n lt) (λ a is. c.ivs_of.ensures n a lt is) (c.seal_cbc_in_step.ensures.sealed n lt) (c.seal_cbc_in_step.ensures.length n lt)
