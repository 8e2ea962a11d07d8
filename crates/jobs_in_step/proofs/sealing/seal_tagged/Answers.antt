use Rattle.std.proofs.Common.{arith, None, slice_index, slice_index_or, []}
use Rattle.in_step.specs.Pieces.{piece}
use Rattle.jobs_in_step.specs.Lanes.{text_in}
use Rattle.jobs_in_step.proofs.Answering.{answered_tagged, packet}
use Rattle.jobs_in_step.proofs.sealing.seal_tagged.Goals as goal

pub seal_authenc_in_step-tags-requires : goal.seal_authenc_in_step-tags-requires
seal_authenc_in_step-tags-requires c = λ n lt.
    packet (slice_index_or c.args.asks.now n None) (text_in c.args.texts.now n) (piece c.aads_of.result n) (slice_index c.lengths_of-lengths.result n) (c.requires n lt) (c.lengths_of-lengths.ensures n lt)
    (c.aads_of.ensures n lt)

pub put_tags-requires : goal.put_tags-requires
put_tags-requires c = λ n lt.
    let ready = packet (slice_index_or c.args.asks.now n None) (text_in c.args.texts.now n) (piece c.aads_of.result n) (slice_index c.lengths_of-lengths.result n) (c.requires n lt) (c.lengths_of-lengths.ensures n lt)
    (c.aads_of.ensures n lt) in
    omega (arith, ready.1, c.seal_authenc_in_step-tags.ensures.length n lt)

pub returns : goal.returns
returns c = λ n lt.
    answered_tagged c.args.mac.now c.args.mode.now (slice_index_or c.args.asks.now n None) (text_in c.args.texts.now n) (text_in c.seal_authenc_in_step-tags.new.texts n) (text_in c.put_tags.new.texts n)
    (slice_index_or c.ivs_of.result n []) (piece c.aads_of.result n) (slice_index_or c.seal_authenc_in_step-tags.result n []) (slice_index c.lengths_of-lengths.result n) (c.requires n lt)
    (c.lengths_of-lengths.ensures n lt) (λ a is. c.ivs_of.ensures n a lt is) (c.aads_of.ensures n lt) (c.seal_authenc_in_step-tags.ensures.sealed n lt)
    (c.seal_authenc_in_step-tags.ensures.length n lt) (c.put_tags.ensures n lt)
