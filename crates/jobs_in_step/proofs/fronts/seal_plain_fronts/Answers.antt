use Rattle.std.proofs.Common.{[], slice_index, slice_index_or}
use Rattle.in_step.specs.Pieces.{piece}
use Rattle.in_step.specs.Texts.{text_in}
use Rattle.jobs_in_step.proofs.TaggedFronts.{plain_front, plain_rest}
use Rattle.jobs_in_step.proofs.fronts.seal_plain_fronts.Goals as goal

pub seal_cbc_in_step-requires : goal.seal_cbc_in_step-requires
seal_cbc_in_step-requires g c = λ n lt. ((c.requires.fronts n lt).0, (c.requires.fronts n lt).1)

pub returns-clause-sealed : goal.returns-clause-sealed
returns-clause-sealed g c = λ n lt inside.
    plain_front (text_in g.T.Text.bytes_of c.args.texts.now n) (text_in g.T.Text.bytes_of c.seal_cbc_in_step.new.texts n) (slice_index c.args.lengths.now n) c.args.tag_size
    c.requires.tag c.args.mode.now (slice_index_or c.args.ivs.now n []) (piece c.args.aads.now n) (c.seal_cbc_in_step.ensures.sealed n lt)

pub returns-clause-rest : goal.returns-clause-rest
returns-clause-rest g c = λ n lt inside.
    plain_rest (text_in g.T.Text.bytes_of c.args.texts.now n) (text_in g.T.Text.bytes_of c.seal_cbc_in_step.new.texts n) (slice_index c.args.lengths.now n) c.args.tag_size
    c.requires.tag (c.seal_cbc_in_step.ensures.rest n lt)
