use Rattle.std.proofs.Common.{◌<◌, ℕ, List, [], arith, length, slice_index, slice_index_or}
use Rattle.in_step.specs.Pieces.{piece}
use Rattle.in_step.specs.Texts.{text_in}
use Rattle.jobs_in_step.proofs.TaggedFronts.{tagged_front, tagged_rest}
use Rattle.jobs_in_step.proofs.fronts.seal_tagged_fronts.Goals as goal

pub seal_authenc_in_step-tags-requires : goal.seal_authenc_in_step-tags-requires
seal_authenc_in_step-tags-requires g c = λ n lt. ((c.requires.fronts n lt).0, (c.requires.fronts n lt).1, (c.requires.fronts n lt).2)

pub put_tags_at-requires-clause-room : goal.put_tags_at-requires-clause-room
put_tags_at-requires-clause-room g c = λ n lt inside.
    omega (arith, (c.requires.fronts n lt).3 (omega (arith, inside, c.seal_authenc_in_step-tags.ensures.count)), c.seal_authenc_in_step-tags.ensures.length n lt)

pub returns-clause-sealed : goal.returns-clause-sealed
returns-clause-sealed g c = λ n lt inside.
    let old : List ℕ = text_in g.T.Text.bytes_of c.args.texts.now n in
    let mid : List ℕ = text_in g.T.Text.bytes_of c.seal_authenc_in_step-tags.new.texts n in
    let here : n < length c.seal_authenc_in_step-tags.new.texts = omega (arith, inside, c.seal_authenc_in_step-tags.ensures.count) in
    tagged_front old mid (text_in g.T.Text.bytes_of c.put_tags_at.new.texts n) (slice_index_or c.seal_authenc_in_step-tags.result n []) (slice_index c.args.lengths.now n) c.args.tag_size
    (omega (arith, (c.requires.fronts n lt).3 inside, c.seal_authenc_in_step-tags.ensures.length n lt)) (c.put_tags_at.ensures.same n) (c.put_tags_at.ensures.put n lt here)
    c.args.mac.now c.args.mode.now (slice_index_or c.args.ivs.now n []) (piece c.args.aads.now n) (c.seal_authenc_in_step-tags.ensures.sealed n lt)

pub returns-clause-rest : goal.returns-clause-rest
returns-clause-rest g c = λ n lt inside.
    let old : List ℕ = text_in g.T.Text.bytes_of c.args.texts.now n in
    let mid : List ℕ = text_in g.T.Text.bytes_of c.seal_authenc_in_step-tags.new.texts n in
    let here : n < length c.seal_authenc_in_step-tags.new.texts = omega (arith, inside, c.seal_authenc_in_step-tags.ensures.count) in
    tagged_rest old mid (text_in g.T.Text.bytes_of c.put_tags_at.new.texts n) (slice_index_or c.seal_authenc_in_step-tags.result n []) (slice_index c.args.lengths.now n) c.args.tag_size
    (omega (arith, (c.requires.fronts n lt).3 inside, c.seal_authenc_in_step-tags.ensures.length n lt)) (c.put_tags_at.ensures.same n) (c.put_tags_at.ensures.put n lt here)
    (c.seal_authenc_in_step-tags.ensures.rest n lt)
