use Rattle.std.proofs.Common.{◌≡◌, ◌∙◌, ◌<◌, ◌≤◌, ap, arith, length, slice_index, w32}
use Rattle.std.proofs.lemmas.Simd.{below_from_Fits}
use Rattle.chacha_lanes.proofs.Written.{in_part, sum_of}
use Rattle.chacha_lanes.proofs.stream.add_words.Goals as goal

pub returns-clause-there : goal.returns-clause-there
returns-clause-there c k lt =
    let text = c.args.text.now in
    let at = c.args.at in
    in_part text c.copy_from_slice.new.self _ at k (omega arith) (omega (arith, c.copy_from_slice.ensures.len))
    ∙ ap (λ ys. slice_index ys k) c.copy_from_slice.ensures.after
    ∙ sum_of text c.args.words at k c.requires c.fits-words.0 (below_from_Fits w32 c.args.words c.fits-words.1) lt
