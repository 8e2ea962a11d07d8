use Rattle.std.proofs.Common.{◌∙◌, ◌+◌, ◌-◌, ◌*◌, ◌^◌, ◌<◌, ap, refl, take, drop, w8}
use Rattle.std.proofs.lemmas.Simd.{get_or_wider, Each1-chunk, below_from_Fits, chunk-fits}
use lib.Lanes.{chunk}
use Rattle.std_defs.specs.Poly1305.{little_endian}
use Rattle.poly1305.proofs.Words.{as_number, word_within}
use Rattle.poly1305.proofs.lanes.four_words.Goals as goal

pub returns-clause-word : goal.returns-clause-word
returns-clause-word c j lt =
    let bytes = c.args.bytes.now in
    let at = c.args.at in
    get_or_wider 256 8 (2 ^ 64) 4 (chunk 0 32 (take (at + 32 - at) (drop at bytes))) j refl
    (Each1-chunk (λ x. x < 256) 0 32 (take (at + 32 - at) (drop at bytes)) (below_from_Fits w8 (chunk at (at + 32 - at) bytes) (chunk-fits w8 at (at + 32 - at) bytes c.type_inv.bytes))) lt
    ∙ as_number (chunk (8 * j) 8 (chunk 0 32 (take (at + 32 - at) (drop at bytes))))
    ∙ ap little_endian (word_within bytes at j lt)
