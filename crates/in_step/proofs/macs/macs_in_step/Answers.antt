use Rattle.std.proofs.Common.{◌∙◌, ◌++◌, ℕ, List, [], ap, ap₂, arith, length, slice_index_or}
use Rattle.std.proofs.lemmas.List.{append-nil}
use Rattle.sha2.specs.Sha256.{sha256}
use Rattle.std_defs.specs.Hmac.{hmac_under, xor_pad}
use Rattle.in_step.proofs.macs.macs_in_step.Goals as goal

pub digests_in_step-requires : goal.digests_in_step-requires
digests_in_step-requires c = record { short = λ n lt. omega (arith, c.as_pieces.ensures.size n lt, ap length (c.no_pieces.ensures n lt)) }

pub returns : goal.returns
unfolding hmac_under
returns c = λ n lt.
    let inner = xor_pad 0x36 c.args.mac.now in
    let outer = xor_pad 0x5c c.args.mac.now in
    c.digests_in_step.ensures outer n c.outer.ensures.taken (omega (arith, c.outer.ensures.block)) lt
    ∙ ap (λ (x : List ℕ). sha256 (outer ++ x))
    (ap₂ (λ (x y : List ℕ). x ++ y) (c.as_pieces.ensures.pieces n lt) (c.no_pieces.ensures n lt) ∙ append-nil (slice_index_or c.digests_in_step-inner.result n [])
    ∙ c.digests_in_step-inner.ensures inner n c.inner.ensures.taken (omega (arith, c.inner.ensures.block)) lt)
