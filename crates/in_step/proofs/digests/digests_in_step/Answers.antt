use Rattle.std.proofs.Common.{◌≡◌, ◌∙◌, ◌+◌, ◌*◌, ◌/◌, ◌%◌, ◌^◌, ℕ, List, ap, arith, length}
use Rattle.sha2.specs.Sha256.{digest_bytes, hash_after}
use Rattle.in_step.specs.Pieces.{behind, piece}
use Rattle.in_step.proofs.Behind.{finished}
use Rattle.in_step.proofs.digests.digests_in_step.Goals as goal

pub returns : goal.returns
returns c = λ m n held edge lt.
    let f = piece c.args.firsts.now n in
    let s = piece c.args.seconds.now n in
    let taken : c.taken.result / 64 * 64 ≡ length m % 2 ^ 64 = omega (arith, c.taken.ensures m held, edge) in
    c.digests_behind.ensures n lt
    ∙ ap (λ (h : List ℕ). digest_bytes (hash_after h (behind (c.taken.result / 64 * 64) f s) ((length f + length s + 72) / 64)) 8) (c.value.ensures m held)
    ∙ finished m f s (c.taken.result / 64 * 64) edge taken
