use Rattle.std.proofs.Common.{ap, ℕ, ◌+◌, ◌/◌, ◌%◌, ◌^◌}
use Rattle.mt_jobs.proofs.SealedPieces.{sealed_at}
use Rattle.mt_jobs.proofs.ctr.seal_piece.Goals as goal

pub returns : goal.returns
returns g c =
    sealed_at (g.C.BlockCipher.sealed c.args.cipher.now) c.args.iv.now c.args.start _ c.args.piece.now c.apply_key_stream.new.text
    c.requires (ap (λ (n : ℕ). (n + c.args.start / 16) % 2 ^ 128) c.block_number.ensures) c.apply_key_stream.ensures
