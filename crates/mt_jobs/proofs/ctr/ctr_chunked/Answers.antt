use Rattle.std.proofs.Common.{arith, zero-add, refl}
use Rattle.mt_jobs.proofs.SealedPieces.{sealed_all, sealed_in, begins_between}
use Rattle.mt_jobs.proofs.ctr.ctr_chunked.Goals as goal

pub returns-then-chunk-text : goal.returns-then-chunk-text
returns-then-chunk-text g c =
    sealed_all (g.C.BlockCipher.sealed c.args.cipher.now) c.args.iv.now c.args.text.now c.seal_piece.new.piece (omega arith)
    (λ k h. sealed_in (g.C.BlockCipher.sealed c.args.cipher.now) c.args.iv.now c.args.text.now c.seal_piece.new.piece c.args.text.now c.seal_piece.new.piece 0 k k
    c.seal_piece.ensures (zero-add k) h refl refl)

pub for_each_chunk_mut-requires-clause-accepts : goal.for_each_chunk_mut-requires-clause-accepts
for_each_chunk_mut-requires-clause-accepts g c κs within start p is =
    begins_between c.args.chunk _ start c.requires c.if-chunk-text.false is.start_is_multiple

pub returns : goal.returns
returns g c =
    sealed_all (g.C.BlockCipher.sealed c.args.cipher.now) c.args.iv.now c.args.text.now c.for_each_chunk_mut.new.s (omega arith)
    (λ k h. let p = (c.for_each_chunk_mut.ensures.by_index k 0 h).1 in
    sealed_in (g.C.BlockCipher.sealed c.args.cipher.now) c.args.iv.now p.argument.now p.after_call.now c.args.text.now c.for_each_chunk_mut.new.s p.start p.offset k
    p.call p.start_plus_offset p.offset_in_chunk p.old_element p.new_element)
