use Rattle.ghash_field.proofs.Transposed.{transposed}
use Rattle.ghash_field.proofs.transposition.transposed.Goals as goal

pub returns : goal.returns
returns c = transposed c.args.rows.now c.interleaved.result c.interleaved-2.result c.interleaved-3.result c.interleaved-4.result c.interleaved.ensures c.interleaved-2.ensures c.interleaved-3.ensures c.interleaved-4.ensures
