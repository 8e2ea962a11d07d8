use Rattle.std.proofs.Common.{arith, refl, length, drop, ◌++◌, ◌-◌, length-append, length-take}
use Rattle.ctr_mode.proofs.Pieces.{behind_first}
use Rattle.ctr_mode.proofs.key_stream.apply_behind_first.Goals as goal

pub returns : goal.returns
returns g c =
    let long = length-append c.xor_some.new.text (drop c.min-front.result c.args.text.now) in
    let cut = length-take c.min-front.result c.args.text.now in
    behind_first (g.C.BlockCipher.sealed c.args.cipher.now) (g.B.CounterBlocks.block c.args.counters) (g.B.CounterBlocks.block c.skip.new.self) c.args.first.now _
    c.args.text.now c.xor_some.new.text c.apply_key_stream.new.text c.min-front.result (length (c.xor_some.new.text ++ drop c.min-front.result c.args.text.now) - c.min-front.result)
    (omega arith) (omega (arith, c.xor_some.auto.text, cut, long)) (λ some. omega (arith, c.xor_some.auto.text, cut, long)) refl c.skip.ensures c.requires (omega (arith, c.xor_some.auto.text, cut)) (λ i h. c.xor_some.ensures i (omega (arith, cut))) c.apply_key_stream.ensures
