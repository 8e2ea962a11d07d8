use Rattle.std.specs.Prelude.{◌+◌, ◌-◌, ◌*◌, ◌/◌, ◌++◌, ℕ, length, drop}
use Rattle.std.proofs.Common.{arith}
use Rattle.ctr_mode.specs.Streams.{key_byte}
use Rattle.ctr_mode.proofs.Pieces.{applied_front, applied_more, xored_all}
use Rattle.ctr_mode.proofs.key_stream.KeyStream.apply.Goals as goal

pub loop-i-init : goal.loop-i-init
loop-i-init g c =
    let row = g.B.CounterBlocks.block in
    applied_front (g.C.BlockCipher.sealed c.args.cipher.now) (row c.args.self.now.0) (row c.apply_within.new.self.0) c.args.self.now.1 c.apply_within.new.self.1 c.args.text.now c.apply_within.new.piece
    c.min-front.result (c.min-front.result + 0) (omega arith) (omega arith) c.apply_within.ensures.text c.apply_within.ensures.on

pub loop-i-preserved : goal.loop-i-preserved
loop-i-preserved g c =
    let row = g.B.CounterBlocks.block in
    let a : ℕ = c.min-front.result + 128 * c.loop-i.i in
    applied_more (g.C.BlockCipher.sealed c.args.cipher.now) (row c.args.self.now.0) (row c.loop-i.self.0) (row c.apply_eight.new.self.0) c.args.self.now.1 c.loop-i.self.1 c.apply_eight.new.self.1
    c.args.text.now c.loop-i.text c.apply_eight.new.eight a a (a + 128 - a) (c.min-front.result + 128 * (c.loop-i.i + 1)) (omega arith) (omega (arith, c.loop-i.auto.text)) (omega arith)
    c.apply_eight.ensures.text c.apply_eight.ensures.on c.loop-i.invariant

pub returns-then-text-rest-le16-clause-text : goal.returns-then-text-rest-le16-clause-text
returns-then-text-rest-le16-clause-text g c =
    let row = g.B.CounterBlocks.block in
    let sealed = g.C.BlockCipher.sealed c.args.cipher.now in
    let s = c.args.self.now in
    let rest : ℕ = c.min-front.result + 128 * ((length (c.apply_within.new.piece ++ drop c.min-front.result c.args.text.now) - c.min-front.result) / 128) in
    let from : ℕ = c.min-front.result + 128 * c.loop-i.i in
    let all = applied_more sealed (row s.0) (row c.loop-i.self.0) (row c.apply_within-then-text-rest-le16.new.self.0) s.1 c.loop-i.self.1 c.apply_within-then-text-rest-le16.new.self.1
    c.args.text.now c.loop-i.text c.apply_within-then-text-rest-le16.new.piece from rest (length c.loop-i.text - rest) (length c.loop-i.text)
    (omega (arith, c.loop-i.auto.text)) (omega (arith, c.loop-i.auto.text)) (omega (arith, c.loop-i.auto.text))
    c.apply_within-then-text-rest-le16.ensures.text c.apply_within-then-text-rest-le16.ensures.on c.loop-i.invariant in
    xored_all (key_byte sealed (row s.0) s.1) c.args.text.now _ (length c.loop-i.text) all.xored (omega (arith, c.loop-i.invariant.xored.long))

pub returns-else-text-rest-le16-clause-text : goal.returns-else-text-rest-le16-clause-text
returns-else-text-rest-le16-clause-text g c =
    let row = g.B.CounterBlocks.block in
    let sealed = g.C.BlockCipher.sealed c.args.cipher.now in
    let s = c.args.self.now in
    let rest : ℕ = c.min-front.result + 128 * ((length (c.apply_within.new.piece ++ drop c.min-front.result c.args.text.now) - c.min-front.result) / 128) in
    let from : ℕ = c.min-front.result + 128 * c.loop-i.i in
    let all = applied_more sealed (row s.0) (row c.loop-i.self.0) (row c.apply_some.new.self.0) s.1 c.loop-i.self.1 c.apply_some.new.self.1
    c.args.text.now c.loop-i.text c.apply_some.new.text from rest (length c.loop-i.text - rest) (length c.loop-i.text)
    (omega (arith, c.loop-i.auto.text)) (omega (arith, c.loop-i.auto.text)) (omega (arith, c.loop-i.auto.text))
    c.apply_some.ensures.text c.apply_some.ensures.on c.loop-i.invariant in
    xored_all (key_byte sealed (row s.0) s.1) c.args.text.now _ (length c.loop-i.text) all.xored (omega (arith, c.loop-i.invariant.xored.long))
