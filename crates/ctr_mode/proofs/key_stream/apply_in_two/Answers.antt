use Rattle.std.specs.Prelude.{◌-◌, ◌++◌, ℕ, List, length, drop}
use Rattle.std.proofs.Common.{arith, refl}
use Rattle.ctr_mode.specs.Streams.{key_byte}
use Rattle.ctr_mode.proofs.Pieces.{Applied, applied_front, applied_more, xored_all}
use Rattle.ctr_mode.proofs.key_stream.apply_in_two.Goals as goal

pub returns-clause-text : goal.returns-clause-text
returns-clause-text g c =
    let row = g.B.CounterBlocks.block in
    let sealed = g.C.BlockCipher.sealed c.args.cipher.now in
    let s = c.args.stream.now in
    let text : List ℕ = c.args.text.now in
    let half : List ℕ = c.apply.new.text ++ drop c.args.at text in
    let first : Applied sealed (row s.0) s.1 text half c.args.at (row c.apply.new.self.0) c.apply.new.self.1 =
    applied_front sealed (row s.0) (row c.apply.new.self.0) s.1 c.apply.new.self.1 text c.apply.new.text c.args.at c.args.at c.requires refl c.apply.ensures.text c.apply.ensures.on in
    let both = applied_more sealed (row s.0) (row c.apply.new.self.0) (row c.apply-2.new.self.0) s.1 c.apply.new.self.1 c.apply-2.new.self.1
    text half c.apply-2.new.text c.args.at c.args.at (length half - c.args.at) (length half) refl (omega (arith, first.xored.long, c.requires)) (omega (arith, first.xored.long, c.requires)) c.apply-2.ensures.text c.apply-2.ensures.on first in
    xored_all (key_byte sealed (row s.0) s.1) text _ (length half) both.xored (omega (arith, first.xored.long))
