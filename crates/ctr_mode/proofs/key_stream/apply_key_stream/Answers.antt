use Rattle.std.specs.Prelude.{ℕ}
use Rattle.std.proofs.Common.{ap, ◌∙◌}
use Rattle.ctr_mode.specs.Streams.{with_bytes, key_byte}
use Rattle.ctr_mode.proofs.Pieces.{from_start}
use Rattle.ctr_mode.proofs.key_stream.apply_key_stream.Goals as goal

pub returns : goal.returns
returns g c =
    let sealed = g.C.BlockCipher.sealed c.args.cipher.now in
    c.apply.ensures.text
    ∙ ap (λ (v : g.row.B.Denot × ℕ). with_bytes (key_byte sealed (g.B.CounterBlocks.block v.0) v.1) c.args.text.now) c.new.ensures
    ∙ from_start sealed (g.B.CounterBlocks.block c.args.counters) c.args.text.now
