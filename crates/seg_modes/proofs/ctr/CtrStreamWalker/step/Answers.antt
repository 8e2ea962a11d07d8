use Rattle.std.proofs.Common.{◌∙◌, ◌+◌, ◌/◌, ◌%◌, ◌^◌, ℕ, refl, ap₂, length}
use Rattle.std_defs.specs.Modes.{ctr}
use Rattle.seg_modes.proofs.Steps.{taken_any, counter_made}
use Rattle.seg_modes.proofs.ctr.CtrStreamWalker.step.Goals as goal

pub returns : goal.returns
returns g c =
    rw (← c.self.view_is)
    (record {
      same = refl;
      made = taken_any c.seal.result c.args.piece.now (ctr (g.C.BlockCipher.sealed c.self.inside.mode.now) c.self.inside.counter c.args.piece.now) c.seal.new.b c.seal.ensures;
      next = counter_made c.block_number.result (length c.seal.new.b / 16) ((c.block_number.result + length c.seal.new.b / 16) % 2 ^ 128) c.block_bytes-self-inside.result refl c.block_bytes-self-inside.ensures
          ∙ ap₂ (λ (m n : ℕ). (m + n / 16) % 2 ^ 128) c.block_number.ensures c.seal.auto.b;
    })
