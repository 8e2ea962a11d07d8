use Rattle.std.proofs.Common.{ap, ◌∙◌}
use Rattle.std_defs.specs.Aes.{seal}
use Rattle.aes_block.specs.Key.{AesKey}
use Rattle.aes_table.proofs.table_aes.TableAesBlockCipher.seal_block.Goals as goal

pub returns : goal.returns
returns c = c.seal.ensures ∙ ap (λ (k : AesKey). seal k.bytes c.args.b.now) c.self.view_is
