use Rattle.std.proofs.Common.{ap, ◌∙◌}
use Rattle.std_defs.specs.Aes.{unseal}
use Rattle.aes_block.specs.Key.{AesKey}
use Rattle.aes_table.proofs.table_aes.TableAesBlockCipher.unseal_block.Goals as goal

pub returns : goal.returns
returns c = c.unseal.ensures ∙ ap (λ (k : AesKey). unseal k.bytes c.args.b.now) c.self.view_is
