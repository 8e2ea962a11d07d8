use Rattle.std.proofs.Common.{ap, ◌∙◌, take}
use Rattle.std.proofs.lemmas.List.{take-map}
use Rattle.std_defs.specs.Aes.{unseal}
use Rattle.aes_ni.proofs.ni_aes.NiAesBlockCipher.unseal_some.Goals as goal

pub returns-else-count-eq1 : goal.returns-else-count-eq1
returns-else-count-eq1 c = ap (take c.args.count) c.unseal_eight.ensures ∙ take-map (unseal c.args.self.now.bytes) c.args.count c.args.b.now
