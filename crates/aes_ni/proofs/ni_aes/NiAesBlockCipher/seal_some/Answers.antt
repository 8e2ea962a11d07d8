use Rattle.std.proofs.Common.{ap, ◌∙◌, take}
use Rattle.std.proofs.lemmas.List.{take-map}
use Rattle.std_defs.specs.Aes.{seal}
use Rattle.aes_ni.proofs.ni_aes.NiAesBlockCipher.seal_some.Goals as goal

pub returns-else-count-eq1 : goal.returns-else-count-eq1
returns-else-count-eq1 c = ap (take c.args.count) c.seal_eight.ensures ∙ take-map (seal c.args.self.now.bytes) c.args.count c.args.b.now
