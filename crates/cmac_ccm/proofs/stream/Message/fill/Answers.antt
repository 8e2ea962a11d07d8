use Rattle.std.proofs.Common.{refl}
use Rattle.cmac_ccm.proofs.Streamed.{takes_filled}
use Rattle.cmac_ccm.proofs.stream.Message.fill.Goals as goal

pub returns-clause-more : goal.returns-clause-more
returns-clause-more c = λ f m held. takes_filled f c.args.self.now _ m c.args.bytes.now refl c.requires.room c.place.ensures.long c.place.ensures.placed refl held
