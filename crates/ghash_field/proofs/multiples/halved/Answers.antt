use Rattle.ghash_field.proofs.HalfBytes.{halved_masked}
use Rattle.ghash_field.proofs.multiples.halved.Goals as goal

pub returns : goal.returns
returns c = halved_masked c.args.v
