use Rattle.std.proofs.Common.{length}
use Rattle.std.proofs.lemmas.List.{length-take-le}
use Rattle.cipher_bench.proofs.sealing.write_front.Goals as goal

pub copy_from_slice-requires : goal.copy_from_slice-requires
copy_from_slice-requires c = length-take-le (length c.args.made.now) c.args.text.now c.requires
