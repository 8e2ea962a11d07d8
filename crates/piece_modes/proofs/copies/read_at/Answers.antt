use Rattle.piece_modes.proofs.Parts.{text_read}
use Rattle.piece_modes.proofs.copies.read_at.Goals as goal

pub returns : goal.returns
returns c = text_read c.args.pieces.now c.args.at c.gather.result c.args.into.now c.gather.new.into c.requires c.gather.auto.into c.gather.ensures.count c.gather.ensures.copied
