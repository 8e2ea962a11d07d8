use Rattle.std.proofs.Common.{ap, arith, length}
use Rattle.piece_modes.proofs.Parts.{text_is, same_lengths, text_written}
use Rattle.piece_modes.proofs.copies.write_at.Goals as goal

pub scatter-requires-clause-within : goal.scatter-requires-clause-within
scatter-requires-clause-within c = omega (arith, c.requires, ap length (text_is c.args.pieces.now))

pub returns-clause-text : goal.returns-clause-text
returns-clause-text c = text_written c.args.pieces.now c.scatter.new.pieces c.args.at c.args.from.now c.scatter.ensures.text

pub returns-clause-sizes : goal.returns-clause-sizes
returns-clause-sizes c = same_lengths c.args.pieces.now c.scatter.new.pieces c.scatter.ensures.sizes
