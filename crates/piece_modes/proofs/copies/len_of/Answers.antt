use Rattle.std.proofs.Common.{ap, ◌∙◌, length}
use Rattle.piece_modes.specs.declared.piece.PieceMut.{PieceMut}
use Rattle.piece_modes.proofs.Parts.{part_at}
use Rattle.piece_modes.proofs.copies.len_of.Goals as goal

pub returns : goal.returns
returns c = ap length (c.bytes.ensures ∙ ap (λ (p : PieceMut). p.bytes.now) c.index-pieces-i.is ∙ part_at c.args.pieces.now c.args.i c.index-pieces-i.result c.requires)
