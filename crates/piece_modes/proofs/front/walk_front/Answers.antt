use Rattle.piece_modes.proofs.Fronts.{front_made, front_rest}
use Rattle.piece_modes.proofs.Parts.{same_lengths}
use Rattle.piece_modes.proofs.front.walk_front.Goals as goal

pub returns-clause-made : goal.returns-clause-made
returns-clause-made g c =
    front_made g.W.Walker.makes c.args.walker _ c.args.n _ c.args.pieces.now c.walk_pieces.new.pieces c.walk_pieces.ensures.text (g.met.W.Walker.stays c.args.walker)

pub returns-clause-rest : goal.returns-clause-rest
returns-clause-rest g c =
    front_rest g.W.Walker.makes c.args.walker _ c.args.n _ c.args.pieces.now c.walk_pieces.new.pieces c.walk_pieces.ensures.text

pub returns-clause-sizes : goal.returns-clause-sizes
returns-clause-sizes g c = same_lengths c.args.pieces.now c.walk_pieces.new.pieces c.walk_pieces.ensures.sizes
