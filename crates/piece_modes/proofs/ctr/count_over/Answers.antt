use Rattle.std.proofs.Common.{◌∙◌, ap, take}
use Rattle.std_defs.specs.Modes.{ctr}
use Rattle.piece_modes.specs.Pieces.{text_over}
use Rattle.piece_modes.proofs.ctr.count_over.Goals as goal

pub returns-clause-text : goal.returns-clause-text
returns-clause-text g c = c.walk_front.ensures.made.made ∙ ap (λ w. ctr (g.C.BlockCipher.sealed w.0) w.1 (take c.args.n (text_over c.args.pieces.now))) c.new.ensures
