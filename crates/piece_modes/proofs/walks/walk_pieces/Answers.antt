use Rattle.std.proofs.Common.{◌+◌, ◌<◌, ◌≤◌, arith, ap, length}
use Rattle.sg_walk.proofs.Steps.{walked_none, walked_past, walked_on, walked_same, walked_all}
use Rattle.piece_modes.specs.Pieces.{parts_of}
use Rattle.piece_modes.proofs.Parts.{count_is}
use Rattle.piece_modes.proofs.walks.walk_pieces.Goals as goal
use Rattle.piece_modes.proofs.walks.walk_pieces.Goals.{then-len-skip, else-len-skip}

pub loop-i-init : goal.loop-i-init
loop-i-init g c = walked_none g.W.Walker.makes c.args.walker.now (parts_of c.args.pieces.now) (g.met.W.Walker.stays c.args.walker.now)

pub loop-i-preserved : goal.loop-i-preserved
loop-i-preserved g c =
    let makes = g.W.Walker.makes in
    let at = c.loop-i in
    let xs = parts_of c.args.pieces.now in
    let within : c.loop-i.i < length (parts_of c.args.pieces.now) = omega (arith, c.loop-i-test.true, count_is c.args.pieces.now) in
    elim c.if-len-skip.branch [
      | then-len-skip w ↦
          walked_past makes c.args.walker.now at.walker xs (parts_of at.pieces) at.i at.skip c.len_of-len.result within c.len_of-len.ensures at.invariant (parts_of c.if-len-skip.pieces) c.if-len-skip.walker c.if-len-skip.skip
          w.if-len-skip.true (ap parts_of w.pieces-is) w.walker-is w.skip-is
      | else-len-skip w ↦
          let walked = w.walk_piece-skip in
          walked_same makes c.args.walker.now walked.new.walker c.if-len-skip.walker xs (parts_of walked.new.pieces) (parts_of c.if-len-skip.pieces) (at.i + 1) walked.result c.if-len-skip.skip (ap parts_of w.pieces-is) w.walker-is w.skip-is
          (walked_on makes c.args.walker.now at.walker xs (parts_of at.pieces) at.i at.skip c.len_of-len.result within c.len_of-len.ensures at.invariant (parts_of walked.new.pieces) walked.new.walker walked.result
          g.met.W.Walker.joins (omega (arith, w.if-len-skip.false)) walked.ensures.stepped walked.ensures.whole)
    ]

pub returns-clause-text : goal.returns-clause-text
returns-clause-text g c =
    let past : length (parts_of c.args.pieces.now) ≤ c.loop-i.i = omega (arith, c.loop-i-test.false, count_is c.args.pieces.now) in
    walked_all g.W.Walker.makes c.args.walker.now c.loop-i.walker (parts_of c.args.pieces.now) (parts_of c.loop-i.pieces) c.loop-i.i c.loop-i.skip past c.loop-i.invariant

pub returns-clause-sizes : goal.returns-clause-sizes
returns-clause-sizes g c = c.loop-i.invariant.stepped.sizes
