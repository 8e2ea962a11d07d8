use Rattle.std.proofs.Common.{List, [], ℕ, ◌++◌, ◌∙◌, refl, sym, ap, subst, take, append_assoc, append-nil}
use Rattle.sha_lanes.specs.Hashers.{HasAbsorbed}
use Rattle.piece_modes.proofs.Hashed.{front_more, front_all}
use Rattle.piece_modes.proofs.mac.hash_front.Goals as goal

pub loop-piece-init : goal.loop-piece-init
loop-piece-init g c = λ m h. ([], refl, subst (HasAbsorbed c.args.hasher.now) (sym (append-nil m)) h)

pub loop-piece-preserved : goal.loop-piece-preserved
loop-piece-preserved g c = λ m h.
    let before = c.loop-piece.invariant m h in
    let taken : List ℕ = take c.min-count.result c.as_bytes-part.result.now in (
      before.0 ++ taken,
      front_more g.P.ReadPiece.bytes_of c.args.pieces.now c.loop-piece.piece-index c.loop-piece.left c.min-count.result c.piece-item.result c.as_bytes-part.result.now before.0 _ c.loop-piece-test.true
          (c.as_bytes-part.ensures ∙ ap g.P.ReadPiece.bytes_of c.piece-item.is) c.min-count.ensures before.1,
      subst (HasAbsorbed c.update.new.self) (append_assoc m before.0 taken) (c.update.ensures (m ++ before.0) before.2),
    )

pub returns : goal.returns
returns g c = λ m h.
    let at = c.loop-piece.invariant m h in
    subst (λ (x : List ℕ). HasAbsorbed c.loop-piece.hasher (m ++ x)) (front_all g.P.ReadPiece.bytes_of c.args.pieces.now c.loop-piece.piece-index c.loop-piece.left at.0 _ c.loop-piece-test.false at.1) at.2
