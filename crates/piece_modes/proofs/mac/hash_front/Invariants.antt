use Rattle.std.proofs.Common.{◌≡◌, ℕ, List, ◌++◌, take, drop}
use Rattle.sha_lanes.specs.Hashers.{HasAbsorbed}
use Rattle.piece_modes.specs.Pieces.{text_by}
use Rattle.piece_modes.proofs.mac.hash_front.Given as goal

-- of the first n bytes, all but `left` are hashed, and these are the first of the pieces that are left
abbrev pub invariant-loop-piece : goal.invariant-loop-piece
invariant-loop-piece g l = (m : List ℕ) → HasAbsorbed l.fn.hasher m
    → (a : List ℕ) × (a ++ take l.left (text_by g.P.ReadPiece.bytes_of (drop l.piece-index l.pieces)) ≡ take l.n (text_by g.P.ReadPiece.bytes_of l.pieces)) × HasAbsorbed l.hasher (m ++ a)
