-- Texts in pieces.
use Rattle.std.specs.Prelude.{ℕ, List}
use Rattle.piece_modes.specs.Pieces.{text_by}
use Rattle.perdoaze_calls.specs.declared.pieces.Piece.{Piece}

-- the bytes of all pieces, one behind the other
abbrev pub text_in : List Piece → List ℕ
text_in ps = text_by (λ p. p.bytes.now) ps

-- pieces of no more bytes together are changed in their place without memory
abbrev pub most_on_stack : ℕ
most_on_stack = 4160
