-- A text in pieces.
use Rattle.std.specs.Prelude.{ℕ, List, [], ◌∷◌, ◌++◌, length, map}
use Rattle.piece_modes.specs.declared.piece.PieceMut.{PieceMut}

-- the bytes of all pieces, one behind the other, by those of each
abbrev pub text_by : {P : Type 0} → (P → List ℕ) → List P → List ℕ
text_by bytes [] = []
text_by bytes (p ∷ ps) = bytes p ++ text_by bytes ps

abbrev pub text_over : List PieceMut → List ℕ
text_over ps = text_by (λ p. p.bytes.now) ps

-- the bytes of a piece
abbrev pub size_of : PieceMut → ℕ
size_of p = length p.bytes.now

-- For the contracts inside this crate: the bytes of each piece.
abbrev pub parts_of : List PieceMut → List (List ℕ)
parts_of ps = map (λ p. p.bytes.now) ps
