-- The first bytes of pieces, one piece after another.
use Rattle.std.proofs.Common.{◌≡◌, ℕ, suc, ◌+◌, ◌-◌, ◌<◌, ◌≤◌, min, List, [], ◌++◌, length, take, drop, get_or, sym, ap, ◌∙◌, arith, append_assoc, append-nil, drop-cons}
use Rattle.std.proofs.lemmas.List.{drop_all, take_all}
use Rattle.sg_walk.proofs.Joined.{piece_first}
use Rattle.piece_modes.specs.Pieces.{text_by}

-- the piece at i, and those behind it
pub text_from : {P : Type 0} (bytes : P → List ℕ) (ps : List P) (i : ℕ) (d : P) → i < length ps
    → text_by bytes (drop i ps) ≡ bytes (get_or ps i d) ++ text_by bytes (drop (i + 1) ps)
text_from bytes ps i d l =
    let next : suc i ≡ i + 1 = omega arith in
    ap (text_by bytes) (drop-cons ps i d l) ∙ ap (λ j. bytes (get_or ps i d) ++ text_by bytes (drop j ps)) next

-- one piece more, of which `count` bytes are taken
pub front_more : {P : Type 0} (bytes : P → List ℕ) (ps : List P) (i left count : ℕ) (d : P) (piece a all : List ℕ) → i < length ps → piece ≡ bytes (get_or ps i d)
    → count ≡ min left (length piece) → a ++ take left (text_by bytes (drop i ps)) ≡ all
    → a ++ take count piece ++ take (left - count) (text_by bytes (drop (i + 1) ps)) ≡ all
front_more bytes ps i left count d piece a all l is many before =
    let later : List ℕ = text_by bytes (drop (i + 1) ps) in
    let none : 0 ≡ min 0 (length piece) = omega arith in
    let some : count ≡ min (length piece - 0) left = omega (arith, many) in
    append_assoc a (take count piece) (take (left - count) later)
    ∙ ap (λ (x : List ℕ). a ++ x)
    (sym (piece_first piece later 0 0 left count none some)
    ∙ ap (λ (x : List ℕ). take left (x ++ later)) is
    ∙ sym (ap (take left) (text_from bytes ps i d l)))
    ∙ before

pub front_all : {P : Type 0} (bytes : P → List ℕ) (ps : List P) (i left : ℕ) (a all : List ℕ) → length ps ≤ i → a ++ take left (text_by bytes (drop i ps)) ≡ all → a ≡ all
front_all {P} bytes ps i left a all past before =
    sym (append-nil a)
    ∙ ap (λ (x : List ℕ). a ++ x) (sym (ap (λ (qs : List P). take left (text_by bytes qs)) (drop_all i ps past) ∙ take_all left [] (omega arith)))
    ∙ before
