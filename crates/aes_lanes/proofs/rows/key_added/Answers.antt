use Rattle.std.specs.Prelude.{◌≡◌, [], ◌∷◌, ℕ, List, ◌++◌, map, bit_xor}
use Rattle.std.proofs.Common.{◌∙◌, ap, arith}
use lib.Lanes.{zip2}
use Rattle.aes_lanes.specs.Tower.{state_byte, term_byte}
use Rattle.aes_lanes.specs.Rows.{eight_blocks, with_key}
use Rattle.aes_lanes.proofs.Transposed.{mapped_blocks}
use Rattle.aes_lanes.proofs.rows.key_added.Goals as goal

pub returns : goal.returns
returns c =
    let s = c.args.s in
    let k = c.args.key in
    let row : (x key both r : List ℕ) → both ≡ key ++ key → map state_byte r ≡ zip2 bit_xor (map term_byte x) (map state_byte both) → map state_byte r ≡ with_key x key
    = λ x key both r e f. f ∙ ap (λ v. zip2 bit_xor (map term_byte x) (map state_byte v)) e in
    mapped_blocks state_byte c.state_added.result c.state_added-2.result c.state_added-3.result c.state_added-4.result (omega arith) (omega arith) (omega arith) (omega arith)
    ∙ (λ j. eight_blocks (row s.first k.first _ _ c.in_both.ensures c.state_added.ensures j ∷ row s.second k.second _ _ c.in_both-2.ensures c.state_added-2.ensures j
    ∷ row s.third k.third _ _ c.in_both-3.ensures c.state_added-3.ensures j ∷ row s.fourth k.fourth _ _ c.in_both-4.ensures c.state_added-4.ensures j ∷ []))
