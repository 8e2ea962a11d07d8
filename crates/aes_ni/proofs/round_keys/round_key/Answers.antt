use Rattle.std.specs.Prelude.{◌∷◌, [], ◌+◌, ◌*◌, ℕ, List, slice_index_or, slice_index}
use Rattle.std.proofs.Common.{ap, sym, add-zero}
use Rattle.aes_block.specs.KeyBlock.{key_block}
use Rattle.aes_ni.proofs.round_keys.round_key.Goals as goal

pub returns : goal.returns
unfolding key_block
returns c =
    let w : ℕ → ℕ → ℕ = λ n i. slice_index (slice_index_or c.args.words.now n []) i in
    let tail : List ℕ = w (4 * c.args.round + 1) 0 ∷ w (4 * c.args.round + 1) 1 ∷ w (4 * c.args.round + 1) 2 ∷ w (4 * c.args.round + 1) 3
    ∷ w (4 * c.args.round + 2) 0 ∷ w (4 * c.args.round + 2) 1 ∷ w (4 * c.args.round + 2) 2 ∷ w (4 * c.args.round + 2) 3
    ∷ w (4 * c.args.round + 3) 0 ∷ w (4 * c.args.round + 3) 1 ∷ w (4 * c.args.round + 3) 2 ∷ w (4 * c.args.round + 3) 3 ∷ [] in
    ap (λ (n : ℕ). w n 0 ∷ w n 1 ∷ w n 2 ∷ w n 3 ∷ tail) (sym (add-zero (4 * c.args.round)))
