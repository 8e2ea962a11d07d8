use Rattle.std.specs.Prelude.{ℕ, List, [], ◌∷◌, slice_index}
use Rattle.std.proofs.Common.{◌∙◌, ap, get_or}
use Rattle.std.specs.Int.Bits.{xor_zero_r}
use Rattle.std_defs.specs.Aes.{sbox, shift_rows}
use Rattle.aes_ni.proofs.instruction_words.ByInstructionSubWord.sub_word.Goals as goal

pub returns : goal.returns
unfolding shift_rows
returns c =
    let w = c.args.w in
    ap (λ (v : List ℕ). get_or v 0 0 ∷ get_or v 1 0 ∷ get_or v 2 0 ∷ get_or v 3 0 ∷ []) c.aesenclast.ensures
    ∙ (λ j. xor_zero_r (sbox (slice_index w 0)) j ∷ xor_zero_r (sbox (slice_index w 1)) j ∷ xor_zero_r (sbox (slice_index w 2)) j ∷ xor_zero_r (sbox (slice_index w 3)) j ∷ [])
