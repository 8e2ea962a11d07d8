use Rattle.std.proofs.Common.{arith, ap, ◌∙◌, ℕ, List, map, ◌∷◌, [], slice_index}
use Rattle.std_defs.specs.Aes.{xor_words, inverse_sbox, inverse_shift_rows, inverse_sub_bytes}
use Rattle.aes_table.specs.Words.{state_in, bytes_of}
use Rattle.aes_table.specs.States.{state_of}
use Rattle.aes_table.proofs.States.{columns_added}
use Rattle.aes_table.proofs.state.unsealed_first.Goals as goal

pub returns : goal.returns
unfolding state_in inverse_shift_rows
returns c =
    columns_added c.args.words.now (c.first_column.result ∷ c.first_column-2.result ∷ c.first_column-3.result ∷ c.first_column-4.result ∷ []) 0 (inverse_sub_bytes (inverse_shift_rows (state_of c.args.s))) (omega arith) (omega arith)
    (c.first_column.ensures ∙ ap (λ (b : List ℕ). xor_words (map inverse_sbox (slice_index b 0 ∷ slice_index b 13 ∷ slice_index b 10 ∷ slice_index b 7 ∷ [])) (bytes_of (slice_index c.args.words.now 0))) c.block_of.ensures)
    (c.first_column-2.ensures ∙ ap (λ (b : List ℕ). xor_words (map inverse_sbox (slice_index b 4 ∷ slice_index b 1 ∷ slice_index b 14 ∷ slice_index b 11 ∷ [])) (bytes_of (slice_index c.args.words.now 1))) c.block_of.ensures)
    (c.first_column-3.ensures ∙ ap (λ (b : List ℕ). xor_words (map inverse_sbox (slice_index b 8 ∷ slice_index b 5 ∷ slice_index b 2 ∷ slice_index b 15 ∷ [])) (bytes_of (slice_index c.args.words.now 2))) c.block_of.ensures)
    (c.first_column-4.ensures ∙ ap (λ (b : List ℕ). xor_words (map inverse_sbox (slice_index b 12 ∷ slice_index b 9 ∷ slice_index b 6 ∷ slice_index b 3 ∷ [])) (bytes_of (slice_index c.args.words.now 3))) c.block_of.ensures)
