use Rattle.std.proofs.Common.{arith, ap, ◌∙◌, ◌+◌, ◌*◌, ℕ, List, map, ◌∷◌, [], slice_index}
use Rattle.std_defs.specs.Aes.{xor_words, sbox, mixed_byte, mix_columns, shift_rows, sub_bytes}
use Rattle.aes_table.specs.Words.{state_in, bytes_of, mixed}
use Rattle.aes_table.specs.States.{state_of}
use Rattle.aes_table.proofs.States.{columns_added}
use Rattle.aes_table.proofs.state.sealed_round.Goals as goal

pub returns : goal.returns
unfolding state_in mixed_byte mix_columns shift_rows
returns c =
    columns_added c.args.words.now (c.sealed_column.result ∷ c.sealed_column-2.result ∷ c.sealed_column-3.result ∷ c.sealed_column-4.result ∷ []) c.args.round (mix_columns (shift_rows (sub_bytes (state_of c.args.s)))) (omega arith) c.requires
    (c.sealed_column.ensures ∙ ap (λ (b : List ℕ). xor_words (mixed (map sbox (slice_index b 0 ∷ slice_index b 5 ∷ slice_index b 10 ∷ slice_index b 15 ∷ []))) (bytes_of (slice_index c.args.words.now (4 * c.args.round)))) c.block_of.ensures)
    (c.sealed_column-2.ensures ∙ ap (λ (b : List ℕ). xor_words (mixed (map sbox (slice_index b 4 ∷ slice_index b 9 ∷ slice_index b 14 ∷ slice_index b 3 ∷ []))) (bytes_of (slice_index c.args.words.now (4 * c.args.round + 1)))) c.block_of.ensures)
    (c.sealed_column-3.ensures ∙ ap (λ (b : List ℕ). xor_words (mixed (map sbox (slice_index b 8 ∷ slice_index b 13 ∷ slice_index b 2 ∷ slice_index b 7 ∷ []))) (bytes_of (slice_index c.args.words.now (4 * c.args.round + 2)))) c.block_of.ensures)
    (c.sealed_column-4.ensures ∙ ap (λ (b : List ℕ). xor_words (mixed (map sbox (slice_index b 12 ∷ slice_index b 1 ∷ slice_index b 6 ∷ slice_index b 11 ∷ []))) (bytes_of (slice_index c.args.words.now (4 * c.args.round + 3)))) c.block_of.ensures)
