use Rattle.std.proofs.Common.{arith, ap, ◌∙◌, ◌≡◌, ◌<◌, ℕ, List, map, ◌∷◌, [], slice_index}
use Rattle.std_defs.specs.Aes.{sbox, inverse_sbox}
use Rattle.std_defs.proofs.Tables.{inverse_sbox-sbox}
use Rattle.aes_table.specs.Words.{mixed_back, bytes_of}
use Rattle.aes_table.proofs.Entries.{plus_zero}
use Rattle.aes_table.proofs.columns.word_mixed_back.Goals as goal

back_of : (w v : List ℕ) (x i : ℕ) → w ≡ v → x ≡ sbox (slice_index w i) → slice_index v i < 256 → inverse_sbox x ≡ slice_index v i
back_of w v x i e f h = ap inverse_sbox (f ∙ ap (λ l. sbox (slice_index l i)) e) ∙ inverse_sbox-sbox (slice_index v i) h

pub returns : goal.returns
returns c =
    let w : List ℕ = c.to_le_bytes.result in
    let v : List ℕ = bytes_of c.args.word in
    let e : w ≡ v = c.to_le_bytes.ensures in
    let column : List ℕ = map inverse_sbox (c.substituted.result ∷ c.substituted-2.result ∷ c.substituted-3.result ∷ c.substituted-4.result ∷ []) in
    let same : column ≡ v =
    λ j. back_of w v c.substituted.result 0 e c.substituted.ensures (omega arith) j ∷ back_of w v c.substituted-2.result 1 e c.substituted-2.ensures (omega arith) j
    ∷ back_of w v c.substituted-3.result 2 e c.substituted-3.ensures (omega arith) j ∷ back_of w v c.substituted-4.result 3 e c.substituted-4.ensures (omega arith) j ∷ [] in
    c.unsealed_column.ensures
    ∙ plus_zero (slice_index (mixed_back column) 0) (slice_index (mixed_back column) 1) (slice_index (mixed_back column) 2) (slice_index (mixed_back column) 3)
    ∙ ap mixed_back same
