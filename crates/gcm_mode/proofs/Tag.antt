-- The tag's block: GHASH carried on over the associated bytes, the ciphertext and the lengths.
use Rattle.std.proofs.Common.{◌≡◌, ℕ, zero, ◌+◌, ◌*◌, ◌/◌, ◌%◌, ◌^◌, ◌<◌, refl, sym, ap, ap₂, ◌∙◌, arith, List, [], ◌∷◌, ◌++◌, length, get_or, bit_xor, All, lit<}
use Rattle.std.proofs.lemmas.List.Elements.{All-append}
use Rattle.std.proofs.lemmas.List.FromFn.{fill_by_all}
use Rattle.std_defs.specs.Blocks.{block_bytes, with_stream}
use Rattle.std_defs.specs.GhashField.{field_product, field_power, ghash}
use Rattle.std_defs.specs.Gcm.{BlockFunction, hash_subkey, padded_blocks, lengths_block, gcm_hash, gctr, key_stream_block, counter_block}
use Rattle.std_defs.proofs.Horner.{horner, horner-ghash, horner-is_ghash, ghash-append, ghash-push}
use Rattle.std_defs.proofs.Bytes.{bytes_from_all}
use Rattle.std_defs.proofs.PaddedBlocks.{padded_blocks-fit}

-- what `absorb` ensures of a value y before the blocks
abbrev pub carried : ℕ → ℕ → List ℕ → ℕ
carried h y blocks = bit_xor (field_product y (field_power h (length blocks))) (ghash h blocks)

-- the value after the associated bytes is `first`, and after the text `second`
pub carried-gcm_hash : (cipher : BlockFunction) (h first second : ℕ) (associated text : List ℕ) → h ≡ hash_subkey cipher → h < 2 ^ 128
    → ((i : ℕ) → get_or associated i zero < 256) → ((i : ℕ) → get_or text i zero < 256)
    → length associated < 2 ^ 32 → length text < 2 ^ 32
    → first < 2 ^ 128 → first ≡ carried h 0 (padded_blocks associated) → second ≡ carried h first (padded_blocks text)
    → field_product (bit_xor second (lengths_block associated text)) h ≡ gcm_hash cipher associated text
unfolding gcm_hash lengths_block
carried-gcm_hash cipher h first second associated text is fits small_a small_t short_a short_t range is_first is_second =
    ap (λ (y : ℕ). field_product (bit_xor y (lengths_block associated text)) h) after_both
    ∙ ghash-push h (a ++ t) (lengths_block associated text) fits (All-append (λ b. b < 2 ^ 128) a t fit_a fit_t) (omega arith)
    ∙ ap (λ (k : ℕ). ghash k (a ++ t ++ lengths_block associated text ∷ [])) is
  where
    a : List ℕ
    a = padded_blocks associated

    t : List ℕ
    t = padded_blocks text

    fit_a : All (λ b. b < 2 ^ 128) a
    fit_a = padded_blocks-fit associated small_a

    fit_t : All (λ b. b < 2 ^ 128) t
    fit_t = padded_blocks-fit text small_t

    after_first : first ≡ ghash h a
    after_first = is_first ∙ sym (horner-ghash h 0 a fits (lit< tt) fit_a) ∙ horner-is_ghash h a fits fit_a

    after_both : second ≡ ghash h (a ++ t)
    after_both =
        is_second
        ∙ sym (horner-ghash h first t fits range fit_t)
        ∙ ap (λ (y : ℕ). horner h y t) after_first
        ∙ ghash-append h a t fits fit_a fit_t

-- the same, where the text was hashed in pieces
pub hashed-gcm_hash : (cipher : BlockFunction) (h first second : ℕ) (associated text : List ℕ) → h ≡ hash_subkey cipher → h < 2 ^ 128
    → ((i : ℕ) → get_or associated i zero < 256) → All (λ x. x < 256) text
    → length associated < 2 ^ 32 → length text < 2 ^ 32
    → first < 2 ^ 128 → first ≡ carried h 0 (padded_blocks associated) → second ≡ horner h first (padded_blocks text)
    → field_product (bit_xor second (lengths_block associated text)) h ≡ gcm_hash cipher associated text
hashed-gcm_hash cipher h first second associated text is fits small_a bytes short_a short_t range is_first is_second =
    carried-gcm_hash cipher h first second associated text is fits small_a (bytes_from_all text bytes).at short_a short_t range is_first
    (is_second ∙ horner-ghash h first (padded_blocks text) fits range (padded_blocks-fit text (bytes_from_all text bytes).at))

-- what `absorb` ensures of a piece
pub absorbed : (h y r : ℕ) (piece : List ℕ) → h < 2 ^ 128 → y < 2 ^ 128 → All (λ x. x < 256) piece → r ≡ carried h y (padded_blocks piece) → r ≡ horner h y (padded_blocks piece)
absorbed h y r piece fits range bytes is = is ∙ sym (horner-ghash h y (padded_blocks piece) fits range (padded_blocks-fit piece (bytes_from_all piece bytes).at))

-- ---- the cipher of J0

-- a block with the cipher of another added is the block under the key stream from there
pub under_cipher : (cipher : BlockFunction) (first s : ℕ) (tag sealed : List ℕ) → sealed ≡ cipher (block_bytes first) → length tag ≡ 16
    → ((k : ℕ) → k < 16 → get_or tag k zero ≡ bit_xor (get_or (block_bytes s) k zero) (get_or sealed k zero))
    → tag ≡ gctr cipher first (block_bytes s)
unfolding gctr key_stream_block with_stream counter_block block_bytes
under_cipher cipher first s tag sealed e long at =
    fill_by_all (λ i. bit_xor (get_or (block_bytes s) i zero) (get_or (cipher (block_bytes (counter_block first (i / 16)))) (i % 16) zero)) tag 16 zero long
    (λ k within.
    at k within
    ∙ ap (λ (v : List ℕ). bit_xor (get_or (block_bytes s) k zero) (get_or v k zero)) e
    ∙ ap₂ (λ (a b : ℕ). bit_xor (get_or (block_bytes s) k zero) (get_or (cipher (block_bytes (counter_block first a))) b zero))
    (let z : 0 ≡ k / 16 = omega arith in z) (let z : k ≡ k % 16 = omega arith in z))

pub length-block_bytes : (s : ℕ) → length (block_bytes s) ≡ 16
unfolding block_bytes
length-block_bytes s = refl

-- the hash of all, whose last block is that of the lengths
pub whole-gcm_hash : (cipher : BlockFunction) (h lengths : ℕ) (associated text : List ℕ) → h ≡ hash_subkey cipher
    → lengths ≡ length associated * 8 * 2 ^ 64 + length text * 8
    → ghash h (padded_blocks associated ++ padded_blocks text ++ lengths ∷ []) ≡ gcm_hash cipher associated text
unfolding gcm_hash lengths_block
whole-gcm_hash cipher h lengths associated text is e =
    ap₂ (λ (k l : ℕ). ghash k (padded_blocks associated ++ padded_blocks text ++ l ∷ [])) is (e ∙ turned (length associated) (length text))
  where
    turned : (a b : ℕ) → a * 8 * 2 ^ 64 + b * 8 ≡ 8 * a * 2 ^ 64 + 8 * b
    turned a b = omega arith
