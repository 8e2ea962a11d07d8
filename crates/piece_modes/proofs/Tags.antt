-- GCM over the first bytes of a text.
use Rattle.std.proofs.Common.{◌≡◌, ℕ, zero, ◌+◌, ◌*◌, ◌^◌, ◌<◌, List, [], ◌∷◌, ◌++◌, length, get_or, bit_xor, All, sym, ap, ap₂, ◌∙◌, arith}
use Rattle.std.proofs.lemmas.List.Elements.{All-append}
use Rattle.std_defs.specs.Blocks.{block_bytes}
use Rattle.std_defs.specs.GhashField.{field_product, ghash}
use Rattle.std_defs.specs.Gcm.{BlockFunction, hash_subkey, padded_blocks, lengths_block, inc32, pre_counter_block, gcm_hash, gctr, gcm_text, gcm_tag, gcm_seal}
use Rattle.std_defs.proofs.Horner.{horner, horner-append, horner-is_ghash, ghash-push}
use Rattle.std_defs.proofs.Bytes.{bytes_from_all}
use Rattle.std_defs.proofs.PaddedBlocks.{padded_blocks-fit}
use Rattle.gcm_mode.specs.Segments.{Counts, Hashes}

-- the blocks of the associated bytes were hashed, and those of the text behind them
hash_is : (cipher : BlockFunction) (h hash : ℕ) (associated text : List ℕ) → h ≡ hash_subkey cipher → h < 2 ^ 128
    → ((i : ℕ) → get_or associated i zero < 256) → All (λ x. x < 256) text → length associated < 2 ^ 32 → length text < 2 ^ 32
    → hash ≡ horner h (horner h 0 (padded_blocks associated)) (padded_blocks text)
    → field_product (bit_xor hash (lengths_block associated text)) h ≡ gcm_hash cipher associated text
unfolding gcm_hash lengths_block
hash_is cipher h hash associated text is fits small bytes short_a short_t hashed =
    ap (λ (y : ℕ). field_product (bit_xor y (lengths_block associated text)) h) both
    ∙ ghash-push h (a ++ t) (lengths_block associated text) fits fit (omega arith)
    ∙ ap (λ (k : ℕ). ghash k (a ++ t ++ lengths_block associated text ∷ [])) is
  where
    a : List ℕ
    a = padded_blocks associated

    t : List ℕ
    t = padded_blocks text

    fit : All (λ b. b < 2 ^ 128) (a ++ t)
    fit = All-append (λ b. b < 2 ^ 128) a t (padded_blocks-fit associated small) (padded_blocks-fit text (bytes_from_all text bytes).at)

    both : hash ≡ ghash h (a ++ t)
    both = hashed ∙ sym (horner-append h 0 a t) ∙ horner-is_ghash h (a ++ t) fits fit

pub tag_is : {H : Type 0} (block : H → ℕ) (cipher : BlockFunction) (u v : H × ℕ) (key : H) (iv associated text new tag : List ℕ) (hash n : ℕ)
    → u ≡ (key, horner (block key) 0 (padded_blocks associated)) → Hashes block u text new v → hash ≡ v.1 → block key ≡ hash_subkey cipher → block key < 2 ^ 128
    → ((i : ℕ) → get_or associated i zero < 256) → length associated < 2 ^ 32 → length text < 2 ^ 32 → n ≡ length text
    → tag ≡ gctr cipher (pre_counter_block iv) (block_bytes (field_product (bit_xor hash (length associated * 8 * 2 ^ 64 + n * 8)) (hash_subkey cipher)))
    → tag ≡ gcm_tag cipher iv associated text
unfolding gcm_tag lengths_block
tag_is {H} block cipher u v key iv associated text new tag hash n begins went ends is fits small short_a short_t long sealed =
    let lengths : length associated * 8 * 2 ^ 64 + n * 8 ≡ lengths_block associated text = omega (arith, long) in
    let hashed : hash ≡ horner (block key) (horner (block key) 0 (padded_blocks associated)) (padded_blocks text) =
    ends ∙ went.hash ∙ ap (λ (p : H × ℕ). horner (block p.0) p.1 (padded_blocks text)) begins in
    sealed
    ∙ ap (λ (s : ℕ). gctr cipher (pre_counter_block iv) (block_bytes s))
    (ap (λ (k : ℕ). field_product (bit_xor hash (length associated * 8 * 2 ^ 64 + n * 8)) k) (sym is)
    ∙ ap (λ (l : ℕ). field_product (bit_xor hash l) (block key)) lengths
    ∙ hash_is cipher (block key) hash associated text is fits small went.bytes short_a short_t hashed)

pub text_is : {C : Type 0} (sealed : C → List ℕ → List ℕ) (u v : C × ℕ) (c : C) (iv text new : List ℕ)
    → u ≡ (c, inc32 (pre_counter_block iv)) → Counts sealed u text new v → new ≡ gcm_text (sealed c) iv text
unfolding gcm_text
text_is {C} sealed u v c iv text new begins went = went.made ∙ ap (λ (p : C × ℕ). gctr (sealed p.0) p.1 text) begins

pub sealed_is : (cipher : BlockFunction) (iv associated text mid new tag : List ℕ) → mid ≡ gcm_text cipher iv text → new ≡ mid → tag ≡ gcm_tag cipher iv associated mid
    → (new, tag) ≡ gcm_seal cipher iv associated text
unfolding gcm_seal
sealed_is cipher iv associated text mid new tag made stays tagged =
    ap₂ (λ (x y : List ℕ). (x, y)) (stays ∙ made) (tagged ∙ ap (gcm_tag cipher iv associated) made)
