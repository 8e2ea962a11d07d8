-- how GCM follows a text as it grows
use Rattle.std.proofs.Common.{◌≡◌, ℕ, ◌+◌, ◌*◌, ◌^◌, ◌<◌, List, [], ◌∷◌, ◌++◌, length, bit_xor, All, refl, sym, ap, ap₂, subst, ◌∙◌, arith, length-append}
use Rattle.std.proofs.lemmas.List.Elements.{All-append, All-push, All-nil}
use Rattle.std_defs.specs.GhashField.{field_product}
use Rattle.std_defs.specs.Gcm.{BlockFunction, hash_subkey, pre_counter_block, inc32, gctr, key_stream_block, gcm_hash, gcm_text, padded_blocks}
use Rattle.std_defs.proofs.Bytes.{bytes_from_all}
use Rattle.std_defs.proofs.Horner.{horner, horner-append, horner-is_ghash}
use Rattle.std_defs.proofs.PaddedBlocks.{padded_blocks-fit}
use Rattle.ctr_mode.specs.Streams.{with_bytes, key_byte, IsOn}
use Rattle.ctr_mode.proofs.Growing.{with_bytes-append}
use Rattle.ctr_mode.proofs.Pieces.{on_on, from_start}
use Rattle.gcm_mode.proofs.Tag.{whole-gcm_hash}
use Rattle.gcm_mode.specs.declared.byte_hash.ByteHash.{ByteHash}
use Rattle.gcm_mode.specs.Streams.{Hashed, row}

-- GCTR of a text, by the bytes of its stream
gctr_bytes : (cipher : BlockFunction) (x : ℕ) (text : List ℕ) → gctr cipher x text ≡ with_bytes (key_byte cipher (row x) 0) text
unfolding gctr key_stream_block
gctr_bytes cipher x text = sym (from_start cipher (row x) text)

pub gcm_text-more : (cipher : BlockFunction) (iv t d new : List ℕ) (block : ℕ → List ℕ) (used : ℕ)
    → IsOn (row (inc32 (pre_counter_block iv))) 0 (length t) block used → new ≡ with_bytes (key_byte cipher block used) d
    → gcm_text cipher iv (t ++ d) ≡ gcm_text cipher iv t ++ new
unfolding gcm_text
gcm_text-more cipher iv t d new block used on made =
    let x : ℕ = inc32 (pre_counter_block iv) in
    gctr_bytes cipher x (t ++ d) ∙ with_bytes-append cipher (row x) block 0 used t d on
    ∙ ap₂ (λ (a b : List ℕ). a ++ b) (sym (gctr_bytes cipher x t)) (sym made)

pub on_more : (x used used' : ℕ) (block block' : ℕ → List ℕ) (t d : List ℕ) → IsOn (row x) 0 (length t) block used → IsOn block used (length d) block' used'
    → IsOn (row x) 0 (length (t ++ d)) block' used'
on_more x used used' block block' t d first second =
    subst (λ (n : ℕ). IsOn (row x) 0 n block' used') (sym (length-append t d)) (on_on (row x) block block' 0 used used' (length t) (length d) first second)

pub on_none : (x y : ℕ) → y ≡ x → IsOn (row x) 0 0 (row y) 0
on_none x y e = (refl, λ m. ap (λ (n : ℕ). row n m) e ∙ ap (row x) (let z : m ≡ m + 0 = omega arith in z))

-- ---- the tag

last_block : (h y l : ℕ) → field_product (bit_xor y l) h ≡ horner h y (l ∷ [])
unfolding horner
last_block h y l = refl

pub streamed-gcm_hash : (cipher : BlockFunction) (y h n m : ℕ) (a t : List ℕ) → h ≡ hash_subkey cipher → h < 2 ^ 128 → n ≡ length a → m ≡ length t → n < 2 ^ 61 → m < 2 ^ 61
    → All (λ x. x < 256) a → All (λ x. x < 256) t → y ≡ horner h (horner h 0 (padded_blocks a)) (padded_blocks t)
    → field_product (bit_xor y (n * 8 * 2 ^ 64 + m * 8)) h ≡ gcm_hash cipher a t
streamed-gcm_hash cipher y h n m a t is fits len_a len_t short_a short_t bytes_a bytes_t hashed =
    let l : ℕ = n * 8 * 2 ^ 64 + m * 8 in
    let blocks : List ℕ = padded_blocks a ++ padded_blocks t in
    let fit_a : All (λ b. b < 2 ^ 128) (padded_blocks a) = padded_blocks-fit a (bytes_from_all a bytes_a).at in
    let fit_t : All (λ b. b < 2 ^ 128) (padded_blocks t) = padded_blocks-fit t (bytes_from_all t bytes_t).at in
    let fit_l : All (λ b. b < 2 ^ 128) (l ∷ []) = All-push (λ b. b < 2 ^ 128) [] l (All-nil (λ b. b < 2 ^ 128)) (omega arith) in
    let fit : All (λ b. b < 2 ^ 128) (blocks ++ l ∷ []) =
    All-append (λ b. b < 2 ^ 128) blocks (l ∷ []) (All-append (λ b. b < 2 ^ 128) (padded_blocks a) (padded_blocks t) fit_a fit_t) fit_l in
    last_block h y l
    ∙ ap (λ (v : ℕ). horner h v (l ∷ [])) (hashed ∙ sym (horner-append h 0 (padded_blocks a) (padded_blocks t)))
    ∙ sym (horner-append h 0 blocks (l ∷ []))
    ∙ horner-is_ghash h (blocks ++ l ∷ []) fits fit
    ∙ whole-gcm_hash cipher h l a t is (ap₂ (λ (i j : ℕ). i * 8 * 2 ^ 64 + j * 8) len_a len_t)

-- the same, where the key's block is known
pub under_subkey : (h k y : ℕ) (s n : ByteHash) (m d : List ℕ) → k ≡ h → ((y : ℕ) (m : List ℕ) → Hashed k y s m → Hashed k y n (m ++ d)) → Hashed h y s m → Hashed h y n (m ++ d)
under_subkey h k y s n m d e f held = subst (λ (i : ℕ). Hashed i y n (m ++ d)) e (f y m (subst (λ (i : ℕ). Hashed i y s m) (sym e) held))

pub subkey_hash : (h k y r : ℕ) (s : ByteHash) (m : List ℕ) → k ≡ h → ((y : ℕ) (m : List ℕ) → Hashed k y s m → r ≡ horner k y (padded_blocks m)) → Hashed h y s m → r ≡ horner h y (padded_blocks m)
subkey_hash h k y r s m e f held = f y m (subst (λ (i : ℕ). Hashed i y s m) (sym e) held) ∙ ap (λ (i : ℕ). horner i y (padded_blocks m)) e
