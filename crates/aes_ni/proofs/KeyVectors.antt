-- round keys in vectors
use Rattle.std.specs.Prelude.{◌≡◌, ℕ, ◌+◌, ◌*◌, ◌/◌, ◌%◌, ◌<◌, List, [], map, length, slice_index, slice_index_or}
use Rattle.std.specs.List.{range_with_len}
use Rattle.std.proofs.Common.{sym, ◌∙◌, ap, arith, get_or, set, ◌≢◌, below_more, get_or-set_other, get_or-set_same}
use Rattle.std.proofs.lemmas.List.{get_or-map}
use Rattle.std_defs.specs.Aes.{inverse_mix_columns}
use Rattle.aes_block.specs.KeyBlock.{key_block, sixty_words, words_in}
use Rattle.aes_block.proofs.KeyBlocks.{block_at, same_places, same_block}
use Rattle.aes_ni.specs.declared.round_keys.RoundKey.{RoundKey}
use Rattle.aes_ni.specs.RoundKeys.{vectors_of, schedule_of, AreBlocks, AreBackKeys}

-- a round key of no meaning
abbrev pub none : RoundKey
none = record { bytes = [] }

-- vectors that hold the round keys of ws
abbrev pub HoldKeys : List (List ℕ) → List RoundKey → Type 0
HoldKeys ws keys = (r : ℕ) (d : RoundKey) → r < 15 → (get_or keys r d).bytes ≡ key_block ws r

-- the words in the vectors are those of the schedule
pub schedule_is : (ws : List (List ℕ)) (keys : List RoundKey) → length keys ≡ 15 → HoldKeys ws keys → schedule_of keys ≡ sixty_words ws
unfolding words_in sixty_words
schedule_is ws keys long held =
    same_places (λ n. map (λ i. slice_index (slice_index_or (vectors_of keys) (n / 4) []) (4 * (n % 4) + i)) (range_with_len 0 4))
    (λ n. map (λ i. slice_index (slice_index_or ws n []) i) (range_with_len 0 4)) [] 60
    (λ n h. same_places (λ i. slice_index (slice_index_or (vectors_of keys) (n / 4) []) (4 * (n % 4) + i)) (λ i. slice_index (slice_index_or ws n []) i) 0 4
    (λ i l. ap (λ (v : List ℕ). slice_index v (4 * (n % 4) + i)) (get_or-map (λ k. k.bytes) keys (n / 4) none [] (omega arith) ∙ held (n / 4) none (omega arith))
    ∙ block_at ws n i l))

pub holds_more : (ws : List (List ℕ)) (keys : List RoundKey) (round : ℕ) (key : RoundKey) → round < length keys → key.bytes ≡ key_block ws round
    → ((r : ℕ) (d : RoundKey) → r < round → (get_or keys r d).bytes ≡ key_block ws r)
    → (r : ℕ) (d : RoundKey) → r < round + 1 → (get_or (set keys round key) r d).bytes ≡ key_block ws r
holds_more ws keys round key within e done r d h =
    below_more (λ r. (get_or (set keys round key) r d).bytes ≡ key_block ws r) round
    (λ r l. let ne : r ≢ round = omega arith in ap (λ (k : RoundKey). k.bytes) (get_or-set_other keys round r key d ne) ∙ done r d l)
    (ap (λ (k : RoundKey). k.bytes) (get_or-set_same keys round key d within) ∙ e) r h

pub blocks_are : (ws : List (List ℕ)) (keys : List RoundKey) → length keys ≡ 15 → HoldKeys ws keys → AreBlocks keys
blocks_are ws keys long held = λ r h.
    get_or-map (λ k. k.bytes) keys r none [] (omega arith) ∙ held r none h ∙ sym (ap (λ (v : List (List ℕ)). key_block v r) (schedule_is ws keys long held) ∙ same_block ws r h)

-- the vector of a round
pub key_at : (keys : List RoundKey) (r : ℕ) → length keys ≡ 15 → r < 15 → AreBlocks keys → (get_or keys r none).bytes ≡ key_block (schedule_of keys) r
key_at keys r long h blocks = sym (get_or-map (λ k. k.bytes) keys r none [] (omega arith)) ∙ blocks r h

-- ---- round keys after InvMixColumns

-- those below n are the keys after it
abbrev pub BackBelow : ℕ → List RoundKey → List RoundKey → Type 0
BackBelow n keys back = (r : ℕ) (d : RoundKey) → r < n → (get_or back r d).bytes ≡ inverse_mix_columns (get_or keys r none).bytes

pub back_more : (keys back : List RoundKey) (round : ℕ) (key : RoundKey) → round < length back → key.bytes ≡ inverse_mix_columns (get_or keys round none).bytes
    → BackBelow round keys back → BackBelow (round + 1) keys (set back round key)
back_more keys back round key within e done r d h =
    below_more (λ r. (get_or (set back round key) r d).bytes ≡ inverse_mix_columns (get_or keys r none).bytes) round
    (λ r l. let ne : r ≢ round = omega arith in ap (λ (k : RoundKey). k.bytes) (get_or-set_other back round r key d ne) ∙ done r d l)
    (ap (λ (k : RoundKey). k.bytes) (get_or-set_same back round key d within) ∙ e) r h

pub back_all : (keys back : List RoundKey) → length keys ≡ 15 → length back ≡ 15 → BackBelow 15 keys back → AreBackKeys keys back
back_all keys back long back_long done r h =
    get_or-map (λ k. k.bytes) back r none [] (omega arith) ∙ done r none h
    ∙ ap inverse_mix_columns (sym (get_or-map (λ k. k.bytes) keys r none [] (omega arith)))

pub back_key_at : (keys back : List RoundKey) (r : ℕ) → length back ≡ 15 → r < 15 → AreBlocks keys → AreBackKeys keys back
    → (get_or back r none).bytes ≡ inverse_mix_columns (key_block (schedule_of keys) r)
back_key_at keys back r back_long h blocks mixed =
    sym (get_or-map (λ k. k.bytes) back r none [] (omega arith)) ∙ mixed r h ∙ ap inverse_mix_columns (blocks r h)
