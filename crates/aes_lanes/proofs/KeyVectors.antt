-- round keys in vectors
use Rattle.std.specs.Prelude.{◌≡◌, ℕ, ◌+◌, ◌*◌, ◌/◌, ◌%◌, ◌<◌, List, [], ◌++◌, map, length, slice_index, slice_index_or}
use Rattle.std.specs.List.{range_with_len}
use Rattle.std.proofs.Common.{sym, ◌∙◌, ap, arith, get_or, set, ◌≢◌, below_more, get_or-set_other, get_or-set_same}
use Rattle.std.proofs.lemmas.List.{get_or-map, get_or_append_left}
use Rattle.aes_lanes.specs.declared.round_keys.RoundKey.{RoundKey}
use Rattle.aes_block.specs.KeyBlock.{key_block, sixty_words, words_in}
use Rattle.aes_block.proofs.KeyBlocks.{block_long, block_at, same_places, same_block}
use Rattle.aes_lanes.specs.RoundKeys.{vectors_of, schedule_of, AreTwice}

-- the vector of a round
pub vector_at : (keys : List RoundKey) (r : ℕ) (d : RoundKey) → length keys ≡ 15 → r < 15 → AreTwice keys
    → (get_or keys r d).twice ≡ key_block (schedule_of keys) r ++ key_block (schedule_of keys) r
vector_at keys r d long h twice = sym (get_or-map (λ k. k.twice) keys r d [] (omega arith)) ∙ twice r h

-- vectors that hold the round keys of ws
abbrev pub HoldKeys : List (List ℕ) → List RoundKey → Type 0
HoldKeys ws keys = (r : ℕ) (d : RoundKey) → r < 15 → (get_or keys r d).twice ≡ key_block ws r ++ key_block ws r

vector_held : (ws : List (List ℕ)) (keys : List RoundKey) (r : ℕ) → length keys ≡ 15 → HoldKeys ws keys → r < 15 → slice_index_or (vectors_of keys) r [] ≡ key_block ws r ++ key_block ws r
vector_held ws keys r long held h = get_or-map (λ k. k.twice) keys r (record { twice = [] }) [] (omega arith) ∙ held r (record { twice = [] }) h

-- the words in the vectors are those of the schedule
pub schedule_is : (ws : List (List ℕ)) (keys : List RoundKey) → length keys ≡ 15 → HoldKeys ws keys → schedule_of keys ≡ sixty_words ws
unfolding words_in sixty_words
schedule_is ws keys long held =
    same_places (λ n. map (λ i. slice_index (slice_index_or (vectors_of keys) (n / 4) []) (4 * (n % 4) + i)) (range_with_len 0 4))
    (λ n. map (λ i. slice_index (slice_index_or ws n []) i) (range_with_len 0 4)) [] 60
    (λ n h. same_places (λ i. slice_index (slice_index_or (vectors_of keys) (n / 4) []) (4 * (n % 4) + i)) (λ i. slice_index (slice_index_or ws n []) i) 0 4
    (λ i l. ap (λ (v : List ℕ). slice_index v (4 * (n % 4) + i)) (vector_held ws keys (n / 4) long held (omega arith))
    ∙ get_or_append_left (key_block ws (n / 4)) (key_block ws (n / 4)) 0 (4 * (n % 4) + i) (omega (arith, block_long ws (n / 4)))
    ∙ block_at ws n i l))

pub twice_is : (ws : List (List ℕ)) (keys : List RoundKey) → length keys ≡ 15 → HoldKeys ws keys → AreTwice keys
twice_is ws keys long held = λ r h.
    vector_held ws keys r long held h ∙ ap (λ (b : List ℕ). b ++ b) (sym (ap (λ (v : List (List ℕ)). key_block v r) (schedule_is ws keys long held) ∙ same_block ws r h))

pub holds_more : (ws : List (List ℕ)) (keys : List RoundKey) (round : ℕ) (key : RoundKey) → round < length keys → key.twice ≡ key_block ws round ++ key_block ws round
    → ((r : ℕ) (d : RoundKey) → r < round → (get_or keys r d).twice ≡ key_block ws r ++ key_block ws r)
    → (r : ℕ) (d : RoundKey) → r < round + 1 → (get_or (set keys round key) r d).twice ≡ key_block ws r ++ key_block ws r
holds_more ws keys round key within e done r d h =
    below_more (λ r. (get_or (set keys round key) r d).twice ≡ key_block ws r ++ key_block ws r) round
    (λ r l. let ne : r ≢ round = omega arith in ap (λ (k : RoundKey). k.twice) (get_or-set_other keys round r key d ne) ∙ done r d l)
    (ap (λ (k : RoundKey). k.twice) (get_or-set_same keys round key d within) ∙ e) r h
