-- round keys as blocks, and how they are added
use Rattle.std.specs.Prelude.{◌≡◌, ℕ, ◌+◌, ◌*◌, ◌/◌, ◌%◌, ◌<◌, ◌≤◌, List, [], map, take, length, slice_index, slice_index_or, bit_xor, refl}
use Rattle.std.specs.List.{range_with_len}
use Rattle.std.proofs.Common.{sym, ◌∙◌, ap, ap₂, arith, subst, zero-add, get_or, ⊎_elim}
use Rattle.std.proofs.lemmas.Bool.{cases_lt}
use Rattle.std.proofs.lemmas.Simd.{pick_l_whole}
use Rattle.std.proofs.lemmas.List.{get_or-take, ext_get_or}
use Rattle.std.proofs.lemmas.List.FromFn.{get_or-map-range_with_len, length-map-range_with_len, take-map-range_with_len}
use lib.Lanes.{zip2}
use Rattle.std_defs.specs.Aes.{words, key_words, key_schedule, add_round_key, after_rounds, before_rounds}
use Rattle.std_defs.proofs.Words.{length-words, word_at, word_of_own, word_of_earlier}
use Rattle.aes_block.specs.KeyBlock.{key_block, sixty_words}
use Rattle.aes_block.specs.Schedule.{IsSchedule, key_of}
use Rattle.aes_block.proofs.Rounds.{round_key_is}

-- what holds of all vectors of n lanes that are read place by place
pub of_places : (n : ℕ) (P : List ℕ → Type 0) → ((z : ℕ → ℕ) → P (map z (range_with_len 0 n))) → (x : List ℕ) → length x ≡ n → P x
of_places n P h x long = subst P (pick_l_whole 0 x n long) (h (slice_index x))

-- ---- a block of a schedule

pub block_long : (ws : List (List ℕ)) (r : ℕ) → length (key_block ws r) ≡ 16
unfolding key_block
block_long ws r = refl

pub block_at : (ws : List (List ℕ)) (n i : ℕ) → i < 4 → slice_index (key_block ws (n / 4)) (4 * (n % 4) + i) ≡ slice_index (slice_index_or ws n []) i
unfolding key_block
block_at ws n i h =
    let within : 4 * (n % 4) + i < 16 = omega arith in
    let word : 4 * (n / 4) + (4 * (n % 4) + i) / 4 ≡ n = omega arith in
    let byte : (4 * (n % 4) + i) % 4 ≡ i = omega arith in
    get_or-map-range_with_len (λ j. slice_index (slice_index_or ws (4 * (n / 4) + j / 4) []) (j % 4)) 0 16 (4 * (n % 4) + i) (4 * (n % 4) + i) 0 within (zero-add (4 * (n % 4) + i))
    ∙ ap₂ (λ (m j : ℕ). slice_index (slice_index_or ws m []) j) word byte

pub same_places : {X : Type 0} (f g : ℕ → X) (d : X) (n : ℕ) → ((i : ℕ) → i < n → f i ≡ g i) → map f (range_with_len 0 n) ≡ map g (range_with_len 0 n)
same_places f g d n e =
    ext_get_or d _ _ (length-map-range_with_len f 0 n ∙ sym (length-map-range_with_len g 0 n)) (λ i h.
    let below : i < n = omega (arith, length-map-range_with_len f 0 n) in
    get_or-map-range_with_len f 0 n i i d below (zero-add i) ∙ e i below ∙ sym (get_or-map-range_with_len g 0 n i i d below (zero-add i)))

pub same_block : (ws : List (List ℕ)) (r : ℕ) → r < 15 → key_block (sixty_words ws) r ≡ key_block ws r
unfolding key_block sixty_words
same_block ws r h =
    same_places (λ i. slice_index (slice_index_or (sixty_words ws) (4 * r + i / 4) []) (i % 4)) (λ i. slice_index (slice_index_or ws (4 * r + i / 4) []) (i % 4)) 0 16 (λ i l.
    let within : 4 * r + i / 4 < 60 = omega arith in
    ap (λ (w : List ℕ). slice_index w (i % 4)) (get_or-map-range_with_len (λ n. map (λ j. slice_index (slice_index_or ws n []) j) (range_with_len 0 4)) 0 60 (4 * r + i / 4) (4 * r + i / 4) [] within (zero-add (4 * r + i / 4)))
    ∙ get_or-map-range_with_len (λ j. slice_index (slice_index_or ws (4 * r + i / 4) []) j) 0 4 (i % 4) (i % 4) 0 (omega arith) (zero-add (i % 4)))

word_long : (k : List ℕ) (m n : ℕ) → 0 < key_words k → n < m → length (get_or (words k m) n []) ≡ 4
word_long k m n p h =
    ap length (word_at k m n h)
    ∙ ⊎_elim
    (λ (l : n < key_words k). ap length (word_of_own k n l))
    (λ (l : key_words k ≤ n). ap length (word_of_earlier k n p l))
    (cases_lt n (key_words k))

-- a list of words that begins with the schedule still does so byte by byte
pub front_is : (k : List ℕ) (ws : List (List ℕ)) (m : ℕ) → 0 < key_words k → m ≤ 60 → take m ws ≡ words k m → take m (sixty_words ws) ≡ words k m
unfolding sixty_words
front_is k ws m some within e =
    take-map-range_with_len (λ n. map (λ i. slice_index (slice_index_or ws n []) i) (range_with_len 0 4)) 0 60 m within
    ∙ ext_get_or [] _ _ (length-map-range_with_len (λ n. map (λ i. slice_index (slice_index_or ws n []) i) (range_with_len 0 4)) 0 m ∙ sym (length-words k m)) (λ n h.
    let below : n < m = omega (arith, length-map-range_with_len (λ n. map (λ i. slice_index (slice_index_or ws n []) i) (range_with_len 0 4)) 0 m) in
    let same : get_or ws n [] ≡ get_or (words k m) n [] = sym (get_or-take m ws n [] below) ∙ ap (λ (v : List (List ℕ)). get_or v n []) e in
    get_or-map-range_with_len (λ n. map (λ i. slice_index (slice_index_or ws n []) i) (range_with_len 0 4)) 0 m n n [] below (zero-add n)
    ∙ ap (λ (w : List ℕ). map (slice_index w) (range_with_len 0 4)) same
    ∙ pick_l_whole 0 (get_or (words k m) n []) 4 (word_long k m n some below))

-- ---- the block is what AddRoundKey adds

pub plain_key : (ws : List (List ℕ)) (r : ℕ) (x : List ℕ) → length x ≡ 16 → zip2 bit_xor x (key_block ws r) ≡ add_round_key ws r x
unfolding add_round_key key_block
plain_key ws r = of_places 16 (λ x. zip2 bit_xor x (key_block ws r) ≡ add_round_key ws r x) (λ z. refl)

pub first_key : (r : ℕ) (ws : List (List ℕ)) (s : List ℕ) → IsSchedule r ws → add_round_key ws 0 s ≡ after_rounds (key_schedule (key_of r ws)) s 0
unfolding after_rounds
first_key r ws s h = round_key_is r ws 0 s h (omega arith)

pub first_key_back : (r : ℕ) (ws : List (List ℕ)) (s : List ℕ) → IsSchedule r ws → add_round_key ws 0 s ≡ before_rounds (key_schedule (key_of r ws)) s 0
unfolding before_rounds
first_key_back r ws s h = round_key_is r ws 0 s h (omega arith)
