-- A matrix of eight by eight words, transposed by shuffles.
use Rattle.std.specs.Prelude.{◌≡◌, ℕ, List, [], ◌∷◌, ◌++◌, ◌+◌, ◌*◌, ◌<◌, ◌≤◌, map, length, slice_index, slice_index_or, refl}
use Rattle.std.specs.List.{range_with_len}
use Rattle.std.proofs.Common.{ap, arith, subst, ◌∙◌}
use Rattle.std.proofs.lemmas.List.FromFn.{get_or-map-range_with_len}
use Rattle.std.proofs.lemmas.Simd.{pick_l_whole}
use lib.Lanes.{pick_l}
use Rattle.sha2.specs.Sha256.{schedule, word_at}
use Rattle.sha_lanes.specs.Lanes.{block_at, first_row, in_lane}
use Rattle.sha_lanes.specs.declared.transposed.TheConstants.{LOW_WORDS, HIGH_WORDS, LOW_PAIRS, HIGH_PAIRS, LOW_HALVES, HIGH_HALVES}
use Rattle.sha_lanes.proofs.Schedules.{first_word}

abbrev lanes : List ℕ
lanes = range_with_len 0 8

-- what holds of all vectors of eight lanes that are read place by place
of_places : (P : List ℕ → Type 0) → ((z : ℕ → ℕ) → P (map z lanes)) → (x : List ℕ) → length x ≡ 8 → P x
of_places P h x long = subst P (pick_l_whole 0 x 8 long) (h (slice_index x))

of_four : (P : List ℕ → List ℕ → List ℕ → List ℕ → Type 0) → ((w x y z : ℕ → ℕ) → P (map w lanes) (map x lanes) (map y lanes) (map z lanes))
    → (a b c d : List ℕ) → length a ≡ 8 → length b ≡ 8 → length c ≡ 8 → length d ≡ 8 → P a b c d
of_four P h a b c d ha hb hc hd =
    of_places (λ a. P a b c d) (λ w. of_places (λ b. P (map w lanes) b c d) (λ x. of_places (λ c. P (map w lanes) (map x lanes) c d) (λ y. of_places (P (map w lanes) (map x lanes) (map y lanes)) (λ z. h w x y z) d hd) c hc) b hb) a ha

-- each half of four vectors, transposed
abbrev pub crossed : List ℕ → List ℕ → List ℕ → List ℕ → List (List ℕ)
crossed a b c d = map (λ k. in_lane (a ∷ b ∷ c ∷ d ∷ []) k ++ in_lane (a ∷ b ∷ c ∷ d ∷ []) (k + 4)) (range_with_len 0 4)

abbrev picked : List ℕ → List ℕ → List ℕ → List ℕ
picked x y places = pick_l 0 (x ++ y) places

abbrev pub shuffled : List ℕ → List ℕ → List ℕ → List ℕ → List (List ℕ)
shuffled a b c d =
    picked (picked a b LOW_WORDS) (picked c d LOW_WORDS) LOW_PAIRS
    ∷ picked (picked a b LOW_WORDS) (picked c d LOW_WORDS) HIGH_PAIRS
    ∷ picked (picked a b HIGH_WORDS) (picked c d HIGH_WORDS) LOW_PAIRS
    ∷ picked (picked a b HIGH_WORDS) (picked c d HIGH_WORDS) HIGH_PAIRS ∷ []

pub four_crossed : (a b c d : List ℕ) → length a ≡ 8 → length b ≡ 8 → length c ≡ 8 → length d ≡ 8 → shuffled a b c d ≡ crossed a b c d
four_crossed = of_four (λ a b c d. shuffled a b c d ≡ crossed a b c d) (λ w x y z. refl)

-- the halves of both, beside one another
abbrev pub joined : List (List ℕ) → List (List ℕ) → List (List ℕ)
joined first second =
    picked (slice_index_or first 0 []) (slice_index_or second 0 []) LOW_HALVES
    ∷ picked (slice_index_or first 1 []) (slice_index_or second 1 []) LOW_HALVES
    ∷ picked (slice_index_or first 2 []) (slice_index_or second 2 []) LOW_HALVES
    ∷ picked (slice_index_or first 3 []) (slice_index_or second 3 []) LOW_HALVES
    ∷ picked (slice_index_or first 0 []) (slice_index_or second 0 []) HIGH_HALVES
    ∷ picked (slice_index_or first 1 []) (slice_index_or second 1 []) HIGH_HALVES
    ∷ picked (slice_index_or first 2 []) (slice_index_or second 2 []) HIGH_HALVES
    ∷ picked (slice_index_or first 3 []) (slice_index_or second 3 []) HIGH_HALVES ∷ []

-- the lanes of eight vectors need not be eight each
pub eight_joined : (a b c d e f g h : List ℕ) → joined (crossed a b c d) (crossed e f g h) ≡ map (in_lane (a ∷ b ∷ c ∷ d ∷ e ∷ f ∷ g ∷ h ∷ [])) lanes
eight_joined a b c d e f g h = refl

-- a word of a block, where it stands in the vectors
pub word_in : (p : List ℕ) (n t k : ℕ) {rows : List (List ℕ)} → n < 8 → k < 8 → t + 8 ≤ 16 → rows ≡ map (λ k. first_row p (t + k)) lanes
    → slice_index (slice_index_or rows k []) n ≡ slice_index (schedule (block_at p n) 48) (t + k)
word_in p n t k lane word low e =
    first_word (block_at p n) (t + k) (omega arith)
    (ap (λ rows. slice_index (slice_index_or rows k []) n) e
    ∙ ap (λ row. slice_index row n) (get_or-map-range_with_len (λ k. first_row p (t + k)) 0 8 k k [] word (omega arith))
    ∙ get_or-map-range_with_len (λ n. word_at (block_at p n) (4 * (t + k))) 0 8 n n 0 lane (omega arith))
