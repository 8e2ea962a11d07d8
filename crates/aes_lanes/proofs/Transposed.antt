-- eight blocks by rows and in pairs
use Rattle.std.specs.Prelude.{◌≡◌, ℕ, List, [], ◌∷◌, map, length, refl}
use Rattle.std_defs.specs.Aes.{inverse_shift_rows}
use Rattle.aes_block.proofs.KeyBlocks.{of_places}
use Rattle.aes_lanes.specs.Pairs.{blocks_of}
use Rattle.aes_lanes.specs.Places.{lanes, by_rows, low_words, high_words, low_quads, high_quads, columns_on}
use Rattle.aes_lanes.specs.Rows.{eight_blocks}

-- what holds of all rows that are read place by place
pub of_four : (P : List ℕ → List ℕ → List ℕ → List ℕ → Type 0) → ((w x y z : ℕ → ℕ) → P (map w lanes) (map x lanes) (map y lanes) (map z lanes))
    → (a b c d : List ℕ) → length a ≡ 32 → length b ≡ 32 → length c ≡ 32 → length d ≡ 32 → P a b c d
of_four P h a b c d ha hb hc hd =
    of_places 32 (λ a. P a b c d) (λ w. of_places 32 (λ b. P (map w lanes) b c d) (λ x. of_places 32 (λ c. P (map w lanes) (map x lanes) c d) (λ y. of_places 32 (P (map w lanes) (map x lanes) (map y lanes)) (λ z. h w x y z) d hd) c hc) b hb) a ha

abbrev pub crossed : List ℕ → List ℕ → List ℕ → List ℕ → List (List ℕ)
crossed a b c d =
    low_quads (low_words a b) (low_words c d) ∷ high_quads (low_words a b) (low_words c d)
    ∷ low_quads (high_words a b) (high_words c d) ∷ high_quads (high_words a b) (high_words c d) ∷ []

pub rows_of_pairs : (a b c d : List ℕ) → length a ≡ 32 → length b ≡ 32 → length c ≡ 32 → length d ≡ 32
    → eight_blocks (crossed (by_rows a) (by_rows b) (by_rows c) (by_rows d)) ≡ blocks_of (a ∷ b ∷ c ∷ d ∷ [])
unfolding eight_blocks
rows_of_pairs = of_four (λ a b c d. eight_blocks (crossed (by_rows a) (by_rows b) (by_rows c) (by_rows d)) ≡ blocks_of (a ∷ b ∷ c ∷ d ∷ [])) (λ w x y z. refl)

pub pairs_of_rows : (a b c d : List ℕ) → length a ≡ 32 → length b ≡ 32 → length c ≡ 32 → length d ≡ 32
    → blocks_of (map by_rows (crossed a b c d)) ≡ eight_blocks (a ∷ b ∷ c ∷ d ∷ [])
unfolding eight_blocks
pairs_of_rows = of_four (λ a b c d. blocks_of (map by_rows (crossed a b c d)) ≡ eight_blocks (a ∷ b ∷ c ∷ d ∷ [])) (λ w x y z. refl)

-- InvShiftRows, of what stands for bytes too
pub all_shifted_back : (f : ℕ → ℕ) (a b c d : List ℕ) → length a ≡ 32 → length b ≡ 32 → length c ≡ 32 → length d ≡ 32
    → map (map f) (eight_blocks (a ∷ columns_on 3 b ∷ columns_on 2 c ∷ columns_on 1 d ∷ [])) ≡ map inverse_shift_rows (map (map f) (eight_blocks (a ∷ b ∷ c ∷ d ∷ [])))
unfolding eight_blocks inverse_shift_rows
all_shifted_back f = of_four (λ a b c d. map (map f) (eight_blocks (a ∷ columns_on 3 b ∷ columns_on 2 c ∷ columns_on 1 d ∷ [])) ≡ map inverse_shift_rows (map (map f) (eight_blocks (a ∷ b ∷ c ∷ d ∷ [])))) (λ w x y z. refl)

-- f of each byte of each block
pub mapped_blocks : (f : ℕ → ℕ) (a b c d : List ℕ) → length a ≡ 32 → length b ≡ 32 → length c ≡ 32 → length d ≡ 32
    → map (map f) (eight_blocks (a ∷ b ∷ c ∷ d ∷ [])) ≡ eight_blocks (map f a ∷ map f b ∷ map f c ∷ map f d ∷ [])
unfolding eight_blocks
mapped_blocks f = of_four (λ a b c d. map (map f) (eight_blocks (a ∷ b ∷ c ∷ d ∷ [])) ≡ eight_blocks (map f a ∷ map f b ∷ map f c ∷ map f d ∷ [])) (λ w x y z. refl)

pub mapped_twice : (g f : ℕ → ℕ) (a b c d : List ℕ) → length a ≡ 32 → length b ≡ 32 → length c ≡ 32 → length d ≡ 32
    → map (map g) (map (map f) (eight_blocks (a ∷ b ∷ c ∷ d ∷ []))) ≡ eight_blocks (map (λ x. g (f x)) a ∷ map (λ x. g (f x)) b ∷ map (λ x. g (f x)) c ∷ map (λ x. g (f x)) d ∷ [])
unfolding eight_blocks
mapped_twice g f =
    of_four (λ a b c d. map (map g) (map (map f) (eight_blocks (a ∷ b ∷ c ∷ d ∷ []))) ≡ eight_blocks (map (λ x. g (f x)) a ∷ map (λ x. g (f x)) b ∷ map (λ x. g (f x)) c ∷ map (λ x. g (f x)) d ∷ [])) (λ w x y z. refl)
