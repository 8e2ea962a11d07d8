-- round keys by rows, in an array
use Rattle.std.specs.Prelude.{◌≡◌, ℕ, ◌+◌, ◌<◌, ◌≤◌, List, [], ◌∷◌, map, length, refl}
use Rattle.std.proofs.Common.{sym, ◌∙◌, ap, arith, get_or, set, ◌≢◌, below_more, get_or-set_other, get_or-set_same}
use Rattle.std.proofs.lemmas.List.{get_or-map}
use Rattle.aes_block.proofs.KeyBlocks.{of_places}
use Rattle.aes_lanes.specs.RowKeys.{row_of, bytes_by, four_rows, StandFor}
use Rattle.aes_lanes.specs.declared.round_keys.RoundKey.{RoundKey}
use Rattle.aes_lanes.specs.declared.row_keys.RowKey.{RowKey}

-- what stands for a key behind the last
abbrev pub none : RoundKey
none = record { twice = [] }

-- the rows below n stand for g of the keys
abbrev pub StandBelow : ℕ → (ℕ → ℕ) → (List ℕ → List ℕ) → List RoundKey → List RowKey → Type 0
StandBelow n f g keys rows = (r : ℕ) (d : RowKey) → r < n → bytes_by f (get_or rows r d) ≡ four_rows (g (get_or keys r none).twice)

pub rows_more : (f : ℕ → ℕ) (g : List ℕ → List ℕ) (keys : List RoundKey) (rows : List RowKey) (round : ℕ) (key : RowKey) → round < length rows
    → bytes_by f key ≡ four_rows (g (get_or keys round none).twice) → StandBelow round f g keys rows → StandBelow (round + 1) f g keys (set rows round key)
rows_more f g keys rows round key within here done r d h =
    below_more (λ r. bytes_by f (get_or (set rows round key) r d) ≡ four_rows (g (get_or keys r none).twice)) round
    (λ r l. let ne : r ≢ round = omega arith in ap (bytes_by f) (get_or-set_other rows round r key d ne) ∙ done r d l)
    (ap (bytes_by f) (get_or-set_same rows round key d within) ∙ here)
    r h

pub rows_all : (n : ℕ) (f : ℕ → ℕ) (g : List ℕ → List ℕ) (keys : List RoundKey) (rows : List RowKey) → n ≤ 15 → length keys ≡ 15 → length rows ≡ 15
    → StandBelow n f g keys rows → StandFor n f g keys rows
rows_all n f g keys rows few long rows_long done r h =
    get_or-map (bytes_by f) rows r (record { first = []; second = []; third = []; fourth = [] }) [] (omega arith)
    ∙ done r (record { first = []; second = []; third = []; fourth = [] }) h
    ∙ ap (λ v. four_rows (g v)) (sym (get_or-map (λ k. k.twice) keys r none [] (omega arith)))

-- ---- one key

all_mapped : (f : ℕ → ℕ) (x : List ℕ) → length x ≡ 32 → map (map f) (four_rows x) ≡ four_rows (map f x)
all_mapped f = of_places 32 (λ x. map (map f) (four_rows x) ≡ four_rows (map f x)) (λ z. refl)

pub key_rows : (f : ℕ → ℕ) (x m a b c d : List ℕ) → length x ≡ 32 → a ≡ row_of 0 x → b ≡ row_of 1 x → c ≡ row_of 2 x → d ≡ row_of 3 x → map f x ≡ m
    → map f a ∷ map f b ∷ map f c ∷ map f d ∷ [] ≡ four_rows m
key_rows f x m a b c d long ea eb ec ed e =
    (λ j. map f (ea j) ∷ map f (eb j) ∷ map f (ec j) ∷ map f (ed j) ∷ []) ∙ all_mapped f x long ∙ ap four_rows e
