-- steps of a cipher on two blocks side by side
use Rattle.std.specs.Prelude.{◌≡◌, ℕ, zero, suc, ◌+◌, ◌*◌, ◌-◌, ◌<◌, List, [], ◌∷◌, ◌++◌, map, take, drop, length, bit_xor, refl}
use Rattle.std.specs.List.{range_with_len}
use Rattle.std.proofs.Common.{◌∙◌, ap, ap₂, subst, arith, sym, get_or, set, ◌≢◌, get_or-set_other, length-set}
use Rattle.std.proofs.lemmas.List.{take-map, drop-map, map-append, length-append, length-map, get_or_default}
use Rattle.std.proofs.lemmas.List.Edits.{map_over_more}
use lib.Lanes.{zip2}
use Rattle.std_defs.specs.Aes.{add_round_key, sub_bytes, shift_rows, mix_columns, inverse_sub_bytes, inverse_shift_rows, inverse_mix_columns, after_rounds, before_rounds, key_schedule, seal, unseal, cipher, inverse_cipher, rounds, inverse_sbox}
use Rattle.aes_block.specs.Schedule.{IsSchedule, key_of}
use Rattle.aes_block.proofs.Rounds.{round_key_is, unsealing_none, unsealing_more}
use Rattle.aes_lanes.specs.Pairs.{each_half, blocks_of}
use Rattle.aes_block.specs.KeyBlock.{key_block}
use Rattle.aes_block.proofs.KeyBlocks.{of_places}
use Rattle.aes_lanes.proofs.Halves.{front, back}

-- ---- one step after another

pub each_half_same : (f g : List ℕ → List ℕ) → ((s : List ℕ) → f s ≡ g s) → (x : List ℕ) → each_half f x ≡ each_half g x
each_half_same f g e x = ap₂ (λ (a b : List ℕ). a ++ b) (e (take 16 x)) (e (drop 16 x))

-- g of each half, where the halves were f of those of x
pub each_half_then : (f g : List ℕ → List ℕ) → ((s : List ℕ) → length (f s) ≡ 16) → (x : List ℕ) → each_half g (each_half f x) ≡ each_half (λ s. g (f s)) x
each_half_then f g long x =
    let a : List ℕ = f (take 16 x) in
    let b : List ℕ = f (drop 16 x) in
    ap₂ (λ (s t : List ℕ). g s ++ g t)
    (front a b (long (take 16 x))) (back a b (long (take 16 x)))

-- the same, where f takes each lane by itself
pub each_half_of_map : (h : ℕ → ℕ) (g : List ℕ → List ℕ) (x : List ℕ) → each_half g (map h x) ≡ each_half (λ s. g (map h s)) x
each_half_of_map h g x = ap₂ (λ (s t : List ℕ). g s ++ g t) (take-map h 16 x) (drop-map h 16 x)

pub map_of_each_half : (h : ℕ → ℕ) (f : List ℕ → List ℕ) (x : List ℕ) → map h (each_half f x) ≡ each_half (λ s. map h (f s)) x
map_of_each_half h f x = map-append h (f (take 16 x)) (f (drop 16 x))

-- ---- how long a block stays

shift_back_long : (s : List ℕ) → length (inverse_shift_rows s) ≡ 16
unfolding inverse_shift_rows
shift_back_long s = refl

pub mix_long : (s : List ℕ) → length (mix_columns s) ≡ 16
unfolding mix_columns
mix_long s = refl

mix_back_long : (s : List ℕ) → length (inverse_mix_columns s) ≡ 16
unfolding inverse_mix_columns
mix_back_long s = refl

pub key_long : (ws : List (List ℕ)) (r : ℕ) (s : List ℕ) → length (add_round_key ws r s) ≡ 16
unfolding add_round_key
key_long ws r s = refl

pub rounds_long : (ws : List (List ℕ)) (n : ℕ) (b : List ℕ) → length (after_rounds ws b n) ≡ 16
unfolding after_rounds
rounds_long ws zero b = key_long ws 0 b
rounds_long ws (suc n) b = key_long ws (suc n) (mix_columns (shift_rows (sub_bytes (after_rounds ws b n))))

pub both_long : (f : List ℕ → List ℕ) → ((s : List ℕ) → length (f s) ≡ 16) → (x : List ℕ) → length (each_half f x) ≡ 32
both_long f long x = omega (arith, length-append (f (take 16 x)) (f (drop 16 x)), long (take 16 x), long (drop 16 x))

-- ---- rounds of both blocks

pub unsealed_last_is : (y z r : List ℕ) → z ≡ each_half inverse_shift_rows y → r ≡ map inverse_sbox z → r ≡ each_half (λ s. inverse_sub_bytes (inverse_shift_rows s)) y
unsealed_last_is y z r a b = b ∙ ap (map inverse_sbox) a ∙ map_of_each_half inverse_sbox inverse_shift_rows y

pub unsealed_round_is : (y z w r : List ℕ) → z ≡ each_half inverse_mix_columns y → w ≡ each_half inverse_shift_rows z → r ≡ map inverse_sbox w
    → r ≡ each_half (λ s. inverse_sub_bytes (inverse_shift_rows (inverse_mix_columns s))) y
unsealed_round_is y z w r a b d =
    unsealed_last_is z w r b d ∙ ap (each_half (λ s. inverse_sub_bytes (inverse_shift_rows s))) a
    ∙ each_half_then inverse_mix_columns (λ s. inverse_sub_bytes (inverse_shift_rows s)) mix_back_long y

-- ---- round keys

-- a round key that lies twice in a vector is added to both blocks
key_places : (ws : List (List ℕ)) (r : ℕ) (z : ℕ → ℕ) → zip2 bit_xor (map z (range_with_len 0 32)) (key_block ws r ++ key_block ws r) ≡ each_half (add_round_key ws r) (map z (range_with_len 0 32))
unfolding add_round_key key_block
key_places ws r z = refl

pub key_added : (ws : List (List ℕ)) (r : ℕ) (x key : List ℕ) → length x ≡ 32 → key ≡ key_block ws r ++ key_block ws r → zip2 bit_xor x key ≡ each_half (add_round_key ws r) x
key_added ws r x key long e =
    ap (zip2 bit_xor x) e ∙ of_places 32 (λ y. zip2 bit_xor y (key_block ws r ++ key_block ws r) ≡ each_half (add_round_key ws r) y) (key_places ws r) x long

-- ---- unsealing

abbrev sub_shift : List ℕ → List ℕ
sub_shift s = inverse_sub_bytes (inverse_shift_rows s)

abbrev back_round : List ℕ → List ℕ
back_round s = inverse_sub_bytes (inverse_shift_rows (inverse_mix_columns s))

sub_shift_long : (s : List ℕ) → length (sub_shift s) ≡ 16
sub_shift_long s = length-map (inverse_shift_rows s) inverse_sbox ∙ shift_back_long s

-- both blocks that n more rounds come to
abbrev pub unrounds_of : ℕ → List (List ℕ) → ℕ → List ℕ → List ℕ
unrounds_of r ws n y = each_half (λ s. before_rounds (key_schedule (key_of r ws)) s n) y

pub begun_back_is : (r : ℕ) (ws : List (List ℕ)) (x key y z w : List ℕ) → length x ≡ 32 → key ≡ key_block ws r ++ key_block ws r
    → y ≡ zip2 bit_xor x key → z ≡ each_half inverse_shift_rows y → w ≡ map inverse_sbox z → w ≡ each_half (λ s. inverse_sub_bytes (inverse_shift_rows (add_round_key ws r s))) x
begun_back_is r ws x key y z w long e a b d =
    unsealed_last_is y z w b d ∙ ap (each_half sub_shift) (a ∙ key_added ws r x key long e) ∙ each_half_then (add_round_key ws r) sub_shift (key_long ws r) x

pub unseal_start : (r : ℕ) (ws : List (List ℕ)) (x y : List ℕ) → IsSchedule r ws → y ≡ each_half (λ s. inverse_sub_bytes (inverse_shift_rows (add_round_key ws r s))) x
    → unrounds_of r ws (r - 1) y ≡ each_half (unseal (key_of r ws)) x
unseal_start r ws x y h d =
    let k : List (List ℕ) = key_schedule (key_of r ws) in
    ap (unrounds_of r ws (r - 1)) d
    ∙ each_half_then (λ s. sub_shift (add_round_key ws r s)) (λ s. before_rounds k s (r - 1)) (λ s. sub_shift_long (add_round_key ws r s)) x
    ∙ each_half_same (λ s. before_rounds k (sub_shift (add_round_key ws r s)) (r - 1)) (unseal (key_of r ws)) (λ s. unsealing_none r ws s h) x

pub unseal_more : (r : ℕ) (ws : List (List ℕ)) (i n : ℕ) (x key y z : List ℕ) → IsSchedule r ws → i ≡ suc n → i < r → length y ≡ 32 → key ≡ key_block ws i ++ key_block ws i
    → unrounds_of r ws i y ≡ each_half (unseal (key_of r ws)) x → z ≡ each_half (λ s. inverse_sub_bytes (inverse_shift_rows (inverse_mix_columns s))) (zip2 bit_xor y key)
    → unrounds_of r ws n z ≡ each_half (unseal (key_of r ws)) x
unseal_more r ws i n x key y z h next below long e before d =
    let k : List (List ℕ) = key_schedule (key_of r ws) in
    ap (unrounds_of r ws n)
    (d ∙ ap (each_half back_round) (key_added ws i y key long e) ∙ each_half_then (add_round_key ws i) back_round (key_long ws i) y)
    ∙ each_half_then (λ s. back_round (add_round_key ws i s)) (λ s. before_rounds k s n) (λ s. sub_shift_long (inverse_mix_columns (add_round_key ws i s))) y
    ∙ each_half_same (λ s. before_rounds k (back_round (add_round_key ws i s)) n) (λ s. before_rounds k s i) (λ s. unsealing_more r ws s i n h next below) y
    ∙ before

pub unseal_end : (r : ℕ) (ws : List (List ℕ)) (i : ℕ) (x key y z : List ℕ) → IsSchedule r ws → i ≡ 0 → length y ≡ 32 → key ≡ key_block ws 0 ++ key_block ws 0
    → unrounds_of r ws i y ≡ each_half (unseal (key_of r ws)) x → z ≡ zip2 bit_xor y key → z ≡ each_half (unseal (key_of r ws)) x
unfolding before_rounds
unseal_end r ws i x key y z h at long e before d =
    d ∙ key_added ws 0 y key long e
    ∙ each_half_same (add_round_key ws 0) (add_round_key (key_schedule (key_of r ws)) 0) (λ s. round_key_is r ws 0 s h (omega arith)) y
    ∙ subst (λ (n : ℕ). unrounds_of r ws n y ≡ each_half (unseal (key_of r ws)) x) at before

-- ---- blocks out of pairs

pub seal_long : (k s : List ℕ) → length (seal k s) ≡ 16
unfolding seal cipher
seal_long k s = key_long (key_schedule k) (rounds k) (shift_rows (sub_bytes (after_rounds (key_schedule k) s (rounds k - 1))))

before_long : (ws : List (List ℕ)) (n : ℕ) (s : List ℕ) → length (before_rounds ws s n) ≡ 16
unfolding before_rounds
before_long ws zero s = key_long ws 0 s
before_long ws (suc n) s = before_long ws n (back_round (add_round_key ws (suc n) s))

pub unseal_long : (k s : List ℕ) → length (unseal k s) ≡ 16
unfolding unseal inverse_cipher
unseal_long k s = before_long (key_schedule k) (rounds k - 1) (sub_shift (add_round_key (key_schedule k) (rounds k) s))

pub first_alone : (f : List ℕ → List ℕ) → ((s : List ℕ) → length (f s) ≡ 16) → (b x y r : List ℕ) → length b ≡ 16 → x ≡ b ++ b → y ≡ each_half f x → r ≡ take 16 y → r ≡ f b
first_alone f long b x y r is e h g =
    g ∙ ap (take 16) (h ∙ ap (each_half f) e) ∙ front (f (take 16 (b ++ b))) (f (drop 16 (b ++ b))) (long (take 16 (b ++ b))) ∙ ap f (front b b is)

pub blocks_of_each : (f : List ℕ → List ℕ) → ((s : List ℕ) → length (f s) ≡ 16) → (xs : List (List ℕ)) → blocks_of (map (each_half f) xs) ≡ map f (blocks_of xs)
blocks_of_each f long [] = refl
blocks_of_each f long (x ∷ xs) = λ i.
    front (f (take 16 x)) (f (drop 16 x)) (long (take 16 x)) i ∷ back (f (take 16 x)) (f (drop 16 x)) (long (take 16 x)) i ∷ blocks_of_each f long xs i

-- ---- the first blocks of a row, two and two

pub first_of_pair : (f : List ℕ → List ℕ) → ((s : List ℕ) → length (f s) ≡ 16) → (b x y r : List ℕ) → take 16 x ≡ b → y ≡ each_half f x → r ≡ take 16 y → r ≡ f b
first_of_pair f long b x y r is e h = h ∙ ap (take 16) e ∙ front (f (take 16 x)) (f (drop 16 x)) (long (take 16 x)) ∙ ap f is

pub second_of_pair : (f : List ℕ → List ℕ) → ((s : List ℕ) → length (f s) ≡ 16) → (b x y r : List ℕ) → drop 16 x ≡ b → y ≡ each_half f x → r ≡ drop 16 y → r ≡ f b
second_of_pair f long b x y r is e h = h ∙ ap (drop 16) e ∙ back (f (take 16 x)) (f (drop 16 x)) (long (take 16 x)) ∙ ap f is

pub two_more : (f : List ℕ → List ℕ) (xs ys : List (List ℕ)) (n : ℕ) (v w : List ℕ) → length ys ≡ length xs → 2 * n + 1 < length xs → ys ≡ map f (take (2 * n) xs) ++ drop (2 * n) xs
    → v ≡ f (get_or ys (2 * n) []) → w ≡ f (get_or ys (2 * n + 1) []) → set (set ys (2 * n) v) (2 * n + 1) w ≡ map f (take (2 * (n + 1)) xs) ++ drop (2 * (n + 1)) xs
two_more f xs ys n v w long within done ev ew =
    ap₂ (λ (a b : List ℕ). set (set ys (2 * n) a) (2 * n + 1) b) ev (ew ∙ ap f (sym (get_or-set_other ys (2 * n) (2 * n + 1) (f (get_or ys (2 * n) [])) [] ne)))
    ∙ map_over_more f xs (set ys (2 * n) (f (get_or ys (2 * n) []))) (2 * n + 1) (get_or (set ys (2 * n) (f (get_or ys (2 * n) []))) (2 * n + 1) []) within
    (map_over_more f xs ys (2 * n) (get_or ys (2 * n) []) (omega arith) done (get_or_default ys (2 * n) [] (get_or ys (2 * n) []) (omega arith)))
    (get_or_default (set ys (2 * n) (f (get_or ys (2 * n) []))) (2 * n + 1) [] (get_or (set ys (2 * n) (f (get_or ys (2 * n) []))) (2 * n + 1) [])
    (omega (arith, length-set ys (2 * n) (f (get_or ys (2 * n) [])))))
    ∙ ap (λ (m : ℕ). map f (take m xs) ++ drop m xs) next
  where
    ne : 2 * n + 1 ≢ 2 * n
    ne = omega arith

    next : 2 * n + 1 + 1 ≡ 2 * (n + 1)
    next = omega arith
