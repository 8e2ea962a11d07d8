-- states that ShiftRows, done some times, puts in order
use Rattle.std.specs.Prelude.{◌≡◌, ℕ, zero, suc, ◌+◌, ◌*◌, ◌%◌, ◌<◌, List, [], ◌∷◌, map, length, slice_index, slice_index_or, bit_xor, refl}
use Rattle.std.specs.Fn.{iterate}
use Rattle.std.proofs.Common.{sym, ◌∙◌, ap, arith, get_or}
use Rattle.std.proofs.lemmas.List.{length-map, get_or-map}
use lib.Lanes.{zip2}
use Rattle.std_defs.specs.Aes.{places, shift_rows}
use Rattle.std_defs.proofs.Enumerate.{same_below}
use Rattle.aes_block.proofs.KeyBlocks.{of_places}
use Rattle.aes_lanes.specs.Lookup.{look}
use Rattle.aes_lanes.specs.Pairs.{turned}
use Rattle.aes_lanes.specs.SealingTower.{tower_byte, ordered}
use Rattle.aes_lanes.specs.declared.one_block.TheConstants.{SHIFTED, ONE_ON, THREE_ON}
use Rattle.aes_lanes.proofs.Mixing.{places_below}
use Rattle.aes_lanes.proofs.RowsMixed.{AreBytes}

-- ---- once

pub shift_long : (s : List ℕ) → length (shift_rows s) ≡ 16
unfolding shift_rows
shift_long s = refl

pub shift_map : (f : ℕ → ℕ) (x : List ℕ) → length x ≡ 16 → map f (shift_rows x) ≡ shift_rows (map f x)
unfolding shift_rows
shift_map f = of_places 16 (λ x. map f (shift_rows x) ≡ shift_rows (map f x)) (λ z. refl)

shift_sum : (x y : List ℕ) → length x ≡ 16 → length y ≡ 16 → shift_rows (zip2 bit_xor x y) ≡ zip2 bit_xor (shift_rows x) (shift_rows y)
unfolding shift_rows
shift_sum x y h k =
    of_places 16 (λ x. shift_rows (zip2 bit_xor x y) ≡ zip2 bit_xor (shift_rows x) (shift_rows y)) (λ z.
    of_places 16 (λ y. shift_rows (zip2 bit_xor (map z places) y) ≡ zip2 bit_xor (shift_rows (map z places)) (shift_rows y)) (λ w. refl) y k) x h

shift_four : (x : List ℕ) → length x ≡ 16 → shift_rows (shift_rows (shift_rows (shift_rows x))) ≡ x
unfolding shift_rows
shift_four = of_places 16 (λ x. shift_rows (shift_rows (shift_rows (shift_rows x))) ≡ x) (λ z. refl)

-- ---- n times

pub shifts_long : (n : ℕ) (x : List ℕ) → length x ≡ 16 → length (iterate shift_rows n x) ≡ 16
shifts_long zero x h = h
shifts_long (suc n) x h = shifts_long n (shift_rows x) (shift_long x)

pub shifts_more : (n : ℕ) (x : List ℕ) → iterate shift_rows (suc n) x ≡ shift_rows (iterate shift_rows n x)
shifts_more zero x = refl
shifts_more (suc n) x = shifts_more n (shift_rows x)

pub shifts_map : (f : ℕ → ℕ) (n : ℕ) (x : List ℕ) → length x ≡ 16 → map f (iterate shift_rows n x) ≡ iterate shift_rows n (map f x)
shifts_map f zero x h = refl
shifts_map f (suc n) x h = shifts_map f n (shift_rows x) (shift_long x) ∙ ap (iterate shift_rows n) (shift_map f x h)

pub shifts_sum : (n : ℕ) (x y : List ℕ) → length x ≡ 16 → length y ≡ 16 → iterate shift_rows n (zip2 bit_xor x y) ≡ zip2 bit_xor (iterate shift_rows n x) (iterate shift_rows n y)
shifts_sum zero x y h k = refl
shifts_sum (suc n) x y h k = ap (iterate shift_rows n) (shift_sum x y h k) ∙ shifts_sum n (shift_rows x) (shift_rows y) (shift_long x) (shift_long y)

pub shifts_bytes : (n : ℕ) (x : List ℕ) → AreBytes x → AreBytes (iterate shift_rows n x)
unfolding shift_rows
shifts_bytes zero x h = h
shifts_bytes (suc n) x h = shifts_bytes n (shift_rows x) (places_below (λ i. slice_index x ((i + 4 * (i % 4)) % 16)) (λ i. h ((i + 4 * (i % 4)) % 16)))

-- four times leave a state as it is
shifts_rest : (n : ℕ) (x : List ℕ) → length x ≡ 16 → iterate shift_rows n x ≡ iterate shift_rows (n % 4) x
shifts_rest zero x h = refl
shifts_rest (suc zero) x h = refl
shifts_rest (suc (suc zero)) x h = refl
shifts_rest (suc (suc (suc zero))) x h = refl
shifts_rest (suc (suc (suc (suc n)))) x h =
    let same : n % 4 ≡ suc (suc (suc (suc n))) % 4 = omega arith in
    ap (iterate shift_rows n) (shift_four x h) ∙ shifts_rest n x h ∙ ap (λ m. iterate shift_rows m x) same

three_back : (m : ℕ) → m < 4 → (x : List ℕ) → length x ≡ 16 → iterate shift_rows m (iterate shift_rows (3 * m % 4) x) ≡ x
unfolding shift_rows
three_back m h =
    of_places 16 (λ x. iterate shift_rows m (iterate shift_rows (3 * m % 4) x) ≡ x)
    (λ z. same_below (λ m. iterate shift_rows m (iterate shift_rows (3 * m % 4) (map z places))) (λ m. map z places) 4 refl m h)

pub shifts_back : (n : ℕ) (x : List ℕ) → length x ≡ 16 → iterate shift_rows n (iterate shift_rows (3 * n) x) ≡ x
shifts_back n x h =
    let same : 3 * n % 4 ≡ 3 * (n % 4) % 4 = omega arith in
    shifts_rest n (iterate shift_rows (3 * n) x) (shifts_long (3 * n) x h)
    ∙ ap (iterate shift_rows (n % 4)) (shifts_rest (3 * n) x h ∙ ap (λ m. iterate shift_rows m x) same)
    ∙ three_back (n % 4) (omega arith) x h

-- ---- by places

shifted_at : (m : ℕ) → m < 4 → (x : List ℕ) → length x ≡ 16 → map (look x) (slice_index_or SHIFTED m []) ≡ iterate shift_rows m x
unfolding shift_rows
shifted_at m h =
    of_places 16 (λ x. map (look x) (slice_index_or SHIFTED m []) ≡ iterate shift_rows m x)
    (λ z. same_below (λ m. map (look (map z places)) (slice_index_or SHIFTED m [])) (λ m. iterate shift_rows m (map z places)) 4 refl m h)

pub shifted_is : (n : ℕ) (x : List ℕ) → length x ≡ 16 → map (look x) (slice_index_or SHIFTED (n % 4) []) ≡ iterate shift_rows n x
shifted_is n x h = shifted_at (n % 4) (omega arith) x h ∙ sym (shifts_rest n x h)

-- what a shuffle of the table does to states in order
abbrev Turns : ℕ → List (List ℕ) → ℕ → List ℕ → Type 0
Turns k table m x = iterate shift_rows m (map tower_byte (map (look x) (slice_index_or table m []))) ≡ turned k (iterate shift_rows m (map tower_byte x))

one_at : (m : ℕ) → m < 4 → (x : List ℕ) → length x ≡ 16 → Turns 1 ONE_ON m x
unfolding shift_rows
one_at m h =
    of_places 16 (Turns 1 ONE_ON m)
    (λ z. same_below (λ m. iterate shift_rows m (map tower_byte (map (look (map z places)) (slice_index_or ONE_ON m [])))) (λ m. turned 1 (iterate shift_rows m (map tower_byte (map z places)))) 4 refl m h)

three_at : (m : ℕ) → m < 4 → (x : List ℕ) → length x ≡ 16 → Turns 3 THREE_ON m x
unfolding shift_rows
three_at m h =
    of_places 16 (Turns 3 THREE_ON m)
    (λ z. same_below (λ m. iterate shift_rows m (map tower_byte (map (look (map z places)) (slice_index_or THREE_ON m [])))) (λ m. turned 3 (iterate shift_rows m (map tower_byte (map z places)))) 4 refl m h)

turned_is : (k : ℕ) (table : List (List ℕ)) → map length table ≡ 16 ∷ 16 ∷ 16 ∷ 16 ∷ [] → ((m : ℕ) → m < 4 → (x : List ℕ) → length x ≡ 16 → Turns k table m x)
    → (n : ℕ) (x r : List ℕ) → length x ≡ 16 → r ≡ map (look x) (slice_index_or table (n % 4) []) → ordered n r ≡ turned k (ordered n x)
turned_is k table long at n x r h e =
    let row : List ℕ = slice_index_or table (n % 4) [] in
    let row_long : length row ≡ 16 =
    sym (get_or-map length table (n % 4) [] 0 (omega (arith, ap length long, length-map table length)))
    ∙ ap (λ (v : List ℕ). get_or v (n % 4) 0) long
    ∙ same_below (λ m. get_or (16 ∷ 16 ∷ 16 ∷ 16 ∷ []) m 0) (λ m. 16) 4 refl (n % 4) (omega arith) in
    ap (ordered n) e
    ∙ shifts_rest n (map tower_byte (map (look x) row)) (length-map (map (look x) row) tower_byte ∙ length-map row (look x) ∙ row_long)
    ∙ at (n % 4) (omega arith) x h
    ∙ ap (turned k) (sym (shifts_rest n (map tower_byte x) (length-map x tower_byte ∙ h)))

pub one_is : (n : ℕ) (x r : List ℕ) → length x ≡ 16 → r ≡ map (look x) (slice_index_or ONE_ON (n % 4) []) → ordered n r ≡ turned 1 (ordered n x)
one_is = turned_is 1 ONE_ON refl one_at

pub three_is : (n : ℕ) (x r : List ℕ) → length x ≡ 16 → r ≡ map (look x) (slice_index_or THREE_ON (n % 4) []) → ordered n r ≡ turned 3 (ordered n x)
three_is = turned_is 3 THREE_ON refl three_at
