-- The last blocks of a hash, which are multiplied together.
use Rattle.std.proofs.Common.{◌≡◌, ℕ, zero, suc, ◌+◌, ◌-◌, ◌*◌, ◌/◌, ◌%◌, ◌^◌, ◌<◌, ◌≤◌, min, bit_xor, refl, sym, ap, ap₂, ◌∙◌, arith, List, [], ◌∷◌, ◌++◌, get_or, take, drop, length, replicate, map, lit<, ⊎_elim, append-nil, length-append, length-take, length-drop}
use Rattle.std.specs.Int.{div_ceil}
use Rattle.std.specs.List.{range_with_len}
use Rattle.std.proofs.lemmas.Bool.{cases_lt}
use Rattle.std.proofs.lemmas.Grind.{common_steps}
use Rattle.std.proofs.lemmas.List.{take_all, drop_all, length-replicate, replicate-append-replicate}
use borrow.Rule.Slice.PartMut.{put_mid}
use Rattle.std.proofs.lemmas.List.Elements.{All-append, All-push, All-nil}
use Rattle.std_defs.specs.Blocks.{block_number, block_bytes, text_block}
use Rattle.std_defs.specs.Gcm.{padded, padded_blocks}
use Rattle.std_defs.specs.GhashField.{field_product, ghash}
use Rattle.std_defs.proofs.Field.{field_product-comm, field_product-zero}
use Rattle.std_defs.proofs.FieldBytes.{block_number-same, block_number-block_bytes}
use Rattle.std_defs.proofs.Horner.{horner, horner-append, horner-is_ghash}
use Rattle.std_defs.proofs.PaddedBlocks.{padded_blocks-length, padded_blocks-fit}
use Rattle.ghash_field.specs.Laws.{padded_blocks-append, padded-whole}

-- ---- one block

zero_beyond : (n j : ℕ) → get_or (replicate n zero) j zero ≡ zero
zero_beyond n j = grind (arith, common_steps)

padded-at : (bytes : List ℕ) (i : ℕ) → get_or (padded bytes) i zero ≡ get_or bytes i zero
unfolding padded
padded-at bytes i = grind (arith, common_steps, zero_beyond)

in_part : (xs : List ℕ) (n j : ℕ) → j < n → get_or (take n (drop 0 xs)) j zero ≡ get_or xs j zero
in_part xs n j h = grind (arith, common_steps)

first_block-at : (text : List ℕ) (j : ℕ) → j < 16 → get_or (text_block text 0) j zero ≡ get_or text j zero
unfolding text_block
first_block-at text j h = in_part text 16 j h

pub length-padded : (bytes : List ℕ) → length (padded bytes) ≡ 16 * div_ceil (length bytes) 16
unfolding padded
length-padded bytes = simp (length-append, length-replicate) (whole_blocks (length bytes))
  where
    whole_blocks : (n : ℕ) → n + (16 - n % 16) % 16 ≡ 16 * div_ceil n 16
    whole_blocks n = omega arith

of_padded : (f : List ℕ → ℕ → ℕ) (p : List ℕ) (n : ℕ) → length p / 16 ≡ n → map (f p) (range_with_len 0 (length p / 16)) ≡ map (f p) (range_with_len 0 n)
of_padded f p n e = ap (λ (k : ℕ). map (f p) (range_with_len 0 k)) e

pub one_block : (bytes : List ℕ) → 0 < length bytes → length bytes ≤ 16 → padded_blocks bytes ≡ block_number (text_block bytes 0) ∷ []
unfolding padded_blocks
one_block bytes some short =
    of_padded (λ p i. block_number (text_block p i)) (padded bytes) 1 (omega (arith, length-padded bytes, once (length bytes) some short))
    ∙ ap (λ (b : ℕ). b ∷ [])
    (block_number-same (text_block (padded bytes) 0) (text_block bytes 0)
    (λ j h. first_block-at (padded bytes) j h ∙ padded-at bytes j ∙ sym (first_block-at bytes j h)))
  where
    once : (n : ℕ) → 0 < n → n ≤ 16 → div_ceil n 16 ≡ 1
    once n a b = omega arith

none : (bytes : List ℕ) → length bytes ≡ 0 → padded_blocks bytes ≡ []
none bytes e = empty (padded_blocks bytes) (padded_blocks-length bytes ∙ ap (λ (n : ℕ). div_ceil n 16) e)
  where
    empty : (xs : List ℕ) → length xs ≡ 0 → xs ≡ []
    empty [] e = refl
    empty (x ∷ xs) e = absurd (omega arith)

same : (xs : List ℕ) → text_block (take 16 xs) 0 ≡ text_block xs 0
unfolding text_block
same xs = grind (arith, common_steps)

-- the first block, and those behind it
pub first_and_others : (bytes : List ℕ) → 0 < length bytes → padded_blocks bytes ≡ block_number (text_block bytes 0) ∷ padded_blocks (drop 16 bytes)
first_and_others bytes some =
    ⊎_elim
    (λ (l : length bytes < 17).
    one_block bytes some (omega arith) ∙ ap (λ (t : List ℕ). block_number (text_block bytes 0) ∷ t) (sym (none (drop 16 bytes) (omega (arith, length-drop 16 bytes)))))
    (λ (l : 17 ≤ length bytes).
    let long : length (take 16 bytes) ≡ 16 = omega (arith, length-take 16 bytes) in
    ap padded_blocks (halves 16 bytes)
    ∙ padded_blocks-append (take 16 bytes) (drop 16 bytes) (omega arith)
    ∙ ap (λ (t : List ℕ). t ++ padded_blocks (drop 16 bytes)) (one_block (take 16 bytes) (omega arith) (omega arith) ∙ ap (λ (t : List ℕ). block_number t ∷ []) (same bytes)))
    (cases_lt (length bytes) 17)
  where
    halves : (n : ℕ) (xs : List ℕ) → xs ≡ take n xs ++ drop n xs
    halves n xs = grind (arith, common_steps)

sixteen : (v : ℕ) → length (block_bytes v) ≡ 16
unfolding block_bytes
sixteen v = refl

whole : (v : ℕ) → text_block (block_bytes v) 0 ≡ block_bytes v
unfolding text_block block_bytes
whole v = refl

pub bytes_of_one : (v : ℕ) → v < 2 ^ 128 → padded_blocks (block_bytes v) ≡ v ∷ []
bytes_of_one v fits =
    one_block (block_bytes v) (omega (arith, sixteen v)) (omega (arith, sixteen v))
    ∙ ap (λ (t : ℕ). t ∷ []) (ap block_number (whole v) ∙ block_number-block_bytes v fits)

-- ---- zeros before, and blocks behind

abbrev zeros : ℕ → List ℕ
zeros n = replicate n 0

zeros_and : (n m : ℕ) → zeros n ++ zeros m ≡ zeros (n + m)
zeros_and n m = replicate-append-replicate n m zero

zeros_in_two : (z : ℕ) → zeros (16 * suc z) ≡ zeros 16 ++ zeros (16 * z)
zeros_in_two z = ap zeros (let e : 16 * suc z ≡ 16 + 16 * z = omega arith in e) ∙ sym (zeros_and 16 (16 * z))

product_of_zero : (h : ℕ) → h < 2 ^ 128 → field_product 0 h ≡ 0
product_of_zero h fits = field_product-comm 0 h (lit< tt) fits ∙ field_product-zero h

sixteen_zeros : padded_blocks (zeros 16) ≡ 0 ∷ []
unfolding padded_blocks padded text_block block_number
sixteen_zeros = refl

only_zeros : (h z : ℕ) → h < 2 ^ 128 → horner h 0 (padded_blocks (zeros (16 * z))) ≡ 0
unfolding horner
only_zeros h zero fits = ap (horner h 0) (none [] refl)
only_zeros h (suc z) fits =
    ap (λ (t : List ℕ). horner h 0 (padded_blocks t)) (zeros_in_two z)
    ∙ ap (horner h 0) (padded_blocks-append (zeros 16) (zeros (16 * z)) refl)
    ∙ ap (λ (t : List ℕ). horner h 0 (t ++ padded_blocks (zeros (16 * z)))) sixteen_zeros
    ∙ ap (λ (t : ℕ). horner h t (padded_blocks (zeros (16 * z)))) (product_of_zero h fits)
    ∙ only_zeros h z fits

length-zeros : (n : ℕ) → length (zeros n) ≡ n
length-zeros n = length-replicate n zero

padded_twice : (bytes : List ℕ) → padded_blocks (padded bytes) ≡ padded_blocks bytes
unfolding padded_blocks
padded_twice bytes =
    ap (λ (p : List ℕ). map (λ i. block_number (text_block p i)) (range_with_len 0 (length p / 16))) (padded-whole (padded bytes) (omega (arith, length-padded bytes)))

abbrev pub Eight : List ℕ → ℕ → List ℕ → ℕ → Type 0
Eight eight first rest last = eight ≡ replicate (96 - 16 * div_ceil (length rest) 16) 0 ++ block_bytes first ++ padded rest ++ block_bytes last

pub last_blocks : (h first last : ℕ) (rest eight : List ℕ) → h < 2 ^ 128 → first < 2 ^ 128 → last < 2 ^ 128 → length rest ≤ 96 → Eight eight first rest last
    → horner h 0 (padded_blocks eight) ≡ horner h 0 (first ∷ padded_blocks rest ++ last ∷ [])
last_blocks h first last rest eight fits fits_first fits_last short is =
    ap (λ (t : List ℕ). horner h 0 (padded_blocks t)) (is ∙ ap (λ (n : ℕ). zeros n ++ block_bytes first ++ padded rest ++ block_bytes last) place)
    ∙ ap (horner h 0)
    (padded_blocks-append (before ++ block_bytes first ++ padded rest) (block_bytes last)
    (omega (arith, length-append (before ++ block_bytes first) (padded rest), length-append before (block_bytes first), length-zeros (16 * z), length-padded rest, sixteen first))
    ∙ ap₂ (λ (s t : List ℕ). s ++ t)
    (padded_blocks-append (before ++ block_bytes first) (padded rest)
    (omega (arith, length-append before (block_bytes first), length-zeros (16 * z), sixteen first))
    ∙ ap₂ (λ (s t : List ℕ). s ++ t)
    (padded_blocks-append before (block_bytes first) (omega (arith, length-zeros (16 * z)))
    ∙ ap (λ (t : List ℕ). padded_blocks before ++ t) (bytes_of_one first fits_first))
    (padded_twice rest))
    (bytes_of_one last fits_last)
    ∙ regroup (padded_blocks before) (padded_blocks rest))
    ∙ horner-append h 0 (padded_blocks before) (first ∷ padded_blocks rest ++ last ∷ [])
    ∙ ap (λ (y : ℕ). horner h y (first ∷ padded_blocks rest ++ last ∷ [])) (only_zeros h z fits)
  where
    z : ℕ
    z = 6 - div_ceil (length rest) 16

    before : List ℕ
    before = zeros (16 * (6 - div_ceil (length rest) 16))

    place : 96 - 16 * div_ceil (length rest) 16 ≡ 16 * (6 - div_ceil (length rest) 16)
    place = omega arith

    regroup : (a b : List ℕ) → a ++ (first ∷ []) ++ b ++ (last ∷ []) ≡ a ++ (first ∷ b ++ last ∷ [])
    regroup a b = grind (arith, common_steps)

-- ---- the hash of at most seven blocks more and the last

pub none_left : (h y r last : ℕ) (rest : List ℕ) → length rest ≡ 0 → r ≡ field_product (bit_xor y last) h → r ≡ horner h y (padded_blocks rest ++ last ∷ [])
unfolding horner
none_left h y r last rest e is = is ∙ ap (λ (t : List ℕ). horner h y (t ++ last ∷ [])) (sym (none rest e))

pub some_left : (h y r last b : ℕ) (rest behind : List ℕ) → 0 < length rest → behind ≡ drop 16 rest → b ≡ block_number (text_block rest 0)
    → r ≡ horner h 0 (bit_xor y b ∷ padded_blocks behind ++ last ∷ []) → r ≡ horner h y (padded_blocks rest ++ last ∷ [])
unfolding horner
some_left h y r last b rest behind some eb e is =
    is
    ∙ ap (λ (t : ℕ). horner h (field_product t h) (padded_blocks behind ++ last ∷ [])) (zero_xor (bit_xor y b))
    ∙ ap (λ (t : List ℕ). horner h y (t ++ last ∷ []))
    (ap₂ (λ (x : ℕ) (t : List ℕ). x ∷ padded_blocks t) e eb ∙ sym (first_and_others rest some))
  where
    zero_xor : (v : ℕ) → bit_xor 0 v ≡ v
    zero_xor v = refl

rest_of : (xs : List ℕ) (n : ℕ) → take (length xs - n) (drop n xs) ≡ drop n xs
rest_of xs n = take_all (length xs - n) (drop n xs) (omega (arith, length-drop n xs))

pub behind_first : (rest : List ℕ) (n : ℕ) → n ≡ min (length rest) 16 → take (length rest - n) (drop n rest) ≡ drop 16 rest
behind_first rest n e =
    rest_of rest n
    ∙ ⊎_elim
    (λ (l : length rest < 16). ap (λ (k : ℕ). drop k rest) (let at : n ≡ length rest = omega arith in at) ∙ drop_all (length rest) rest (omega arith) ∙ sym (drop_all 16 rest (omega arith)))
    (λ (l : 16 ≤ length rest). ap (λ (k : ℕ). drop k rest) (let at : n ≡ 16 = omega arith in at))
    (cases_lt (length rest) 16)

-- ---- the whole hash

module _ (h last : ℕ) (associated text : List ℕ) (fits : h < 2 ^ 128) (fits_last : last < 2 ^ 128)
    (small_a : (i : ℕ) → get_or associated i zero < 256) (small_t : (i : ℕ) → get_or text i zero < 256) where
  all_blocks : horner h 0 (padded_blocks associated ++ padded_blocks text ++ last ∷ []) ≡ ghash h (padded_blocks associated ++ padded_blocks text ++ last ∷ [])
  all_blocks =
      horner-is_ghash h (padded_blocks associated ++ padded_blocks text ++ last ∷ []) fits
      (All-append (λ b. b < 2 ^ 128) (padded_blocks associated ++ padded_blocks text) (last ∷ [])
      (All-append (λ b. b < 2 ^ 128) (padded_blocks associated) (padded_blocks text) (padded_blocks-fit associated small_a) (padded_blocks-fit text small_t))
      (All-push (λ b. b < 2 ^ 128) [] last (All-nil (λ b. b < 2 ^ 128)) fits_last))

  -- one block of associated bytes, which is the first of the last blocks
  pub short_hash : (r a : ℕ) → 0 < length associated → length associated ≤ 16 → a ≡ block_number (text_block associated 0)
      → r ≡ horner h 0 (a ∷ padded_blocks text ++ last ∷ []) → r ≡ ghash h (padded_blocks associated ++ padded_blocks text ++ last ∷ [])
  short_hash r a some short ea is =
      is
      ∙ ap (λ (b : ℕ). horner h 0 (b ∷ padded_blocks text ++ last ∷ [])) ea
      ∙ ap (λ (t : List ℕ). horner h 0 (t ++ padded_blocks text ++ last ∷ [])) (sym (one_block associated some short))
      ∙ all_blocks

  pub long_hash : (r first second n : ℕ) → n % 16 ≡ 0 → n ≤ length text → first ≡ horner h 0 (padded_blocks associated)
      → second ≡ horner h first (padded_blocks (take n text)) → r ≡ horner h second (padded_blocks (take (length text - n) (drop n text)) ++ last ∷ [])
      → r ≡ ghash h (padded_blocks associated ++ padded_blocks text ++ last ∷ [])
  long_hash r first second n whole within is_first is_second is =
      is
      ∙ ap₂ (λ (y : ℕ) (t : List ℕ). horner h y (padded_blocks t ++ last ∷ []))
      (is_second ∙ ap (λ (y : ℕ). horner h y (padded_blocks (take n text))) is_first ∙ sym (horner-append h 0 (padded_blocks associated) (padded_blocks (take n text))))
      (rest_of text n)
      ∙ sym (horner-append h 0 (padded_blocks associated ++ padded_blocks (take n text)) (padded_blocks (drop n text) ++ last ∷ []))
      ∙ ap (horner h 0)
      (regroup (padded_blocks associated) (padded_blocks (take n text)) (padded_blocks (drop n text))
      ∙ ap (λ (t : List ℕ). padded_blocks associated ++ t ++ last ∷ [])
      (sym (padded_blocks-append (take n text) (drop n text) (omega (arith, length-take n text))) ∙ ap padded_blocks (sym (in_two n text))))
      ∙ all_blocks
    where
      in_two : (n : ℕ) (xs : List ℕ) → xs ≡ take n xs ++ drop n xs
      in_two n xs = grind (arith, common_steps)

      regroup : (a b c : List ℕ) → a ++ b ++ (c ++ last ∷ []) ≡ a ++ (b ++ c) ++ last ∷ []
      regroup a b c = grind (arith, common_steps)

-- ---- eight blocks, written from the back

put_at : (a k : ℕ) (x y w z : List ℕ) → length x ≡ a → length y ≡ k → put_mid a k (x ++ (y ++ z)) w ≡ x ++ w ++ z
put_at a k x y w z ex ey = grind (arith, common_steps)

five_parts : (s n p : ℕ) → s + 16 + n + p ≡ 112 → zeros 128 ≡ zeros s ++ (zeros 16 ++ (zeros n ++ zeros p ++ zeros 16))
five_parts s n p e =
    sym
    (ap (λ (t : List ℕ). zeros s ++ (zeros 16 ++ t))
    (ap (λ (t : List ℕ). t ++ zeros 16) (zeros_and n p) ∙ zeros_and (n + p) 16)
    ∙ ap (λ (t : List ℕ). zeros s ++ t) (zeros_and 16 (n + p + 16))
    ∙ zeros_and s (16 + (n + p + 16))
    ∙ ap zeros (let e : s + (16 + (n + p + 16)) ≡ 128 = omega arith in e))

pub placed : (s k n m p : ℕ) (x r z : List ℕ) → length x ≡ 16 → length r ≡ n → length z ≡ 16 → k ≡ 16 → m ≡ n → s + 16 + n + p ≡ 112
    → put_mid 112 16 (put_mid (s + 16) m (put_mid s k (zeros 128) x) r) z ≡ zeros s ++ x ++ (r ++ zeros p) ++ z
placed s k n m p x r z lx lr lz ek em e =
    ap (λ (t : List ℕ). put_mid 112 16 (put_mid (s + 16) m t r) z)
    (ap₂ (λ (j : ℕ) (t : List ℕ). put_mid s j t x) ek (five_parts s n p e) ∙ put_at s 16 (zeros s) (zeros 16) x (zeros n ++ zeros p ++ zeros 16) (length-zeros s) refl)
    ∙ ap (λ (t : List ℕ). put_mid 112 16 t z)
    (ap₂ (λ (j : ℕ) (t : List ℕ). put_mid (s + 16) j t r) em (second (zeros s) x (zeros n) (zeros p) (zeros 16))
    ∙ put_at (s + 16) n (zeros s ++ x) (zeros n) r (zeros p ++ zeros 16) (omega (arith, length-append (zeros s) x, length-zeros s)) (length-zeros n))
    ∙ ap (λ (t : List ℕ). put_mid 112 16 t z) (third (zeros s ++ x) r (zeros p) (zeros 16))
    ∙ put_at 112 16 (zeros s ++ x ++ (r ++ zeros p)) (zeros 16) z [] (omega (arith, length-append (zeros s ++ x) (r ++ zeros p), length-append (zeros s) x, length-append r (zeros p), length-zeros s, length-zeros p)) refl
    ∙ append-nil (zeros s ++ x ++ (r ++ zeros p) ++ z)
  where
    second : (a b c d f : List ℕ) → a ++ b ++ (c ++ d ++ f) ≡ a ++ b ++ (c ++ (d ++ f))
    second a b c d f = grind (arith, common_steps)

    third : (a b c d : List ℕ) → a ++ b ++ (c ++ d) ≡ a ++ (b ++ c) ++ (d ++ [])
    third a b c d = grind (arith, common_steps)

pub eight_is : (d first last : ℕ) (x r y z : List ℕ) → d ≡ div_ceil (length r) 16 → length r ≤ 96 → x ≡ block_bytes first → y ≡ r → z ≡ block_bytes last
    → put_mid 112 16 (put_mid (96 - 16 * d + 16) (96 - 16 * d + 16 + length r - (96 - 16 * d + 16)) (put_mid (96 - 16 * d) (96 - 16 * d + 16 - (96 - 16 * d)) (zeros 128) x) y) z
    ≡ replicate (96 - 16 * div_ceil (length r) 16) 0 ++ block_bytes first ++ padded r ++ block_bytes last
unfolding padded
eight_is d first last x r y z ed short ex ey ez =
    ap₂ (λ (s t : List ℕ). put_mid 112 16 (put_mid (96 - 16 * d + 16) (96 - 16 * d + 16 + length r - (96 - 16 * d + 16)) (put_mid (96 - 16 * d) (96 - 16 * d + 16 - (96 - 16 * d)) (zeros 128) s) t) z) ex ey
    ∙ ap (put_mid 112 16 _) ez
    ∙ placed (96 - 16 * d) (96 - 16 * d + 16 - (96 - 16 * d)) (length r) (96 - 16 * d + 16 + length r - (96 - 16 * d + 16)) ((16 - length r % 16) % 16)
    (block_bytes first) r (block_bytes last) (sixteen first) refl (sixteen last) (omega arith) (omega arith) (omega arith)
    ∙ ap (λ (n : ℕ). zeros (96 - 16 * n) ++ block_bytes first ++ (r ++ zeros ((16 - length r % 16) % 16)) ++ block_bytes last) ed
