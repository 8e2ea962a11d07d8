-- a text that is changed piece by piece, and a stream that goes on
use Rattle.std.specs.Prelude.{◌≡◌, ℕ, ◌+◌, ◌-◌, ◌*◌, ◌/◌, ◌%◌, ◌<◌, ◌≤◌, List, [], length, map, take, drop, slice_index, slice_index_or, bit_xor, refl}
use Rattle.std.specs.List.{range_with_len}
use Rattle.std.proofs.Common.{sym, ◌∙◌, ap, ap₂, arith, rules, get_or, ⊎_elim, zero-add, subst, ◌++◌}
use Rattle.std.proofs.lemmas.Bool.{cases_lt}
use Rattle.std.proofs.lemmas.Grind.{common_steps}
use Rattle.std.proofs.lemmas.List.{places, get_or-map, get_or-take, get_or-drop, length-take}
use Rattle.std.proofs.lemmas.List.FromFn.{fill_by_all, get_or-map-range_with_len, length-map-range_with_len}
use borrow.Rule.Slice.PartMut.{put_mid}
use Rattle.std_defs.specs.Blocks.{with_stream}
use Rattle.ctr_mode.specs.Streams.{with_bytes, key_byte, IsOn, AreFirst}

-- ---- a piece of a text

put_before : (xs ys : List ℕ) (a k j : ℕ) → j < a → a ≤ length xs → get_or (put_mid a k xs ys) j 0 ≡ get_or xs j 0
put_before xs ys a k j h within = search (rules, places)

put_inside : (xs ys : List ℕ) (a k j : ℕ) → a ≤ length xs → a ≤ j → j < a + length ys → get_or (put_mid a k xs ys) j 0 ≡ get_or ys (j - a) 0
put_inside xs ys a k j within from below = grind (arith, common_steps)

put_behind : (xs ys : List ℕ) (a k j : ℕ) → a + k ≤ length xs → length ys ≡ k → a + k ≤ j → get_or (put_mid a k xs ys) j 0 ≡ get_or xs j 0
put_behind xs ys a k j within long from = grind (arith, common_steps)

put-length : (xs ys : List ℕ) (a k : ℕ) → a + k ≤ length xs → length ys ≡ k → length (put_mid a k xs ys) ≡ length xs
put-length xs ys a k within long = grind (arith, common_steps)

pub in_piece : (xs : List ℕ) (a k j : ℕ) → j < k → get_or (take k (drop a xs)) j 0 ≡ get_or xs (a + j) 0
in_piece xs a k j h = grind (arith, common_steps)

pub piece-length : (xs : List ℕ) (a k : ℕ) → a + k ≤ length xs → length (take k (drop a xs)) ≡ k
piece-length xs a k within = grind (arith, common_steps)

-- ---- a text of which the first n bytes are xored

pub record Xored (stream : ℕ → ℕ) (orig now : List ℕ) (n : ℕ) : Type 0 where
  pub done : (k : ℕ) → k < n → get_or now k 0 ≡ bit_xor (get_or orig k 0) (stream k)
  pub to_do : (k : ℕ) → n ≤ k → get_or now k 0 ≡ get_or orig k 0
  pub long : length now ≡ length orig

pub xored_none : (stream : ℕ → ℕ) (xs : List ℕ) → Xored stream xs xs 0
xored_none stream xs = record { done = λ k h. absurd (omega arith); to_do = λ k h. refl; long = refl }

pub xored_more : (stream : ℕ → ℕ) (orig now new : List ℕ) (a k : ℕ) → a + k ≤ length now → length new ≡ k
    → ((j : ℕ) → j < k → get_or new j 0 ≡ bit_xor (get_or (take k (drop a now)) j 0) (stream (a + j)))
    → Xored stream orig now a → Xored stream orig (put_mid a k now new) (a + k)
xored_more stream orig now new a k within long e x = record {
  done = λ j h. ⊎_elim
      (λ (l : j < a). put_before now new a k j l (omega arith) ∙ x.done j l)
      (λ (l : a ≤ j).
      let at : a + (j - a) ≡ j = omega arith in
      put_inside now new a k j (omega arith) l (omega arith)
      ∙ e (j - a) (omega arith)
      ∙ ap₂ bit_xor (in_piece now a k (j - a) (omega arith) ∙ ap (λ (i : ℕ). get_or now i 0) at ∙ x.to_do j l) (ap stream at))
      (cases_lt j a);
  to_do = λ j h. put_behind now new a k j within long h ∙ x.to_do j (omega arith);
  long = put-length now new a k within long ∙ x.long;
}

pub xored_all : (stream : ℕ → ℕ) (orig now : List ℕ) (n : ℕ) → Xored stream orig now n → length orig ≤ n → now ≡ with_bytes stream orig
unfolding with_bytes
xored_all stream orig now n x h = fill_by_all (λ i. bit_xor (get_or orig i 0) (stream i)) now (length orig) 0 x.long (λ k l. x.done k (omega arith))

pub with_bytes_is : (stream : ℕ → ℕ) (orig now : List ℕ) → length now ≡ length orig → ((k : ℕ) → k < length orig → get_or now k 0 ≡ bit_xor (get_or orig k 0) (stream k)) → now ≡ with_bytes stream orig
unfolding with_bytes
with_bytes_is stream orig now long e = fill_by_all (λ i. bit_xor (get_or orig i 0) (stream i)) now (length orig) 0 long e

pub with_bytes-at : (stream : ℕ → ℕ) (text : List ℕ) (k : ℕ) → k < length text → get_or (with_bytes stream text) k 0 ≡ bit_xor (get_or text k 0) (stream k)
unfolding with_bytes
with_bytes-at stream text k h = get_or-map-range_with_len (λ i. bit_xor (get_or text i 0) (stream i)) 0 (length text) k k 0 h (zero-add k)

pub length-with_bytes : (stream : ℕ → ℕ) (text : List ℕ) → length (with_bytes stream text) ≡ length text
unfolding with_bytes
length-with_bytes stream text = length-map-range_with_len (λ i. bit_xor (get_or text i 0) (stream i)) 0 (length text)

-- ---- a stream that goes on

pub key_on : (sealed : List ℕ → List ℕ) (block block' : ℕ → List ℕ) (used used' n : ℕ) → IsOn block used n block' used' → (k : ℕ) → key_byte sealed block' used' k ≡ key_byte sealed block used (n + k)
key_on sealed block block' used used' n h k =
    let row : (used' + k) / 16 + (used + n) / 16 ≡ (used + (n + k)) / 16 = omega (arith, h.0) in
    let place : (used' + k) % 16 ≡ (used + (n + k)) % 16 = omega (arith, h.0) in
    ap₂ (λ (b : List ℕ) (i : ℕ). slice_index (sealed b) i) (h.1 ((used' + k) / 16) ∙ ap block row) place

pub on_on : (block block' block'' : ℕ → List ℕ) (used used' used'' n m : ℕ) → IsOn block used n block' used' → IsOn block' used' m block'' used'' → IsOn block used (n + m) block'' used''
on_on block block' block'' used used' used'' n m h l = (
  omega (arith, h.0, l.0),
  λ i. let row : i + (used' + m) / 16 + (used + n) / 16 ≡ i + (used + (n + m)) / 16 = omega (arith, h.0) in l.1 i ∙ h.1 (i + (used' + m) / 16) ∙ ap block row,
)

-- ---- a text that a stream is applied to, piece by piece

pub record Applied (sealed : List ℕ → List ℕ) (block : ℕ → List ℕ) (used : ℕ) (orig now : List ℕ) (n : ℕ) (block' : ℕ → List ℕ) (used' : ℕ) : Type 0 where
  pub xored : Xored (key_byte sealed block used) orig now n
  pub on : IsOn block used n block' used'

front_mid : (xs ys : List ℕ) (k : ℕ) → k ≤ length xs → length ys ≡ k → put_mid 0 k xs ys ≡ ys ++ drop k xs
front_mid xs ys k within long = grind (arith, common_steps)

-- the front of a text
pub applied_front : (sealed : List ℕ → List ℕ) (block block' : ℕ → List ℕ) (used used' : ℕ) (orig new : List ℕ) (k m : ℕ) → k ≤ length orig → m ≡ k
    → new ≡ with_bytes (key_byte sealed block used) (take k orig) → IsOn block used (length (take k orig)) block' used'
    → Applied sealed block used orig (new ++ drop k orig) m block' used'
applied_front sealed block block' used used' orig new k m within at made on =
    let piece : length (take k orig) ≡ k = piece-length orig 0 k (omega arith) in
    let long : length new ≡ k = ap length made ∙ length-with_bytes (key_byte sealed block used) (take k orig) ∙ piece in
    let none : 0 + k ≡ k = zero-add k in
    let more : Xored (key_byte sealed block used) orig (put_mid 0 k orig new) (0 + k) =
    xored_more (key_byte sealed block used) orig orig new 0 k (omega arith) long
    (λ j h. ap (λ (v : List ℕ). get_or v j 0) made ∙ with_bytes-at (key_byte sealed block used) (take k orig) j (omega arith)
    ∙ ap (bit_xor (get_or (take k orig) j 0)) (ap (key_byte sealed block used) (sym (zero-add j))))
    (xored_none (key_byte sealed block used) orig) in
    let front : Xored (key_byte sealed block used) orig (new ++ drop k orig) (0 + k) =
    subst (λ (t : List ℕ). Xored (key_byte sealed block used) orig t (0 + k)) (front_mid orig new k within long) more in
    record {
      xored = subst (Xored (key_byte sealed block used) orig (new ++ drop k orig)) (none ∙ sym at) front;
      on = subst (λ (n : ℕ). IsOn block used n block' used') (piece ∙ sym at) on;
    }

-- one more piece
pub applied_more : (sealed : List ℕ → List ℕ) (block block' block'' : ℕ → List ℕ) (used used' used'' : ℕ) (orig now new : List ℕ) (from a k m : ℕ) → from ≡ a → a + k ≤ length now → m ≡ a + k
    → new ≡ with_bytes (key_byte sealed block' used') (take k (drop a now)) → IsOn block' used' (length (take k (drop a now))) block'' used''
    → Applied sealed block used orig now from block' used' → Applied sealed block used orig (put_mid a k now new) m block'' used''
applied_more sealed block block' block'' used used' used'' orig now new from a k m at within next made on applied =
    let x : Applied sealed block used orig now a block' used' = subst (λ (n : ℕ). Applied sealed block used orig now n block' used') at applied in
    let piece : length (take k (drop a now)) ≡ k = piece-length now a k within in
    let long : length new ≡ k = ap length made ∙ length-with_bytes (key_byte sealed block' used') (take k (drop a now)) ∙ piece in
    record {
      xored = subst (Xored (key_byte sealed block used) orig (put_mid a k now new)) (sym next)
          (xored_more (key_byte sealed block used) orig now new a k within long
          (λ j h. ap (λ (v : List ℕ). get_or v j 0) made ∙ with_bytes-at (key_byte sealed block' used') (take k (drop a now)) j (omega arith)
          ∙ ap (bit_xor (get_or (take k (drop a now)) j 0)) (key_on sealed block block' used used' a x.on j)) x.xored);
      on = subst (λ (n : ℕ). IsOn block used n block'' used'') (sym next)
          (on_on block block' block'' used used' used'' a k x.on (subst (λ (n : ℕ). IsOn block' used' n block'' used'') piece on));
    }

-- ---- what a cipher makes of the first block, and of the first eight

pub within_block : (sealed : List ℕ → List ℕ) (row : ℕ → List ℕ) (used : ℕ) (first sealed_first bytes piece new : List ℕ) → used + length piece ≤ 16
    → first ≡ row 0 → sealed_first ≡ sealed first → bytes ≡ take (16 - used) (drop used sealed_first) → length new ≡ length piece
    → ((k : ℕ) → k < length piece → slice_index new k ≡ bit_xor (slice_index piece k) (slice_index bytes k)) → new ≡ with_bytes (key_byte sealed row used) piece
within_block sealed row used first sealed_first bytes piece new within e d b long made =
    with_bytes_is (key_byte sealed row used) piece new long (λ k h.
    let none : 0 ≡ (used + k) / 16 = omega arith in
    let place : used + k ≡ (used + k) % 16 = omega arith in
    made k h ∙ ap (bit_xor (slice_index piece k))
    (ap (λ (v : List ℕ). slice_index v k) b ∙ in_piece sealed_first used (16 - used) k (omega arith)
    ∙ ap₂ (λ (v : List ℕ) (i : ℕ). slice_index v i) (d ∙ ap sealed (e ∙ ap row none)) place))

pub eight_blocks : (sealed : List ℕ → List ℕ) (row : ℕ → List ℕ) (used : ℕ) (rows blocks : List (List ℕ)) (text new : List ℕ) → used ≡ 0 → length text ≡ 128
    → rows ≡ map row (range_with_len 0 8) → blocks ≡ map sealed rows → length new ≡ length text
    → ((k : ℕ) → k < 128 → slice_index new k ≡ bit_xor (slice_index text k) (slice_index (slice_index_or blocks (k / 16) []) (k % 16))) → new ≡ with_bytes (key_byte sealed row used) text
eight_blocks sealed row used rows blocks text new start is e d long made =
    with_bytes_is (key_byte sealed row used) text new long (λ k h.
    let row_at : k / 16 ≡ (used + k) / 16 = omega arith in
    let place : k % 16 ≡ (used + k) % 16 = omega arith in
    let below : k / 16 < 8 = omega arith in
    let eight : length rows ≡ 8 = ap length e ∙ length-map-range_with_len row 0 8 in
    made k (omega arith) ∙ ap (bit_xor (slice_index text k))
    (ap₂ (λ (v : List ℕ) (i : ℕ). slice_index v i)
    (ap (λ (v : List (List ℕ)). slice_index_or v (k / 16) []) d ∙ get_or-map sealed rows (k / 16) [] [] (omega arith)
    ∙ ap sealed (ap (λ (v : List (List ℕ)). slice_index_or v (k / 16) []) e ∙ get_or-map-range_with_len row 0 8 (k / 16) (k / 16) [] below (zero-add (k / 16)) ∙ ap row row_at)) place))

-- of eight blocks the first ones are sealed
pub some_sealed : (sealed : List ℕ → List ℕ) (row : ℕ → List ℕ) (rows blocks : List (List ℕ)) (count j : ℕ) → rows ≡ map row (range_with_len 0 8)
    → take count blocks ≡ map sealed (take count rows) → count ≤ 8 → j < count → get_or blocks j [] ≡ sealed (row j)
some_sealed sealed row rows blocks count j e d within below =
    let eight : length rows ≡ 8 = ap length e ∙ length-map-range_with_len row 0 8 in
    sym (get_or-take count blocks j [] below)
    ∙ ap (λ (v : List (List ℕ)). get_or v j []) d
    ∙ get_or-map sealed (take count rows) j [] [] (omega (arith, length-take count rows))
    ∙ ap sealed (get_or-take count rows j [] below ∙ ap (λ (v : List (List ℕ)). get_or v j []) e ∙ get_or-map-range_with_len row 0 8 j j [] (omega arith) (zero-add j))

pub some_blocks : (sealed : List ℕ → List ℕ) (row : ℕ → List ℕ) (used count : ℕ) (rows blocks : List (List ℕ)) (text new : List ℕ) → used ≡ 0 → length text ≤ 16 * count → count ≤ 8
    → rows ≡ map row (range_with_len 0 8) → take count blocks ≡ map sealed (take count rows) → length new ≡ length text
    → ((k : ℕ) → k < length text → slice_index new k ≡ bit_xor (slice_index text k) (slice_index (slice_index_or blocks (k / 16) []) (k % 16))) → new ≡ with_bytes (key_byte sealed row used) text
some_blocks sealed row used count rows blocks text new start room within e d long made =
    with_bytes_is (key_byte sealed row used) text new long (λ k h.
    let row_at : k / 16 ≡ (used + k) / 16 = omega arith in
    let place : k % 16 ≡ (used + k) % 16 = omega arith in
    made k h ∙ ap (bit_xor (slice_index text k))
    (ap₂ (λ (v : List ℕ) (i : ℕ). slice_index v i) (some_sealed sealed row rows blocks count (k / 16) e d within (omega arith) ∙ ap sealed (ap row row_at)) place))

pub no_bytes : (stream : ℕ → ℕ) (text : List ℕ) → length text ≡ 0 → text ≡ with_bytes stream text
no_bytes stream text h = with_bytes_is stream text text refl (λ k l. absurd (omega arith))

-- ---- from the first byte on

pub from_start : (sealed : List ℕ → List ℕ) (block : ℕ → List ℕ) (text : List ℕ) → with_bytes (key_byte sealed block 0) text ≡ with_stream (λ n. sealed (block n)) text
unfolding with_bytes with_stream
from_start sealed block text = ap (λ (f : ℕ → ℕ). map (λ i. bit_xor (slice_index text i) (f i)) (range_with_len 0 (length text)))
    (λ j k. slice_index (sealed (block (zero-add k j / 16))) (zero-add k j % 16))

-- ---- the ciphers behind the first

-- the front of a text under those that stand ready, and its rest under the row behind them
pub behind_first : (sealed : List ℕ → List ℕ) (block behind : ℕ → List ℕ) (ciphers others : List (List ℕ)) (text front rest : List ℕ) (m k : ℕ)
    → m ≤ 112 → m + k ≡ length text → (0 < k → m ≡ 112) → others ≡ take 7 (drop 1 ciphers)
    → ((j : ℕ) → behind j ≡ block (j + 8)) → AreFirst sealed block (length text) ciphers → length front ≡ m
    → ((i : ℕ) → i < m → slice_index front i ≡ bit_xor (slice_index (take m text) i) (slice_index (slice_index_or others (i / 16) []) (i % 16)))
    → rest ≡ with_stream (λ n. sealed (behind n)) (take k (drop m (front ++ drop m text)))
    → put_mid m k (front ++ drop m text) rest ≡ with_stream (λ n. sealed (block (n + 1))) text
behind_first sealed block behind ciphers others text front rest m k near whole full is_others on ready long made is_rest =
    let stream : ℕ → ℕ = key_byte sealed (λ n. block (n + 1)) 0 in
    let half : List ℕ = front ++ drop m text in
    let none : 0 + m ≡ m = zero-add m in
    let begun : Xored stream text (put_mid 0 m text front) (0 + m) =
    xored_more stream text text front 0 m (omega arith) long
    (λ j h.
    let row : 1 + j / 16 ≡ (0 + (0 + j)) / 16 + 1 = omega arith in
    let place : j % 16 ≡ (0 + (0 + j)) % 16 = omega arith in
    made j h ∙ ap (bit_xor (slice_index (take m text) j))
    (ap₂ (λ (v : List ℕ) (i : ℕ). slice_index v i)
    (ap (λ (v : List (List ℕ)). get_or v (j / 16) []) is_others ∙ get_or-take 7 (drop 1 ciphers) (j / 16) [] (omega arith) ∙ get_or-drop 1 ciphers (j / 16) []
    ∙ ready (1 + j / 16) (omega arith) (omega arith) ∙ ap sealed (ap block row)) place))
    (xored_none stream text) in
    let first : Xored stream text half m =
    subst (Xored stream text half) none (subst (λ (t : List ℕ). Xored stream text t (0 + m)) (front_mid text front m (omega arith) long) begun) in
    let piece : List ℕ = take k (drop m half) in
    let piece_long : length piece ≡ k = piece-length half m k (omega (arith, first.long)) in
    let made_rest : rest ≡ with_bytes (key_byte sealed behind 0) piece = is_rest ∙ sym (from_start sealed behind piece) in
    let both : Xored stream text (put_mid m k half rest) (m + k) =
    xored_more stream text half rest m k (omega (arith, first.long)) (ap length made_rest ∙ length-with_bytes (key_byte sealed behind 0) piece ∙ piece_long)
    (λ j h.
    let at : m ≡ 112 = full (omega arith) in
    let row : (0 + j) / 16 + 8 ≡ (0 + (m + j)) / 16 + 1 = omega arith in
    let place : (0 + j) % 16 ≡ (0 + (m + j)) % 16 = omega arith in
    ap (λ (v : List ℕ). get_or v j 0) made_rest ∙ with_bytes-at (key_byte sealed behind 0) piece j (omega arith)
    ∙ ap (bit_xor (get_or piece j 0)) (ap₂ (λ (b : List ℕ) (i : ℕ). slice_index (sealed b) i) (on ((0 + j) / 16) ∙ ap block row) place))
    first in
    xored_all stream text _ (m + k) both (omega arith) ∙ from_start sealed (λ n. block (n + 1)) text
