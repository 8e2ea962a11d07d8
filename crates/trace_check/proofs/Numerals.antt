-- A number's digits, read again.
use Rattle.std.proofs.Common.{codes, ◌≡◌, ℕ, suc, ◌+◌, ◌-◌, ◌*◌, ◌/◌, ◌%◌, ◌^◌, ◌<◌, ◌≤◌, Bool, true, false, not, cond, ◌&&◌, List, [], ◌∷◌, ◌++◌, append-nil, append_assoc, length-append, subst, length, map, Option, Some, None, refl, sym, ◌∙◌, ap, arith, inl, inr, ◌⊎◌}
use Rattle.std.specs.Prelude.{◌==◌, nat_lt, nat_le, unwrap_or}
use Rattle.std.specs.Fmt.{decimal}
use Rattle.std.specs.List.{list_all, join_with_byte, slice_split, onto_first}
use Rattle.std.specs.Str.{bytes_eq}
use Rattle.std.proofs.lemmas.Bool.{eqb-true, lt-ltb, le-leb, lt-leb, cases_lt, ltb-true, leb-true, and_parts, and_from, ne_eqb, eq-eqb, not-true}
use Rattle.std.proofs.lemmas.Fmt.{decimal_by_steps, decimal_nonempty}
use Rattle.trace_text.specs.Trace.{is_visible, is_word, is_u16, is_u32, is_u64, origin_fits}
use Rattle.trace_check.specs.EventParser.{digit_after, number_at, number_from, number_of, small_of, ids_of, is_comma, hex_value, mask_in, origin_in, origin_read}
use Rattle.reply_text.specs.Origins.{origin_word}
use Rattle.reply_text.specs.declared.origin.Origin.{Origin}
use Rattle.trace_text.specs.Text.{ids_word, hex_digit, mask_word}

digit_ok : (v d : ℕ) → v * 10 + d < 2 ^ 64 → digit_after v (48 + d) ≡ Some (v * 10 + d)
digit_ok v d h =
    let e : v * 10 + ((48 + d) - 48) ≡ v * 10 + d = omega arith in
    let low : nat_le 48 (48 + d) ≡ true = le-leb 48 (48 + d) (omega arith) in
    let high : nat_lt (v * 10 + d) (2 ^ 64) ≡ true = lt-ltb (v * 10 + d) (2 ^ 64) h in
    ap (λ n. cond (nat_le 48 (48 + d) && nat_lt n (2 ^ 64)) (Some n) None) e
    ∙ (ap (λ b. cond (b && nat_lt (v * 10 + d) (2 ^ 64)) (Some (v * 10 + d)) None) low
    ∙ ap (λ b. cond b (Some (v * 10 + d)) None) high)

number_at-append : (o : Option ℕ) (xs ys : List ℕ) → number_at o (xs ++ ys) ≡ number_at (number_at o xs) ys
number_at-append None [] ys = refl
number_at-append None (x ∷ xs) ys = refl
number_at-append (Some v) [] ys = refl
number_at-append (Some v) (x ∷ xs) ys = number_at-append (digit_after v x) xs ys

ends_at : (o : Option ℕ) → number_at o [] ≡ o
ends_at None = refl
ends_at (Some v) = refl

one_digit : (n : ℕ) → n < 10 → n < 2 ^ 64 → number_from 0 ((48 + n) ∷ []) ≡ Some n
one_digit n lt h =
    let e : 0 * 10 + n ≡ n = omega arith in
    ap (λ o. number_at o []) (digit_ok 0 n (omega arith)) ∙ ap Some e

more_digits : (n : ℕ) (ds : List ℕ) → 10 ≤ n → (n / 10 < 2 ^ 64 → number_from 0 ds ≡ Some (n / 10)) → n < 2 ^ 64 → number_from 0 (ds ++ (48 + n % 10) ∷ []) ≡ Some n
more_digits n ds ge ih h =
    let small : n / 10 < 2 ^ 64 = omega arith in
    let e : n / 10 * 10 + n % 10 ≡ n = omega arith in
    number_at-append (Some 0) ds ((48 + n % 10) ∷ [])
    ∙ (ap (λ o. number_at o ((48 + n % 10) ∷ [])) (ih small)
    ∙ (ends_at (digit_after (n / 10) (48 + n % 10))
    ∙ (digit_ok (n / 10) (n % 10) (omega arith) ∙ ap Some e)))

read_decimal : (n : ℕ) → n < 2 ^ 64 → number_from 0 (decimal n) ≡ Some n
read_decimal n h =
    let P : ℕ → List ℕ → Type 0 = λ m ds. m < 2 ^ 64 → number_from 0 ds ≡ Some m in
    decimal_by_steps P (λ m lt. one_digit m lt) (λ m ds ge ih. more_digits m ds ge ih) n h h

pub number_again : (n : ℕ) → is_u64 n ≡ true → number_of (decimal n) ≡ n
number_again n f = ap (λ o. unwrap_or o 0) (read_decimal n (ltb-true n (2 ^ 64) f))

pub small_again : (n : ℕ) → is_u32 n ≡ true → small_of (decimal n) ≡ n
small_again n f =
    let l : n < 2 ^ 32 = ltb-true n (2 ^ 32) f in
    let e : number_of (decimal n) ≡ n = number_again n (lt-ltb n (2 ^ 64) (omega arith)) in
    ap (λ m. cond (nat_lt m (2 ^ 32)) m 0) e ∙ ap (λ b. cond b n 0) f

-- A mask's four digits, read again.
digit_at : (n : ℕ) → n < 16 → (n < 10) ⊎ (10 ≤ n) → (hex_value (hex_digit n) ≡ n) × (is_visible (hex_digit n) ≡ true)
digit_at n few (inl l) =
    let d : hex_digit n ≡ 48 + n = ap (λ b. cond b (48 + n) (87 + n)) (lt-ltb n 10 l) in
    let v : hex_value (48 + n) ≡ n = ap (λ b. cond b ((48 + n) - 48) ((48 + n) - 87) % 16) (lt-ltb (48 + n) 58 (omega arith)) ∙ omega arith in
    (ap hex_value d ∙ v, ap is_visible d ∙ and_from (nat_le 33 (48 + n)) (nat_le (48 + n) 126) (le-leb 33 (48 + n) (omega arith)) (le-leb (48 + n) 126 (omega arith)))
digit_at n few (inr g) =
    let d : hex_digit n ≡ 87 + n = ap (λ b. cond b (48 + n) (87 + n)) (lt-leb (suc n) 10 (omega arith)) in
    let v : hex_value (87 + n) ≡ n = ap (λ b. cond b ((87 + n) - 48) ((87 + n) - 87) % 16) (lt-leb (suc (87 + n)) 58 (omega arith)) ∙ omega arith in
    (ap hex_value d ∙ v, ap is_visible d ∙ and_from (nat_le 33 (87 + n)) (nat_le (87 + n) 126) (le-leb 33 (87 + n) (omega arith)) (le-leb (87 + n) 126 (omega arith)))

digit_again : (n : ℕ) → n < 16 → hex_value (hex_digit n) ≡ n
digit_again n few = (digit_at n few (cases_lt n 10)).0

visible_hex : (n : ℕ) → n < 16 → is_visible (hex_digit n) ≡ true
visible_hex n few = (digit_at n few (cases_lt n 10)).1

pub mask_again : (mask : ℕ) → is_u16 mask ≡ true → mask_in (mask_word mask) ≡ mask
mask_again mask f =
    let short : mask < 2 ^ 16 = ltb-true mask (2 ^ 16) f in
    let a = digit_again (mask / 4096 % 16) (omega arith) in
    let b = digit_again (mask / 256 % 16) (omega arith) in
    let c = digit_again (mask / 16 % 16) (omega arith) in
    let d = digit_again (mask % 16) (omega arith) in
    omega arith

pub visible_mask : (mask : ℕ) → list_all is_visible (mask_word mask) ≡ true
visible_mask mask =
    let d = and_from (is_visible (hex_digit (mask % 16))) true (visible_hex (mask % 16) (omega arith)) refl in
    let c = and_from (is_visible (hex_digit (mask / 16 % 16))) _ (visible_hex (mask / 16 % 16) (omega arith)) d in
    let b = and_from (is_visible (hex_digit (mask / 256 % 16))) _ (visible_hex (mask / 256 % 16) (omega arith)) c in
    and_from (is_visible (hex_digit (mask / 4096 % 16))) _ (visible_hex (mask / 4096 % 16) (omega arith)) b

-- Its digits are printed, and no commas.
visible_digit : (d : ℕ) → d < 10 → is_visible (48 + d) ≡ true
visible_digit d h = and_from (nat_le 33 (48 + d)) (nat_le (48 + d) 126) (le-leb 33 (48 + d) (omega arith)) (le-leb (48 + d) 126 (omega arith))

all_push : (p : ℕ → Bool) (ds : List ℕ) (d : ℕ) → list_all p ds ≡ true → p d ≡ true → list_all p (ds ++ d ∷ []) ≡ true
all_push p [] d h e = and_from (p d) true e refl
all_push p (x ∷ ds) d h e =
    let k = and_parts (p x) (list_all p ds) h in
    and_from (p x) (list_all p (ds ++ d ∷ [])) k.0 (all_push p ds d k.1 e)

digits_all : (p : ℕ → Bool) → ((d : ℕ) → d < 10 → p (48 + d) ≡ true) → (n : ℕ) → n < 2 ^ 64 → list_all p (decimal n) ≡ true
digits_all p each n h =
    let P : ℕ → List ℕ → Type 0 = λ m ds. list_all p ds ≡ true in
    decimal_by_steps P (λ m lt. and_from (p (48 + m)) true (each m lt) refl) (λ m ds ge ih. all_push p ds (48 + m % 10) ih (each (m % 10) (omega arith))) n h

pub visible_decimal : (n : ℕ) → is_u64 n ≡ true → list_all is_visible (decimal n) ≡ true
visible_decimal n f = digits_all is_visible visible_digit n (ltb-true n (2 ^ 64) f)

abbrev pub is_not : ℕ → ℕ → Bool
is_not c b = not (b == c)

uncomma_digit : (d : ℕ) → d < 10 → is_not 44 (48 + d) ≡ true
uncomma_digit d h = ap not (ne_eqb (48 + d) 44 (λ e. omega arith))

pub uncomma_decimal : (n : ℕ) → is_u64 n ≡ true → list_all (is_not 44) (decimal n) ≡ true
uncomma_decimal n f = digits_all (is_not 44) uncomma_digit n (ltb-true n (2 ^ 64) f)

-- Words that are joined by a byte that none of them has are cut again.
cut_first : (c : ℕ) (word rest : List ℕ) → list_all (is_not c) word ≡ true → slice_split (λ b. b == c) (word ++ c ∷ rest) ≡ word ∷ slice_split (λ b. b == c) rest
cut_first c [] rest h = ap (λ t. cond t ([] ∷ slice_split (λ b. b == c) rest) (onto_first c (slice_split (λ b. b == c) rest))) (eq-eqb c c refl)
cut_first c (b ∷ word) rest h =
    let k = and_parts (is_not c b) (list_all (is_not c) word) h in
    let e : (b == c) ≡ false = not-true (b == c) k.0 in
    ap (λ t. cond t ([] ∷ slice_split (λ b. b == c) (word ++ c ∷ rest)) (onto_first b (slice_split (λ b. b == c) (word ++ c ∷ rest)))) e
    ∙ ap (onto_first b) (cut_first c word rest k.1)

cut_last : (c : ℕ) (word : List ℕ) → list_all (is_not c) word ≡ true → slice_split (λ b. b == c) word ≡ word ∷ []
cut_last c [] h = refl
cut_last c (b ∷ word) h =
    let k = and_parts (is_not c b) (list_all (is_not c) word) h in
    let e : (b == c) ≡ false = not-true (b == c) k.0 in
    ap (λ t. cond t ([] ∷ slice_split (λ b. b == c) word) (onto_first b (slice_split (λ b. b == c) word))) e
    ∙ ap (onto_first b) (cut_last c word k.1)

pub cut_joined : (c : ℕ) (first : List ℕ) (words : List (List ℕ)) → list_all (list_all (is_not c)) (first ∷ words) ≡ true → slice_split (λ b. b == c) (join_with_byte c (first ∷ words)) ≡ first ∷ words
cut_joined c first [] h = cut_last c first (and_parts (list_all (is_not c) first) true h).0
cut_joined c first (next ∷ words) h =
    let k = and_parts (list_all (is_not c) first) (list_all (list_all (is_not c)) (next ∷ words)) h in
    cut_first c first (join_with_byte c (next ∷ words)) k.0 ∙ ap (λ ws. first ∷ ws) (cut_joined c next words k.1)

-- Ids are read again.
uncomma_all : (ids : List ℕ) → list_all is_u64 ids ≡ true → list_all (list_all (is_not 44)) (map decimal ids) ≡ true
uncomma_all [] h = refl
uncomma_all (id ∷ ids) h =
    let k = and_parts (is_u64 id) (list_all is_u64 ids) h in
    and_from (list_all (is_not 44) (decimal id)) (list_all (list_all (is_not 44)) (map decimal ids)) (uncomma_decimal id k.0) (uncomma_all ids k.1)

numbers_again : (ids : List ℕ) → list_all is_u64 ids ≡ true → map number_of (map decimal ids) ≡ ids
numbers_again [] h = refl
numbers_again (id ∷ ids) h =
    let k = and_parts (is_u64 id) (list_all is_u64 ids) h in
    let a = number_again id k.0 in let b = numbers_again ids k.1 in cc

-- a list of ids is no dash
undash_digit : (d : ℕ) → d < 10 → is_not 45 (48 + d) ≡ true
undash_digit d h = ap not (ne_eqb (48 + d) 45 (λ e. omega arith))

no_dash : (xs rest : List ℕ) → 0 < length xs → list_all (is_not 45) xs ≡ true → bytes_eq (xs ++ rest) (45 ∷ []) ≡ false
no_dash [] rest n h = absurd (omega arith)
no_dash (b ∷ bs) rest n h =
    let k = and_parts (is_not 45 b) (list_all (is_not 45) bs) h in
    let e : (b == 45) ≡ false = not-true (b == 45) k.0 in
    rw e refl

joined_no_dash : (first : List ℕ) (words : List (List ℕ)) → 0 < length first → list_all (is_not 45) first ≡ true → bytes_eq (join_with_byte 44 (first ∷ words)) (45 ∷ []) ≡ false
joined_no_dash first [] n h = ap (λ w. bytes_eq w (45 ∷ [])) (sym (append-nil first)) ∙ no_dash first [] n h
joined_no_dash first (next ∷ words) n h = no_dash first (44 ∷ join_with_byte 44 (next ∷ words)) n h

pub ids_again : (ids : List ℕ) → list_all is_u64 ids ≡ true → ids_of (ids_word ids) ≡ ids
ids_again [] h = refl
ids_again (id ∷ ids) h =
    let k = and_parts (is_u64 id) (list_all is_u64 ids) h in
    let short : id < 2 ^ 64 = ltb-true id (2 ^ 64) k.0 in
    let word = ids_word (id ∷ ids) in
    let e : bytes_eq word (45 ∷ []) ≡ false = joined_no_dash (decimal id) (map decimal ids) (decimal_nonempty id short) (digits_all (is_not 45) undash_digit id short) in
    ap (λ b. cond b [] (map number_of (slice_split is_comma word))) e
    ∙ (ap (map number_of) (cut_joined 44 (decimal id) (map decimal ids) (uncomma_all (id ∷ ids) h)) ∙ numbers_again (id ∷ ids) h)

-- ids are printed
visible_more : (ids : List ℕ) → list_all is_u64 ids ≡ true → list_all (list_all is_visible) (map decimal ids) ≡ true
visible_more [] h = refl
visible_more (id ∷ ids) h =
    let k = and_parts (is_u64 id) (list_all is_u64 ids) h in
    and_from (list_all is_visible (decimal id)) (list_all (list_all is_visible) (map decimal ids)) (visible_decimal id k.0) (visible_more ids k.1)

all_append : (p : ℕ → Bool) (xs ys : List ℕ) → list_all p xs ≡ true → list_all p ys ≡ true → list_all p (xs ++ ys) ≡ true
all_append p [] ys a b = b
all_append p (x ∷ xs) ys a b = (let k = and_parts (p x) (list_all p xs) a in and_from (p x) (list_all p (xs ++ ys)) k.0 (all_append p xs ys k.1 b))

visible_joined : (first : List ℕ) (words : List (List ℕ)) → list_all (list_all is_visible) (first ∷ words) ≡ true → list_all is_visible (join_with_byte 44 (first ∷ words)) ≡ true
visible_joined first [] h = (and_parts (list_all is_visible first) true h).0
visible_joined first (next ∷ words) h =
    let k = and_parts (list_all is_visible first) (list_all (list_all is_visible) (next ∷ words)) h in
    all_append is_visible first (44 ∷ join_with_byte 44 (next ∷ words)) k.0 (visible_joined next words k.1)

pub visible_ids : (ids : List ℕ) → list_all is_u64 ids ≡ true → list_all is_visible (ids_word ids) ≡ true
visible_ids [] h = refl
visible_ids (id ∷ ids) h = visible_joined (decimal id) (map decimal ids) (visible_more (id ∷ ids) h)

-- a printed byte is no blank and no line feed
unlike : (c b : ℕ) → c < 33 → is_visible b ≡ true → is_not c b ≡ true
unlike c b low v = ap not (ne_eqb b c (λ e. (let l = leb-true 33 b (and_parts (nat_le 33 b) (nat_le b 126) v).0 in omega arith)))

pub visible_unlike : (c : ℕ) (word : List ℕ) → c < 33 → list_all is_visible word ≡ true → list_all (is_not c) word ≡ true
visible_unlike c [] low h = refl
visible_unlike c (b ∷ word) low h =
    let k = and_parts (is_visible b) (list_all is_visible word) h in
    and_from (is_not c b) (list_all (is_not c) word) (unlike c b low k.0) (visible_unlike c word low k.1)

pub words_unlike : (c : ℕ) (words : List (List ℕ)) → c < 33 → list_all is_word words ≡ true → list_all (list_all (is_not c)) words ≡ true
words_unlike c [] low h = refl
words_unlike c (word ∷ words) low h =
    let k = and_parts (is_word word) (list_all is_word words) h in
    let v = and_parts (nat_lt 0 (length word)) (list_all is_visible word) k.0 in
    and_from (list_all (is_not c) word) (list_all (list_all (is_not c)) words) (visible_unlike c word low v.1) (words_unlike c words low k.1)

-- Each is a word.
pub word_decimal : (n : ℕ) → is_u64 n ≡ true → is_word (decimal n) ≡ true
word_decimal n f =
    and_from (nat_lt 0 (length (decimal n))) (list_all is_visible (decimal n)) (lt-ltb 0 (length (decimal n)) (decimal_nonempty n (ltb-true n (2 ^ 64) f))) (visible_decimal n f)

pub word_small : (n : ℕ) → is_u32 n ≡ true → is_word (decimal n) ≡ true
word_small n f = word_decimal n (let l : n < 2 ^ 32 = ltb-true n (2 ^ 32) f in lt-ltb n (2 ^ 64) (omega arith))

pub word_mask : (mask : ℕ) → is_word (mask_word mask) ≡ true
word_mask mask = visible_mask mask

some_joined : (first : List ℕ) (words : List (List ℕ)) → 0 < length first → 0 < length (join_with_byte 44 (first ∷ words))
some_joined [] words n = absurd (omega arith)
some_joined (b ∷ bs) [] n = n
some_joined (b ∷ bs) (next ∷ words) n = omega arith

pub word_ids : (ids : List ℕ) → list_all is_u64 ids ≡ true → is_word (ids_word ids) ≡ true
word_ids [] h = refl
word_ids (id ∷ ids) h =
    let k = and_parts (is_u64 id) (list_all is_u64 ids) h in
    let some = some_joined (decimal id) (map decimal ids) (decimal_nonempty id (ltb-true id (2 ^ 64) k.0)) in
    and_from (nat_lt 0 (length (ids_word (id ∷ ids)))) (list_all is_visible (ids_word (id ∷ ids))) (lt-ltb 0 (length (ids_word (id ∷ ids))) some) (visible_ids (id ∷ ids) h)

-- Where an ask comes from is read again.
undot_digit : (d : ℕ) → d < 10 → is_not 46 (48 + d) ≡ true
undot_digit d h = ap not (ne_eqb (48 + d) 46 (λ e. omega arith))

undot_decimal : (n : ℕ) → is_u32 n ≡ true → list_all (is_not 46) (decimal n) ≡ true
undot_decimal n f = digits_all (is_not 46) undot_digit n (let l : n < 2 ^ 32 = ltb-true n (2 ^ 32) f in omega arith)

origin_by : (client line : ℕ) (first : Bool) → (client == 0) ≡ first → is_u32 client ≡ true → is_u32 line ≡ true
    → origin_read (cond first (decimal line) (decimal client ++ codes "." ++ decimal line)) ≡ record { client = client; line = line }
origin_by client line true none c l =
    ap origin_in (cut_last 46 (decimal line) (undot_decimal line l))
    ∙ (ap (λ n. let x : Origin = record { client = 0; line = n } in x) (small_again line l)
    ∙ ap (λ k. let x : Origin = record { client = k; line = line } in x) (sym (eqb-true client 0 none)))
origin_by client line false none c l =
    ap origin_read (append_assoc (decimal client) (46 ∷ []) (decimal line))
    ∙ (ap origin_in (cut_first 46 (decimal client) (decimal line) (undot_decimal client c) ∙ ap (λ ws. decimal client ∷ ws) (cut_last 46 (decimal line) (undot_decimal line l)))
    ∙ (ap (λ k. let x : Origin = record { client = k; line = small_of (decimal line) } in x) (small_again client c)
    ∙ ap (λ n. let x : Origin = record { client = client; line = n } in x) (small_again line l)))

pub origin_again : (of : Origin) → origin_fits of ≡ true → origin_read (origin_word of) ≡ of
origin_again of f =
    let ff = and_parts (is_u32 of.client) (is_u32 of.line) f in
    origin_by of.client of.line (of.client == 0) refl ff.0 ff.1

word_by : (client line : ℕ) (first : Bool) → is_u32 client ≡ true → is_u32 line ≡ true
    → is_word (cond first (decimal line) (decimal client ++ codes "." ++ decimal line)) ≡ true
word_by client line true c l = word_small line l
word_by client line false c l =
    let wide : is_u64 client ≡ true = (let l : client < 2 ^ 32 = ltb-true client (2 ^ 32) c in lt-ltb client (2 ^ 64) (omega arith)) in
    let wide' : is_u64 line ≡ true = (let m : line < 2 ^ 32 = ltb-true line (2 ^ 32) l in lt-ltb line (2 ^ 64) (omega arith)) in
    let word : List ℕ = decimal client ++ 46 ∷ decimal line in
    subst (λ w. is_word w ≡ true) (sym (append_assoc (decimal client) (46 ∷ []) (decimal line)))
    (and_from (nat_lt 0 (length word)) (list_all is_visible word)
    (lt-ltb 0 (length word) (omega (arith, length-append (decimal client) (46 ∷ decimal line))))
    (all_append is_visible (decimal client) (46 ∷ decimal line) (visible_decimal client wide) (and_from true (list_all is_visible (decimal line)) refl (visible_decimal line wide'))))

-- and it is a word
pub word_origin : (of : Origin) → origin_fits of ≡ true → is_word (origin_word of) ≡ true
word_origin of f =
    let ff = and_parts (is_u32 of.client) (is_u32 of.line) f in
    word_by of.client of.line (of.client == 0) ff.0 ff.1
