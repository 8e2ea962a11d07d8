-- The parts of a text.
use Rattle.std.proofs.Common.{◌≡◌, ◌∙◌, refl, sym, ap, ap₂, subst, ℕ, ◌+◌, ◌/◌, ◌%◌, ◌≤◌, Bool, true, false, cond, List, [], ◌∷◌, ◌++◌, length, map, Option, Some, None, arith, append_assoc, append-nil, length-append}
use Rattle.std.proofs.lemmas.List.{length-map}
use Rattle.std.proofs.lemmas.List.Folds.{list_all-map}
use Rattle.std.proofs.lemmas.List.Splits.{slice_split-cons_no}
use Rattle.std.proofs.lemmas.List.Sums.{sum_by-cons}
use Rattle.std.specs.Prelude.{◌==◌, ◌&&◌, ◌||◌, nat_lt, nat_le, IfSome, codes}
use Rattle.std.specs.List.{concat, sum, list_any, onto_first, slice_split}
use Rattle.std.specs.Result.{result_ok}
use Rattle.std.specs.Str.{bytes_eq}
use Rattle.hex.specs.Hex.{decode_of, decode_pairs}
use Rattle.hex.proofs.HexLemmas.{decode_of-odd}
use Rattle.sg_walk.specs.Segments.{Segmented, segmented}
use Rattle.script_text.proofs.HexLemmas.{decoded_up_to, decoded_half, decoded_joined, joined}
use Rattle.script_text.specs.Arguments.{◌>>=◌, hex_of, hexes_of, are_segments, is_bar, text_of}
use Rattle.script_text.specs.InSegments.{in_segments, spelled_in, digits_of, are_sizes}

abbrev pub text_with : List ℕ → List ℕ → Segmented
text_with text sizes = record { text = text; sizes = sizes }

same_text : (a b m n : List ℕ) → a ≡ b → m ≡ n → Some (text_with a m) ≡ Some (text_with b n)
same_text a b m n e f = ap₂ (λ (text sizes : List ℕ). Some (text_with text sizes)) e f

-- ---- digits

pub hex_by_digits : (part : List ℕ) → hex_of part ≡ result_ok (decode_of (digits_of part))
unfolding decode_pairs
hex_by_digits part =
    elim (bytes_eq part (codes "-")) as (λ c. cond c (Some []) (result_ok (decode_of part)) ≡ result_ok (decode_of (cond c [] part))) [
      | true ↦ refl
      | false ↦ refl
    ]

hex_odd : (part : List ℕ) → length (digits_of part) % 2 ≡ 1 → hex_of part ≡ None
hex_odd part odd = hex_by_digits part ∙ ap result_ok (decode_of-odd (digits_of part) odd)

-- digits that are even in number are not `-`
hex_even : (digits : List ℕ) → length digits % 2 ≡ 0 → hex_of digits ≡ result_ok (decode_of digits)
unfolding decode_pairs
hex_even [] even = refl
hex_even (digit ∷ []) even = absurd (omega (arith, even))
hex_even (high ∷ low ∷ more) even = ap (λ (c : Bool). cond c (Some []) (result_ok (decode_of (high ∷ low ∷ more)))) (never (high == 45))
  where
    never : (c : Bool) → (c && false) ≡ false
    never true = refl
    never false = refl

-- ---- the digits and sizes of the first parts, and the parts that are left

-- the bytes of the first parts, with their sizes, and those of the rest
abbrev going_on : List ℕ → Option (List ℕ) → Option (List (List ℕ)) → Option Segmented
going_on sizes front rest = front >>= (λ bytes. rest >>= (λ more. Some (text_with (bytes ++ concat more) (sizes ++ map length more))))

-- what the first parts' digits spell, with these sizes, and the parts that are left
abbrev pub still : List ℕ → List ℕ → List (List ℕ) → Option Segmented
still digits sizes parts = going_on sizes (result_ok (decode_of digits)) (hexes_of parts)

begun : (spelled : Option (List (List ℕ))) → in_segments spelled ≡ going_on [] (Some []) spelled
begun (Some parts) = refl
begun None = refl

one_more : (sizes : List ℕ) (n : ℕ) (front next : Option (List ℕ)) (rest : Option (List (List ℕ))) → IfSome next (λ bytes. length bytes ≡ n)
    → going_on sizes front (next >>= (λ bytes. rest >>= (λ more. Some (bytes ∷ more)))) ≡ going_on (sizes ++ n ∷ []) (joined front next) rest
one_more sizes n (Some front) (Some next) (Some more) long =
    same_text _ _ _ _ (sym (append_assoc front next (concat more)))
    (ap (λ (k : ℕ). sizes ++ k ∷ map length more) long ∙ sym (append_assoc sizes (n ∷ []) (map length more)))
one_more sizes n (Some front) (Some next) None long = refl
one_more sizes n (Some front) None rest long = refl
one_more sizes n None next rest long = refl

none_left : (sizes : List ℕ) (front : Option (List ℕ)) → going_on sizes front (Some []) ≡ spelled_in sizes front
none_left sizes (Some front) = same_text _ _ _ _ (append-nil front) (append-nil sizes)
none_left sizes None = refl

lost : (sizes : List ℕ) (front : Option (List ℕ)) → going_on sizes front None ≡ None
lost sizes (Some front) = refl
lost sizes None = refl

pub none_read : (parts : List (List ℕ)) → in_segments (hexes_of parts) ≡ still [] [] parts
unfolding decode_pairs
none_read parts = begun (hexes_of parts)

module _ (digits sizes : List ℕ) (even : length digits % 2 ≡ 0) where
  module _ (part : List ℕ) (parts : List (List ℕ)) where
    abbrev with_part : Option (List ℕ) → Option Segmented
    with_part spelled = going_on sizes (result_ok (decode_of digits)) (spelled >>= (λ bytes. hexes_of parts >>= (λ more. Some (bytes ∷ more))))

    pub part_read : length (digits_of part) % 2 ≡ 0 → still digits sizes (part ∷ parts) ≡ still (digits ++ digits_of part) (sizes ++ length (digits_of part) / 2 ∷ []) parts
    part_read too =
        let more = sizes ++ length (digits_of part) / 2 ∷ [] in
        ap with_part (hex_by_digits part)
        ∙ one_more sizes (length (digits_of part) / 2) (result_ok (decode_of digits)) (result_ok (decode_of (digits_of part))) (hexes_of parts) (decoded_half (digits_of part))
        ∙ ap (λ (front : Option (List ℕ)). going_on more front (hexes_of parts)) (sym (decoded_joined digits (digits_of part) even too))

    pub part_malformed : length (digits_of part) % 2 ≡ 1 → still digits sizes (part ∷ parts) ≡ None
    part_malformed odd = ap with_part (hex_odd part odd) ∙ lost sizes (result_ok (decode_of digits))

  pub all_read : still digits sizes [] ≡ spelled_in sizes (hex_of digits)
  all_read = none_left sizes (result_ok (decode_of digits)) ∙ ap (spelled_in sizes) (sym (hex_even digits even))

pub none_in_segments : (spelled : Option (List (List ℕ))) → in_segments spelled ≡ None → spelled ≡ None
none_in_segments (Some parts) e = absurd (cc)
none_in_segments None e = refl

-- ---- what a token spells, by its bytes and sizes

-- the text of these parts
abbrev text_in : Option (List (List ℕ)) → Option Segmented
text_in spelled = spelled >>= (λ parts. cond (are_segments parts) (Some (segmented parts)) None)

sized : (parts : List (List ℕ)) → are_segments parts ≡ are_sizes (map length parts)
sized parts =
    ap₂ (λ (n : ℕ) (filled : Bool). n == 1 || (nat_le n 16 && filled)) (sym (length-map parts length)) (sym (list_all-map (λ (n : ℕ). nat_lt 0 n) length parts))

pub text_in_segments : (spelled : Option (List (List ℕ))) (text : Segmented) → in_segments spelled ≡ Some text → text_in spelled ≡ cond (are_sizes text.sizes) (Some text) None
text_in_segments (Some parts) text e =
    let same : segmented parts ≡ text = cc in
    ap (λ (c : Bool). cond c (Some (segmented parts)) None) (sized parts) ∙ ap (λ (t : Segmented). cond (are_sizes t.sizes) (Some t) None) same
text_in_segments None text e = absurd (cc)

-- what all digits spell, in sizes that no text has
pub sizes_malformed : (spelled : Option (List (List ℕ))) (sizes : List ℕ) (bytes : Option (List ℕ)) → in_segments spelled ≡ spelled_in sizes bytes → are_sizes sizes ≡ false → text_in spelled ≡ None
sizes_malformed spelled sizes (Some bytes) is unfit = text_in_segments spelled (text_with bytes sizes) is ∙ ap (λ (c : Bool). cond c (Some (text_with bytes sizes)) None) unfit
sizes_malformed spelled sizes None is unfit = ap text_in (none_in_segments spelled is)

total : (parts : List (List ℕ)) → sum (map length parts) ≡ length (concat parts)
total [] = refl
total (part ∷ parts) = omega (arith, sum_by-cons (λ (n : ℕ). n) (length part) (map length parts), total parts, length-append part (concat parts))

-- the sizes are those of all bytes
pub sizes_total : (spelled : Option (List (List ℕ))) (text : Segmented) → in_segments spelled ≡ Some text → sum text.sizes ≡ length text.text
sizes_total (Some parts) text e = let same : segmented parts ≡ text = cc in subst (λ (t : Segmented). sum t.sizes ≡ length t.text) same (total parts)
sizes_total None text e = absurd (cc)

-- ---- a token without bars

neither : (a b : Bool) → (a || b) ≡ false → (a ≡ false) × (b ≡ false)
neither true b e = absurd (cc)
neither false b e = (refl, e)

unsplit : (token : List ℕ) → list_any is_bar token ≡ false → slice_split is_bar token ≡ token ∷ []
unsplit [] e = refl
unsplit (b ∷ bs) e =
    let no = neither (is_bar b) (list_any is_bar bs) e in
    slice_split-cons_no is_bar b bs no.0 ∙ ap (onto_first b) (unsplit bs no.1)

pub one_part : (token : List ℕ) → list_any is_bar token ≡ false → text_of token ≡ hex_of token >>= (λ bytes. Some (segmented (bytes ∷ [])))
one_part token e = ap (λ (parts : List (List ℕ)). hexes_of parts >>= (λ read. cond (are_segments read) (Some (segmented read)) None)) (unsplit token e) ∙ alone (hex_of token)
  where
    alone : (spelled : Option (List ℕ)) → (spelled >>= (λ bytes. Some (bytes ∷ []))) >>= (λ read. cond (are_segments read) (Some (segmented read)) None) ≡ spelled >>= (λ bytes. Some (segmented (bytes ∷ [])))
    alone (Some bytes) = refl
    alone None = refl

-- ---- all parts together spell no more bytes than the token has

onto_total : (b : ℕ) (parts : List (List ℕ)) → length (concat (onto_first b parts)) ≤ length (concat parts) + 1
onto_total b [] = omega arith
onto_total b (part ∷ parts) = omega arith

split_total : (p : ℕ → Bool) (text : List ℕ) → length (concat (slice_split p text)) ≤ length text
split_total p [] = omega arith
split_total p (b ∷ bs) =
    let parts = slice_split p bs in
    let h = split_total p bs in
    elim (p b) as (λ c. length (concat (cond c ([] ∷ parts) (onto_first b parts))) ≤ length (b ∷ bs)) [
      | true ↦ omega (arith, h)
      | false ↦ omega (arith, h, onto_total b parts)
    ]

pub hex_up_to : (token : List ℕ) → IfSome (hex_of token) (λ bytes. length bytes ≤ length token)
hex_up_to token =
    elim (bytes_eq token (codes "-")) as (λ c. IfSome (cond c (Some []) (result_ok (decode_of token))) (λ bytes. length bytes ≤ length token)) [
      | true ↦ omega arith
      | false ↦ decoded_up_to token
    ]

hexes_total : (parts : List (List ℕ)) → IfSome (hexes_of parts) (λ read. length (concat read) ≤ length (concat parts))
hexes_total [] = omega arith
hexes_total (part ∷ parts) = both (hex_of part) (hexes_of parts) (hex_up_to part) (hexes_total parts)
  where
    both : (first : Option (List ℕ)) (rest : Option (List (List ℕ))) → IfSome first (λ bytes. length bytes ≤ length part)
        → IfSome rest (λ read. length (concat read) ≤ length (concat parts))
        → IfSome (first >>= (λ b. rest >>= (λ more. Some (b ∷ more)))) (λ read. length (concat read) ≤ length (concat (part ∷ parts)))
    both (Some bytes) (Some more) h k = omega (arith, h, k, length-append bytes (concat more), length-append part (concat parts))
    both (Some bytes) None h k = tt
    both None rest h k = tt

pub parts_fit : (token : List ℕ) → IfSome (hexes_of (slice_split is_bar token)) (λ read. length (concat read) ≤ length token)
parts_fit token = fits (hexes_of (slice_split is_bar token)) (hexes_total (slice_split is_bar token))
  where
    fits : (spelled : Option (List (List ℕ))) → IfSome spelled (λ read. length (concat read) ≤ length (concat (slice_split is_bar token)))
        → IfSome spelled (λ read. length (concat read) ≤ length token)
    fits (Some read) h = omega (arith, h, split_total is_bar token)
    fits None h = tt
