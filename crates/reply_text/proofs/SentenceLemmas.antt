-- Lines of words: one word more, their lengths, and digits at the end.
use Rattle.std.proofs.Common.{◌≡◌, ℕ, ◌+◌, ◌*◌, ◌<◌, ◌≤◌, List, [], ◌∷◌, ◌++◌, length, take, drop, get_or, map, Bor, sym, ap, subst, ◌∙◌, append_assoc, arith, refl, codes}
use Rattle.std.specs.List.{join_with_byte}
use Rattle.hex.specs.Hex.{encode_lower, lower_digits}
use Rattle.hex.proofs.HexLemmas.{length-encode_with}
use Rattle.reply_text.specs.Answers.{hex_text, sentence}
use Rattle.std.proofs.lemmas.List.{take_more, map_push, map-append, length-append, take-append-drop}

join_more : (c : ℕ) (first : List ℕ) (words : List (List ℕ)) (word : List ℕ) → join_with_byte c (first ∷ (words ++ word ∷ [])) ≡ (join_with_byte c (first ∷ words) ++ c ∷ []) ++ word
join_more c first [] word = sym (append_assoc first (c ∷ []) word)
join_more c first (next ∷ words) word = ap (λ text. first ++ (c ∷ text)) (join_more c next words word) ∙ simp append_assoc

-- the first words with a blank between each two
abbrev pub joined : List ℕ → List (Bor (List ℕ)) → List ℕ
joined first words = join_with_byte 32 (first ∷ map (λ w. w.now) words)

pub next_word : (first : List ℕ) (words : List (Bor (List ℕ))) (i : ℕ) (d : Bor (List ℕ)) → i < length words
    → joined first (take (i + 1) words) ≡ (joined first (take i words) ++ 32 ∷ []) ++ (get_or words i d).now
next_word first words i d lt =
    let now : Bor (List ℕ) → List ℕ = λ w. w.now in
    ap (λ ws. join_with_byte 32 (first ∷ map now ws)) (take_more words i d lt)
    ∙ (ap (λ ws. join_with_byte 32 (first ∷ ws)) (map_push now (take i words) (get_or words i d))
    ∙ join_more 32 first (map now (take i words)) (now (get_or words i d)))

pub next_length : (first : List ℕ) (words : List (Bor (List ℕ))) (i : ℕ) (d : Bor (List ℕ)) → i < length words
    → length (joined first (take (i + 1) words)) ≡ length (joined first (take i words)) + 1 + length (get_or words i d).now
next_length first words i d lt =
    omega (arith, ap length (next_word first words i d lt), length-append (joined first (take i words) ++ 32 ∷ []) (get_or words i d).now, length-append (joined first (take i words)) (32 ∷ []))

-- more words are no shorter
longer : (c : ℕ) (first : List ℕ) (words more : List (List ℕ)) → length (join_with_byte c (first ∷ words)) ≤ length (join_with_byte c (first ∷ (words ++ more)))
longer c first [] [] = omega arith
longer c first [] (word ∷ more) = omega (arith, length-append first (c ∷ join_with_byte c (word ∷ more)))
longer c first (next ∷ words) more =
    omega (arith, longer c next words more, length-append first (c ∷ join_with_byte c (next ∷ words)), length-append first (c ∷ join_with_byte c (next ∷ (words ++ more))))

pub first_words : (first : List ℕ) (words : List (Bor (List ℕ))) (i : ℕ) → length (joined first (take i words)) ≤ length (joined first words)
first_words first words i =
    let now : Bor (List ℕ) → List ℕ = λ w. w.now in
    let parts : map now words ≡ map now (take i words) ++ map now (drop i words) = ap (map now) (sym (take-append-drop i words)) ∙ map-append now (take i words) (drop i words) in
    subst (λ ws. length (joined first (take i words)) ≤ length (join_with_byte 32 (first ∷ ws))) (sym parts) (longer 32 first (map now (take i words)) (map now (drop i words)))

-- the words up to one and that one are no longer than all of them
pub word_within : (first : List ℕ) (words : List (Bor (List ℕ))) (i : ℕ) (d : Bor (List ℕ)) → i < length words
    → length (joined first (take i words)) + 1 + length (get_or words i d).now ≤ length (joined first words)
word_within first words i d lt = omega (arith, next_length first words i d lt, first_words first words (i + 1))

-- a line that ends with the digits of some bytes
pub digits_line : (number word bytes : List ℕ) → ¬ (bytes ≡ []) → sentence (number ∷ word ∷ hex_text bytes ∷ []) ≡ ((((number ++ codes " ") ++ word) ++ codes " ") ++ encode_lower bytes) ++ codes "\n"
digits_line number word [] some = absurd (some refl)
digits_line number word (b ∷ bs) some = simp append_assoc

pub digits_line_length : (number word bytes : List ℕ) → ¬ (bytes ≡ []) → length (sentence (number ∷ word ∷ hex_text bytes ∷ [])) ≡ length number + length word + 2 * length bytes + 3
digits_line_length number word bytes some =
    let n : List ℕ = number ++ codes " " in
    let w : List ℕ = n ++ word in
    let b : List ℕ = w ++ codes " " in
    let d : List ℕ = b ++ encode_lower bytes in
    omega (arith, ap length (digits_line number word bytes some), length-append d (codes "\n"), length-append b (encode_lower bytes), length-append w (codes " "), length-append n word, length-append number (codes " "), length-encode_with lower_digits bytes)

pub digits_said : (old number word bytes t a b c d e : List ℕ) → ¬ (bytes ≡ [])
    → a ≡ old ++ number → b ≡ a ++ codes " " → c ≡ b ++ word → d ≡ c ++ codes " " → e ≡ d ++ encode_lower bytes → t ≡ e ++ codes "\n"
    → t ≡ old ++ sentence (number ∷ word ∷ hex_text bytes ∷ [])
digits_said old number word bytes t a b c d e some ea eb ec ed ee et =
    let whole : t ≡ (((((old ++ number) ++ codes " ") ++ word) ++ codes " ") ++ encode_lower bytes) ++ codes "\n" = cc in
    let flat : (((((old ++ number) ++ codes " ") ++ word) ++ codes " ") ++ encode_lower bytes) ++ codes "\n" ≡ old ++ (((((number ++ codes " ") ++ word) ++ codes " ") ++ encode_lower bytes) ++ codes "\n") = simp append_assoc in
    whole ∙ (flat ∙ ap (λ line. old ++ line) (sym (digits_line number word bytes some)))
