-- A line of words, and a word of ids, one more at a time.
use Rattle.std.proofs.Common.{refl, codes, ◌≡◌, ℕ, ◌+◌, ◌<◌, List, [], ◌∷◌, ◌++◌, length, take, get_or, map, sym, ap, ◌∙◌, append_assoc}
use Rattle.std.specs.List.{join_with_byte}
use Rattle.std.specs.Fmt.{decimal}
use Rattle.std.proofs.lemmas.List.{take_more, map_push}
use Rattle.trace_text.specs.Sentences.{with_words, spaced}
use Rattle.trace_text.specs.Text.{ids_word, sentence}

join_more : (c : ℕ) (first : List ℕ) (words : List (List ℕ)) (word : List ℕ) → join_with_byte c (first ∷ (words ++ word ∷ [])) ≡ (join_with_byte c (first ∷ words) ++ c ∷ []) ++ word
join_more c first [] word = sym (append_assoc first (c ∷ []) word)
join_more c first (next ∷ words) word = ap (λ text. first ++ (c ∷ text)) (join_more c next words word) ∙ simp append_assoc

-- the code adds each word behind the text so far
words_behind : (text : List ℕ) (words : List (List ℕ)) → with_words text words ≡ join_with_byte 32 (text ∷ words)
words_behind text [] = refl
words_behind text (word ∷ words) = words_behind (text ++ 32 ∷ word) words ∙ regroup words
  where
    regroup : (words : List (List ℕ)) → join_with_byte 32 ((text ++ 32 ∷ word) ∷ words) ≡ join_with_byte 32 (text ∷ (word ∷ words))
    regroup [] = refl
    regroup (next ∷ words) = append_assoc text (32 ∷ word) (32 ∷ join_with_byte 32 (next ∷ words))

pub ended : (line text : List ℕ) (words : List (List ℕ)) → line ≡ spaced words → text ≡ line ++ codes "\n" → text ≡ sentence words
ended line text [] is end = end ∙ ap (λ t. t ++ codes "\n") is
ended line text (first ∷ words) is end = end ∙ ap (λ t. t ++ codes "\n") (is ∙ words_behind first words)

pub next_id : (text pushed appended digits : List ℕ) (first : ℕ) (others : List ℕ) (i d : ℕ) → i < length others
    → text ≡ ids_word (first ∷ take i others)
    → pushed ≡ text ++ 44 ∷ [] → digits ≡ decimal (get_or others i d) → appended ≡ pushed ++ digits
    → appended ≡ ids_word (first ∷ take (i + 1) others)
next_id text pushed appended digits first others i d lt is comma digit more =
    more
    ∙ (ap (λ ds. pushed ++ ds) digit
    ∙ (ap (λ t. t ++ decimal (get_or others i d)) (comma ∙ ap (λ t. t ++ 44 ∷ []) is)
    ∙ (sym (join_more 44 (decimal first) (map decimal (take i others)) (decimal (get_or others i d)))
    ∙ (ap (λ ws. join_with_byte 44 (decimal first ∷ ws)) (sym (map_push decimal (take i others) (get_or others i d)))
    ∙ ap (λ ns. join_with_byte 44 (decimal first ∷ map decimal ns)) (sym (take_more others i d lt))))))
