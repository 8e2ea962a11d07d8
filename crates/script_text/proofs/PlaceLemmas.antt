-- Where the first byte stands that passes a test.
use Rattle.std.proofs.Common.{◌≡◌, ◌∙◌, refl, sym, ap, subst, ℕ, ◌+◌, ◌<◌, ◌≤◌, Bool, true, false, not, cond, List, [], ◌∷◌, ◌++◌, length, get_or, take, drop, Option, Some, None, unwrap_or, inl, inr, arith, append_assoc, take_all, le_refl}
use Rattle.std.proofs.lemmas.Bool.{cases_lt}
use Rattle.std.proofs.lemmas.Bool.Decides.{nat_tests}
use Rattle.std.proofs.lemmas.List.{length-take-le, drop_all}
use Rattle.std.proofs.lemmas.List.Elements.{All-from_get_or}
use Rattle.std.proofs.lemmas.List.Folds.{list_any_none, list_any_at}
use Rattle.std.proofs.lemmas.List.Splits.{slice_split_first, slice_split_none}
use Rattle.std.proofs.lemmas.List.Sums.{position_or_len_is, prefix_len-le-length, fails_before_first}
use Rattle.std.specs.Prelude.{◌==◌, ◌&&◌, filter, is_some}
use Rattle.std.specs.List.{fold, list_all, list_any, position_or_len, slice_split}
use Rattle.memchr.specs.Find.{IsFirstByte}
use Rattle.script_text.specs.Tokens.{is_blank, tokens_of}

not_true : (b : Bool) → ¬ (b ≡ true) → b ≡ false
not_true true wrong = absurd (wrong refl)
not_true false wrong = refl

-- what a search answers
module _ (test : ℕ → Bool) (hay : List ℕ) where
  pub place_found : (r : Option ℕ) → IsFirstByte test hay r → unwrap_or r (length hay) ≡ position_or_len test hay
  place_found None none =
      sym (position_or_len_is test hay (length hay) 0 (le_refl (length hay)) (λ k below. not_true (test (get_or hay k 0)) (none k (omega arith) below)) (λ below. absurd (omega (arith, below))))
  place_found (Some k) found =
      sym (position_or_len_is test hay k 0 (let high = found.0.high in omega arith) (λ j below. not_true (test (get_or hay j 0)) (found.0.before j (omega arith) below)) (λ below. found.1))

  pub any_found : (r : Option ℕ) → IsFirstByte test hay r → is_some r ≡ list_any test hay
  any_found None none =
      sym (list_any_none test hay (All-from_get_or (λ b. test b ≡ false) hay 0 (λ k below. not_true (test (get_or hay k 0)) (none k (omega arith) below))))
  any_found (Some k) found = sym (list_any_at test hay k 0 found.0.high found.1)

-- the first part ends where that byte stands
module _ (test : ℕ → Bool) (hay : List ℕ) (end : ℕ) (at : end ≡ position_or_len test hay) where
  pub split_there : end < length hay → slice_split test hay ≡ take end hay ∷ slice_split test (drop (end + 1) hay)
  split_there below =
      slice_split_first test hay 0 (omega (arith, at)) ∙ ap (λ (n : ℕ). take n hay ∷ slice_split test (drop (n + 1) hay)) (sym at)

  pub not_split : length hay ≤ end → slice_split test hay ≡ hay ∷ []
  not_split all =
      slice_split_none test hay
      (All-from_get_or (λ b. test b ≡ false) hay 0 (λ k below. fails_before_first test hay k 0 (omega (arith, at))))

pub positive : (n : ℕ) → 0 < n → (n == 0) ≡ false
positive n some = grind (arith, nat_tests)

-- a fold over all of them
pub all_folded : {X : Type 0} (p : X → Bool) (all : Bool) (xs : List X) → fold (λ (a : Bool) (x : X). a && p x) all xs ≡ (all && list_all p xs)
all_folded p true [] = refl
all_folded p false [] = refl
all_folded p true (x ∷ xs) = all_folded p (p x) xs
all_folded p false (x ∷ xs) = all_folded p false xs

-- ---- a token and what follows it

cond_not : {X : Type 0} (c : Bool) (x y : X) → cond (not c) x y ≡ cond c y x
cond_not true x y = refl
cond_not false x y = refl

-- a part of so many bytes, among the tokens where it isn't empty
pub part_first : (part : List ℕ) (rest : List (List ℕ)) → filter (λ p. not (length p == 0)) (part ∷ rest) ≡ cond (length part == 0) (filter (λ p. not (length p == 0)) rest) (part ∷ filter (λ p. not (length p == 0)) rest)
part_first part rest = cond_not (length part == 0) (part ∷ filter (λ p. not (length p == 0)) rest) (filter (λ p. not (length p == 0)) rest)

part_of : (part : List ℕ) (rest : List (List ℕ)) (n : ℕ) → length part ≡ n → filter (λ p. not (length p == 0)) (part ∷ rest) ≡ cond (n == 0) (filter (λ p. not (length p == 0)) rest) (part ∷ filter (λ p. not (length p == 0)) rest)
part_of part rest n long = subst (λ (k : ℕ). filter (λ p. not (length p == 0)) (part ∷ rest) ≡ cond (k == 0) (filter (λ p. not (length p == 0)) rest) (part ∷ filter (λ p. not (length p == 0)) rest)) long (part_first part rest)

-- where the first blank stands, or the line ends
module _ (line : List ℕ) (end : ℕ) (at : end ≡ position_or_len is_blank line) where
  abbrev rest : List (List ℕ)
  rest = tokens_of (drop (end + 1) line)

  inside : end < length line → tokens_of line ≡ cond (end == 0) rest (take end line ∷ rest)
  inside below =
      ap (filter (λ p. not (length p == 0))) (split_there is_blank line end at below)
      ∙ part_of (take end line) (slice_split is_blank (drop (end + 1) line)) end (length-take-le end line (omega arith))

  at_end : length line ≤ end → tokens_of line ≡ cond (end == 0) rest (take end line ∷ rest)
  at_end all =
      let le : position_or_len is_blank line ≤ length line = prefix_len-le-length (λ b. not (is_blank b)) line in
      let none : drop (end + 1) line ≡ [] = drop_all (end + 1) line (omega arith) in
      let whole : take end line ≡ line = take_all end line all in
      ap (filter (λ p. not (length p == 0))) (not_split is_blank line end at all)
      ∙ part_of line [] end (omega (arith, at, le))
      ∙ ap (λ (l : List ℕ). cond (end == 0) [] (l ∷ [])) (sym whole)
      ∙ ap (λ (l : List ℕ). cond (end == 0) (tokens_of l) (take end line ∷ tokens_of l)) (sym none)

  first_token : tokens_of line ≡ cond (end == 0) rest (take end line ∷ rest)
  first_token = elim (cases_lt end (length line)) [ inl below ↦ inside below | inr all ↦ at_end all ]

  pub token_taken : (tokens : List (List ℕ)) → 0 < end → tokens ++ tokens_of line ≡ (tokens ++ take end line ∷ []) ++ rest
  token_taken tokens some =
      let no : (end == 0) ≡ false = positive end some in
      ap (λ (l : List (List ℕ)). tokens ++ l) (first_token ∙ ap (λ (c : Bool). cond c rest (take end line ∷ rest)) no) ∙ sym (append_assoc tokens (take end line ∷ []) rest)

  pub blank_passed : end ≡ 0 → tokens_of line ≡ rest
  blank_passed none = first_token ∙ ap (λ (n : ℕ). cond (n == 0) rest (take end line ∷ rest)) none
