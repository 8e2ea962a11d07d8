-- A trace that is read so far.
use Rattle.std.proofs.Common.{◌≡◌, ℕ, ◌+◌, ◌≤◌, Bool, true, not, List, [], ◌∷◌, ◌++◌, length, map, refl, sym, ◌∙◌, ap, arith, append-nil, append_assoc, length-append}
use Rattle.std.specs.Prelude.{◌==◌}
use Rattle.std.specs.List.{list_all, flat_map, join_with_byte}
use Rattle.std.proofs.lemmas.Bool.{and_parts, and_from}
use Rattle.std.proofs.lemmas.List.{length-map}
use Rattle.alg_registry.specs.declared.entry.RegEntry.{RegEntry}
use Rattle.board.specs.declared.entry.BoardEntry.{BoardEntry}
use Rattle.trace_check.specs.declared.lines.AskLine.{AskLine}
use Rattle.trace_text.specs.Text.{sentence, reg_words, board_words}
use Rattle.trace_text.specs.Trace.{trace_of, has_text, fits, board_fits, is_event, AreEvents}
use Rattle.trace_check.specs.Lines.{origin_of}
use Rattle.trace_check.specs.Verdicts.{HasFront}
use Rattle.trace_check.specs.TraceReader.{IsOneLine}
use Rattle.trace_check.proofs.Numerals.{words_unlike, is_not}
use Rattle.trace_check.proofs.LineWords.{registry_are, board_are}
use Rattle.trace_check.proofs.Cuts.{fed, text_of, AreLines}

pub record IsSoFar (text : List ℕ) (registry : List RegEntry) (board : List (BoardEntry AskLine)) (rest : List ℕ) (count : ℕ) : Type 0 where
  pub front : HasFront text registry board rest
  pub counted : length registry + length board ≡ count
  pub short : count + length rest ≤ length text

-- The lines of events, without their line feeds.
abbrev pub reg_line : RegEntry → List ℕ
reg_line e = join_with_byte 32 (reg_words e)

abbrev pub board_line : BoardEntry AskLine → List ℕ
board_line e = join_with_byte 32 (board_words origin_of e)

abbrev pub lines : List RegEntry → List (BoardEntry AskLine) → List (List ℕ)
lines r b = map reg_line r ++ map board_line b

text_append : (xs ys : List (List ℕ)) → text_of (xs ++ ys) ≡ text_of xs ++ text_of ys
text_append [] ys = refl
text_append (x ∷ xs) ys = ap (λ t. fed x ++ t) (text_append xs ys) ∙ sym (append_assoc (fed x) (text_of xs) (text_of ys))

reg_text : (r : List RegEntry) → flat_map (λ e. sentence (reg_words e)) r ≡ text_of (map reg_line r)
reg_text [] = refl
reg_text (e ∷ r) = ap (λ t. sentence (reg_words e) ++ t) (reg_text r)

board_text : (b : List (BoardEntry AskLine)) → flat_map (λ e. sentence (board_words origin_of e)) b ≡ text_of (map board_line b)
board_text [] = refl
board_text (e ∷ b) = ap (λ t. sentence (board_words origin_of e) ++ t) (board_text b)

pub trace_lines : (r : List RegEntry) (b : List (BoardEntry AskLine)) → trace_of origin_of r b ≡ text_of (lines r b)
trace_lines r b =
    ap (λ t. t ++ flat_map (λ e. sentence (board_words origin_of e)) b) (reg_text r)
    ∙ (ap (λ t. text_of (map reg_line r) ++ t) (board_text b) ∙ sym (text_append (map reg_line r) (map board_line b)))

-- no line of events has a line feed
joined_all : (p : ℕ → Bool) (words : List (List ℕ)) → p 32 ≡ true → list_all (list_all p) words ≡ true → list_all p (join_with_byte 32 words) ≡ true
joined_all p [] s h = refl
joined_all p (word ∷ []) s h = (and_parts (list_all p word) true h).0
joined_all p (word ∷ next ∷ words) s h =
    let k = and_parts (list_all p word) (list_all (list_all p) (next ∷ words)) h in
    all_append p word (32 ∷ join_with_byte 32 (next ∷ words)) k.0 (and_from (p 32) (list_all p (join_with_byte 32 (next ∷ words))) s (joined_all p (next ∷ words) s k.1))
  where
    all_append : (p : ℕ → Bool) (xs ys : List ℕ) → list_all p xs ≡ true → list_all p ys ≡ true → list_all p (xs ++ ys) ≡ true
    all_append p [] ys a b = b
    all_append p (x ∷ xs) ys a b = (let k = and_parts (p x) (list_all p xs) a in and_from (p x) (list_all p (xs ++ ys)) k.0 (all_append p xs ys k.1 b))

pub one_reg : (e : RegEntry) → is_event e ≡ true → IsOneLine (reg_line e)
one_reg e k =
    let p = and_parts (has_text e) (fits e) k in
    joined_all (is_not 10) (reg_words e) refl (words_unlike 10 (reg_words e) (omega arith) (let v = registry_are e p.0 p.1 in v.all))

pub one_board : (e : BoardEntry AskLine) → board_fits origin_of e ≡ true → IsOneLine (board_line e)
one_board e k = joined_all (is_not 10) (board_words origin_of e) refl (words_unlike 10 (board_words origin_of e) (omega arith) (let v = board_are e k in v.all))

all_lists : (p : List ℕ → Bool) (xs ys : List (List ℕ)) → list_all p xs ≡ true → list_all p ys ≡ true → list_all p (xs ++ ys) ≡ true
all_lists p [] ys a b = b
all_lists p (x ∷ xs) ys a b = (let k = and_parts (p x) (list_all p xs) a in and_from (p x) (list_all p (xs ++ ys)) k.0 (all_lists p xs ys k.1 b))

reg_lines : (r : List RegEntry) → list_all is_event r ≡ true → AreLines (map reg_line r)
reg_lines [] h = refl
reg_lines (e ∷ r) h = (let k = and_parts (is_event e) (list_all is_event r) h in and_from (list_all (λ b. not (b == 10)) (reg_line e)) (list_all (list_all (λ b. not (b == 10))) (map reg_line r)) (one_reg e k.0) (reg_lines r k.1))

board_lines : (b : List (BoardEntry AskLine)) → list_all (board_fits origin_of) b ≡ true → AreLines (map board_line b)
board_lines [] h = refl
board_lines (e ∷ b) h = (let k = and_parts (board_fits origin_of e) (list_all (board_fits origin_of) b) h in and_from (list_all (λ b. not (b == 10)) (board_line e)) (list_all (list_all (λ b. not (b == 10))) (map board_line b)) (one_board e k.0) (board_lines b k.1))

pub are_lines : (r : List RegEntry) (b : List (BoardEntry AskLine)) → AreEvents origin_of r b → AreLines (lines r b)
are_lines r b k = all_lists (list_all (λ c. not (c == 10))) (map reg_line r) (map board_line b) (reg_lines r k.0) (board_lines b k.1)

pub count_lines : (r : List RegEntry) (b : List (BoardEntry AskLine)) → length (lines r b) ≡ length r + length b
count_lines r b = (let a = length-append (map reg_line r) (map board_line b) in let c = length-map r reg_line in let d = length-map b board_line in omega arith)

-- Lists by their last elements.
pub record Ends {X : Type 0} (xs : List X) : Type 0 where
  pub front : List X
  pub last : X
  pub is : xs ≡ front ++ last ∷ []

pub ends_of : {X : Type 0} (x : X) (xs : List X) → Ends (x ∷ xs)
ends_of x [] = record { front = []; last = x; is = refl }
ends_of x (y ∷ xs) = (let e = ends_of y xs in let i = e.is in record { front = x ∷ e.front; last = e.last; is = ap (λ ys. x ∷ ys) i })

pub all_front : {X : Type 0} (p : X → Bool) (xs : List X) (x : X) → list_all p (xs ++ x ∷ []) ≡ true → (list_all p xs ≡ true) × (p x ≡ true)
all_front p [] x h = (refl, (and_parts (p x) true h).0)
all_front p (y ∷ xs) x h =
    let k = and_parts (p y) (list_all p (xs ++ x ∷ [])) h in
    let r = all_front p xs x k.1 in
    (and_from (p y) (list_all p xs) k.0 r.0, r.1)

flat_more : {X : Type 0} (f : X → List ℕ) (xs : List X) (x : X) → flat_map f (xs ++ x ∷ []) ≡ flat_map f xs ++ f x
flat_more f [] x = append-nil (f x)
flat_more f (y ∷ xs) x = ap (λ t. f y ++ t) (flat_more f xs x) ∙ sym (append_assoc (f y) (flat_map f xs) (f x))

pub board_more : (r : List RegEntry) (b : List (BoardEntry AskLine)) (e : BoardEntry AskLine) → trace_of origin_of r (b ++ e ∷ []) ≡ trace_of origin_of r b ++ sentence (board_words origin_of e)
board_more r b e =
    ap (λ t. flat_map (λ x. sentence (reg_words x)) r ++ t) (flat_more (λ x. sentence (board_words origin_of x)) b e)
    ∙ sym (append_assoc (flat_map (λ x. sentence (reg_words x)) r) (flat_map (λ x. sentence (board_words origin_of x)) b) (sentence (board_words origin_of e)))

pub reg_more : (r : List RegEntry) (e : RegEntry) → trace_of origin_of (r ++ e ∷ []) [] ≡ trace_of origin_of r [] ++ sentence (reg_words e)
reg_more r e =
    append-nil (flat_map (λ x. sentence (reg_words x)) (r ++ e ∷ []))
    ∙ (flat_more (λ x. sentence (reg_words x)) r e ∙ ap (λ t. t ++ sentence (reg_words e)) (sym (append-nil (flat_map (λ x. sentence (reg_words x)) r))))
