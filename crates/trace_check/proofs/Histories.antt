-- Lists that grow at their end, and histories that go on by an entry.
use Rattle.std.proofs.Common.{◌≡◌, ℕ, ◌+◌, zero, suc, Bool, true, false, ◌||◌, List, [], ◌∷◌, ◌++◌, length, Option, Some, None, refl, sym, ◌∙◌, ap, append-nil, append_assoc, length-append}
use Rattle.std.specs.List.{filter_map, list_any}
use Rattle.std.proofs.Math.Bool.{or-false}
use Rattle.std.proofs.lemmas.Bool.{eqb-true, ne_eqb}
use Rattle.std.proofs.lemmas.List.Folds.{list_any-append}
use Rattle.board.specs.declared.entry.BoardEntry.{BoardEntry}
use Rattle.board.specs.Entries.{pipe_of, is_pipe, is_of, last_or, completes_from, tells, told_after, told}
use Rattle.board.proofs.Lists.{filter_map-some, last_or-append}

-- the last of what the entries say, after one that says it
pub last_now : {X Y : Type 0} (d : Y) (f : X → Option Y) (es : List X) (e : X) (y : Y) → f e ≡ Some y → last_or d (filter_map f (es ++ e ∷ [])) ≡ y
last_now d f es e y h = ap (last_or d) (filter_map-some f es e y h) ∙ last_or-append d (filter_map f es) y

or_true : (b : Bool) → (b || (true || false)) ≡ true
or_true true = refl
or_true false = refl

pub any-none : {X : Type 0} (p : X → Bool) (xs : List X) (x : X) → p x ≡ false → list_any p (xs ++ x ∷ []) ≡ list_any p xs
any-none p xs x h = list_any-append p xs (x ∷ []) ∙ (ap (λ b. list_any p xs || (b || false)) h ∙ or-false (list_any p xs))

pub any_now : {X : Type 0} (p : X → Bool) (xs : List X) (x : X) → p x ≡ true → list_any p (xs ++ x ∷ []) ≡ true
any_now p xs x h = list_any-append p xs (x ∷ []) ∙ (ap (λ b. list_any p xs || (b || false)) h ∙ or_true (list_any p xs))

one_pipe : (o : Option ℕ) (p q : ℕ) → is_pipe p o ≡ true → (q ≡ p → ⊥) → is_pipe q o ≡ false
one_pipe None p q h n = refl
one_pipe (Some pipe) p q h n = ne_eqb pipe q (λ e. n (sym e ∙ eqb-true pipe p h))

pub only_of : {A : Type 0} (e : BoardEntry A) (p q : ℕ) → is_of p e ≡ true → (q ≡ p → ⊥) → is_of q e ≡ false
only_of e p q h n = one_pipe (pipe_of e) p q h n

-- What an entry tells comes behind what was told.
told_behind : {A : Type 0} (before es : List (BoardEntry A)) (e : BoardEntry A) → told_after before (es ++ e ∷ []) ≡ told_after before es ++ tells (before ++ es) e
told_behind before [] e = append-nil (tells before e) ∙ ap (λ xs. tells xs e) (sym (append-nil before))
told_behind before (x ∷ es) e =
    ap (λ ns. tells before x ++ ns) (told_behind (before ++ x ∷ []) es e ∙ ap (λ xs. told_after (before ++ x ∷ []) es ++ tells xs e) (append_assoc before (x ∷ []) es))
    ∙ sym (append_assoc (tells before x) (told_after (before ++ x ∷ []) es) (tells (before ++ x ∷ es) e))

pub told_more : {A : Type 0} (es : List (BoardEntry A)) (e : BoardEntry A) (told_so_far more : ℕ) → length (told es) ≡ told_so_far → length (tells es e) ≡ more → length (told (es ++ e ∷ [])) ≡ told_so_far + more
told_more es e told_so_far more t m =
    ap length (told_behind [] es e) ∙ (length-append (told es) (tells es e) ∙ (ap (λ n. n + length (tells es e)) t ∙ ap (λ n. told_so_far + n) m))

pub length-completes : (n many : ℕ) → length (completes_from n many) ≡ many
length-completes n zero = refl
length-completes n (suc many) = ap suc (length-completes (suc n) many)
