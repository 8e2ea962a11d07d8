-- What a faithful history registers has names that can be printed.
use Rattle.std.proofs.Common.{◌≡◌, ℕ, zero, suc, Bool, true, false, ◌&&◌, ◌||◌, if◌then◌else◌, List, [], ◌∷◌, ◌++◌, length, take, drop, refl, ap, sym, ◌∙◌, arith, Option, Some, None, Result, Ok, Err, codes}
use Rattle.std.specs.Prelude.{◌-◌, ◌==◌, slice_get, nat_lt, nat_le, IsTrue}
use Rattle.std.specs.List.{filter_map, cons_option, list_any, list_all}
use Rattle.std.specs.Option.{option_and_then, option_map, option_map_or}
use Rattle.std.specs.Str.{bytes_eq}
use Rattle.std.proofs.lemmas.Bool.{and_from, and_parts, lt-ltb}
use Rattle.std.proofs.lemmas.List.{length-append}
use Rattle.std.proofs.lemmas.List.Folds.{list_all-append}
use Rattle.std.proofs.lemmas.Slice.Eq.{bytes_eq-Decides}
use Rattle.kc_base.specs.declared.error_numbers.Errno.{Errno}
use Rattle.kc_base.specs.declared.error_numbers.Errno.TheVariants.{ENOENT, EINVAL, EAGAIN, EEXIST, ENFILE, ENAMETOOLONG}
use Rattle.alg_registry.specs.declared.spec.Spec.{Spec}
use Rattle.alg_registry.specs.declared.row.Row.{Row}
use Rattle.alg_registry.specs.declared.entry.Enlisted.{Enlisted}
use Rattle.alg_registry.specs.declared.entry.Enlisted.TheVariants as enlisted
use Rattle.alg_registry.specs.declared.entry.EndAnswer.{EndAnswer}
use Rattle.alg_registry.specs.declared.entry.EndAnswer.TheVariants.{Built, Failed}
use Rattle.alg_registry.specs.declared.entry.RegEntry.{RegEntry}
use Rattle.alg_registry.specs.declared.entry.RegEntry.TheVariants.{Enlist, End}
use Rattle.alg_registry.specs.Rows.{registered, registered_by, begun_by, rows_of, listed_at}
use Rattle.alg_registry.specs.Answers.{built_answer, joined_or_built, driver_place, clashes_with, held_count}
use Rattle.alg_registry.specs.Legal.{IsRight}
use Rattle.alg_registry.specs.Made.{IsMade, looks_for, outcomes, made_answer, by_children, by_outcomes, by_spec, with_spec}
use Rattle.alg_registry.proofs.Steps.{registered-push}
use Rattle.alg_names.specs.Name.{Tree, word_of, args_of}
use Rattle.alg_names.specs.Spelled.{tree_of}
use Rattle.templates.specs.declared.template_words.Template.{Template}
use Rattle.templates.specs.declared.template_words.Template.TheVariants.{Authenc, Pcrypt, Cryptd, CryptdPcrypt}
use Rattle.templates.specs.Table.{over_pcrypt, admits, admits_two, enclosed, enclosed_two, inside_ctr, name_over, driver_over, name_over_two, driver_over_two, limited, over_one, over_two, derived_over, derived_by, derived_of, drivers, is_same_kind, is_same_driver, is_one_of, table}
use Rattle.templates.specs.Words.{template_word, template_named}
use Rattle.templates.proofs.Words.{named_word, named_holds}
use Rattle.trace_text.specs.Trace.{is_visible, is_word, has_words, is_unwrapped, end_has_text, has_text}

-- ---- tests that hold together

left : (a b : Bool) → (a && b) ≡ true → a ≡ true
left a b p = (and_parts a b p).0

right : (a b : Bool) → (a && b) ≡ true → b ≡ true
right a b p = (and_parts a b p).1

-- ---- texts of printed characters

abbrev IsPrinted : List ℕ → Type 0
IsPrinted text = list_all is_visible text ≡ true

abbrev IsWord : List ℕ → Type 0
IsWord text = is_word text ≡ true

printed : (text : List ℕ) → IsWord text → IsPrinted text
printed text word = right (nat_lt 0 (length text)) (list_all is_visible text) word

appended : (xs ys : List ℕ) → IsPrinted xs → IsPrinted ys → IsPrinted (xs ++ ys)
appended xs ys p q = list_all-append is_visible xs ys ∙ and_from (list_all is_visible xs) (list_all is_visible ys) p q

taken : (n : ℕ) (xs : List ℕ) → IsPrinted xs → IsPrinted (take n xs)
taken zero xs p = refl
taken (suc n) [] p = refl
taken (suc n) (x ∷ xs) p = and_from (is_visible x) (list_all is_visible (take n xs)) (left (is_visible x) (list_all is_visible xs) p) (taken n xs (right (is_visible x) (list_all is_visible xs) p))

dropped : (n : ℕ) (xs : List ℕ) → IsPrinted xs → IsPrinted (drop n xs)
dropped zero xs p = p
dropped (suc n) [] p = refl
dropped (suc n) (x ∷ xs) p = dropped n xs (right (is_visible x) (list_all is_visible xs) p)

-- a text that ends with a parenthesis isn't empty
closed : (xs : List ℕ) → IsPrinted xs → IsWord (xs ++ 41 ∷ [])
closed xs p =
    and_from (nat_lt 0 (length (xs ++ 41 ∷ []))) (list_all is_visible (xs ++ 41 ∷ []))
    (lt-ltb 0 (length (xs ++ 41 ∷ [])) (omega (arith, length-append xs (41 ∷ []))))
    (appended xs (41 ∷ []) p refl)

opened_front : (word inner : List ℕ) → IsPrinted word → IsPrinted inner → IsPrinted (word ++ 40 ∷ [] ++ inner)
opened_front word inner w i = appended (word ++ 40 ∷ []) inner (appended word (40 ∷ []) w refl) i

enclosed-word : (word inner : List ℕ) → IsPrinted word → IsPrinted inner → IsWord (enclosed word inner)
enclosed-word word inner w i = closed (word ++ 40 ∷ [] ++ inner) (opened_front word inner w i)

enclosed_two-word : (word first second : List ℕ) → IsPrinted word → IsPrinted first → IsPrinted second → IsWord (enclosed_two word first second)
enclosed_two-word word first second w f s =
    closed (word ++ 40 ∷ [] ++ first ++ 44 ∷ [] ++ second)
    (appended (word ++ 40 ∷ [] ++ first ++ 44 ∷ []) second (appended (word ++ 40 ∷ [] ++ first) (44 ∷ []) (opened_front word first w f) refl) s)

inside_ctr-printed : (name : List ℕ) → IsPrinted name → IsPrinted (inside_ctr name)
inside_ctr-printed name p = taken (length name - 1 - 4) (drop 4 name) (dropped 4 name p)

-- ---- the words of templates

template-word : (w : List ℕ) (t : Template) → template_named w ≡ Some t → IsWord w
template-word w t e = ap is_word (named_word w t e) ∙ named_holds (λ u. is_word (template_word u)) w t refl e

-- ---- what a template makes

name_of : (spec : Spec) → has_words spec ≡ true → IsWord spec.name
name_of spec p = left (is_word spec.name) (is_word spec.driver) p

driver_of : (spec : Spec) → has_words spec ≡ true → IsWord spec.driver
driver_of spec p = right (is_word spec.name) (is_word spec.driver) p

name_over-word : (t : Template) (word name : List ℕ) → IsWord word → IsWord name → IsWord (name_over t word name)
name_over-word Pcrypt word name w n = n
name_over-word Cryptd word name w n = n
name_over-word CryptdPcrypt word name w n = n
name_over-word _ word name w n = enclosed-word word name (printed word w) (printed name n)

driver_over-word : (t : Template) (word driver : List ℕ) → IsWord word → IsWord driver → IsWord (driver_over t word driver)
driver_over-word CryptdPcrypt word driver w d =
    let inner : List ℕ = enclosed (codes "pcrypt") driver in
    enclosed-word word inner (printed word w) (printed inner (enclosed-word (codes "pcrypt") driver refl (printed driver d)))
driver_over-word _ word driver w d = enclosed-word word driver (printed word w) (printed driver d)

over_one-words : (t : Template) (word : List ℕ) (id : ℕ) (x : Spec) → IsWord word → has_words x ≡ true → has_words (over_one t word id x) ≡ true
over_one-words t word id x w p =
    and_from (is_word (name_over t word x.name)) (is_word (driver_over t word x.driver)) (name_over-word t word x.name w (name_of x p)) (driver_over-word t word x.driver w (driver_of x p))

name_over_two-word : (t : Template) (word : List ℕ) (a e : Spec) → IsWord word → has_words a ≡ true → has_words e ≡ true → IsWord (name_over_two t word a e)
name_over_two-word Authenc word a e w p q = enclosed_two-word word a.name e.name (printed word w) (printed a.name (name_of a p)) (printed e.name (name_of e q))
name_over_two-word _ word a e w p q = enclosed-word (codes "gcm") (inside_ctr a.name) refl (inside_ctr-printed a.name (printed a.name (name_of a p)))

driver_over_two-word : (t : Template) (word : List ℕ) (a e : Spec) → IsWord word → has_words a ≡ true → has_words e ≡ true → IsWord (driver_over_two t word a e)
driver_over_two-word Authenc word a e w p q = enclosed_two-word word a.driver e.driver (printed word w) (printed a.driver (driver_of a p)) (printed e.driver (driver_of e q))
driver_over_two-word _ word a e w p q = enclosed_two-word (codes "gcm_base") a.driver e.driver refl (printed a.driver (driver_of a p)) (printed e.driver (driver_of e q))

over_two-words : (t : Template) (word : List ℕ) (x y : ℕ × Spec) → IsWord word → has_words x.1 ≡ true → has_words y.1 ≡ true → has_words (over_two t word x y) ≡ true
over_two-words t word x y w p q =
    and_from (is_word (name_over_two t word x.1 y.1)) (is_word (driver_over_two t word x.1 y.1)) (name_over_two-word t word x.1 y.1 w p q) (driver_over_two-word t word x.1 y.1 w p q)

-- what was derived, if anything, has words
abbrev result_has_words : Result Spec Errno → Bool
result_has_words (Ok spec) = has_words spec
result_has_words (Err errno) = true

checked-words : (b : Bool) (r : Result Spec Errno) (errno : Errno) → result_has_words r ≡ true → result_has_words (if b then r else Err errno) ≡ true
checked-words true r errno p = p
checked-words false r errno p = refl

limited-words : (spec : Spec) → has_words spec ≡ true → result_has_words (limited spec) ≡ true
limited-words spec p = by_test (nat_lt 127 (length spec.name) || nat_lt 127 (length spec.driver))
  where
    by_test : (b : Bool) → result_has_words (if b then Err ENAMETOOLONG else Ok spec) ≡ true
    by_test true = refl
    by_test false = p

abbrev part_has_words : ℕ × Spec → Bool
part_has_words part = has_words part.1

derived_over-words : (t : Template) (word : List ℕ) (below : List (ℕ × Spec)) → IsWord word → list_all part_has_words below ≡ true → result_has_words (derived_over t word below) ≡ true
derived_over-words t word [] w p = refl
derived_over-words t word (x ∷ []) w p =
    let first : has_words x.1 ≡ true = left (has_words x.1) true p in
    checked-words (admits t x.1) (limited (over_one t word x.0 x.1)) EINVAL (limited-words (over_one t word x.0 x.1) (over_one-words t word x.0 x.1 w first))
derived_over-words t word (x ∷ y ∷ []) w p =
    let first : has_words x.1 ≡ true = left (has_words x.1) (has_words y.1 && true) p in
    let second : has_words y.1 ≡ true = left (has_words y.1) true (right (has_words x.1) (has_words y.1 && true) p) in
    checked-words (admits_two t x.1 y.1) (limited (over_two t word x y)) EINVAL (limited-words (over_two t word x y) (over_two-words t word x y w first second))
derived_over-words t word (x ∷ y ∷ z ∷ zs) w p = refl

derived_of-words : (name : Tree) (below : List (ℕ × Spec)) → list_all part_has_words below ≡ true → result_has_words (derived_of name below) ≡ true
derived_of-words name below p = by_template (template_named (word_of name)) refl
  where
    by_template : (o : Option Template) → template_named (word_of name) ≡ o → result_has_words (derived_by (option_map (λ t. over_pcrypt t (args_of name)) o) (word_of name) below) ≡ true
    by_template None q = refl
    by_template (Some t) q = derived_over-words (over_pcrypt t (args_of name)) (word_of name) below (template-word (word_of name) t q) p

derived-words : (text : List ℕ) (below : List (ℕ × Spec)) → list_all part_has_words below ≡ true → result_has_words (table.derived text below) ≡ true
unfolding table
derived-words text below p = by_tree (tree_of text)
  where
    by_tree : (o : Option Tree) → result_has_words (option_map_or (λ t. derived_of t below) o (Err ENOENT)) ≡ true
    by_tree None = refl
    by_tree (Some t) = derived_of-words t below p

-- ---- what stands below an instance

at-words : (specs : List Spec) (id : ℕ) (rest : List (ℕ × Spec)) → list_all has_words specs ≡ true → list_all part_has_words rest ≡ true
    → list_all part_has_words (cons_option (with_spec specs id) rest) ≡ true
at-words specs id rest p q = by_spec_at (slice_get specs id) (there specs id p)
  where
    there : (xs : List Spec) (n : ℕ) → list_all has_words xs ≡ true → option_map_or has_words (slice_get xs n) true ≡ true
    there [] n e = refl
    there (x ∷ xs) zero e = left (has_words x) (list_all has_words xs) e
    there (x ∷ xs) (suc n) e = there xs n (right (has_words x) (list_all has_words xs) e)

    by_spec_at : (o : Option Spec) → option_map_or has_words o true ≡ true → list_all part_has_words (cons_option (option_and_then (λ spec. Some (id, spec)) o) rest) ≡ true
    by_spec_at None e = q
    by_spec_at (Some spec) e = and_from (has_words spec) (list_all part_has_words rest) e q

below-words : (specs : List Spec) (ids : List ℕ) → list_all has_words specs ≡ true → list_all part_has_words (filter_map (with_spec specs) ids) ≡ true
below-words specs [] p = refl
below-words specs (id ∷ ids) p = at-words specs id (filter_map (with_spec specs) ids) p (below-words specs ids p)

-- ---- how a larval ends

built_answer-words : (rows : List Row) (spec : Spec) → has_words spec ≡ true → end_has_text (built_answer rows spec) ≡ true
built_answer-words rows spec p = by_below (list_all (listed_at rows) spec.below) (driver_place rows spec.driver)
  where
    by_room : (c d : Bool) → end_has_text (if c then Failed EEXIST else (if d then Failed ENFILE else Built (length rows) spec)) ≡ true
    by_room true d = refl
    by_room false true = refl
    by_room false false = p

    by_driver : (o : Option ℕ) → end_has_text (joined_or_built rows spec o) ≡ true
    by_driver (Some id) = refl
    by_driver None = by_room (list_any (clashes_with spec) rows) (nat_le 4096 (held_count rows))

    by_below : (b : Bool) (o : Option ℕ) → end_has_text (if b then joined_or_built rows spec o else Failed EAGAIN) ≡ true
    by_below true o = by_driver o
    by_below false o = refl

by_spec-words : (h : List RegEntry) (r : Result Spec Errno) → result_has_words r ≡ true → end_has_text (by_spec h r) ≡ true
by_spec-words h (Ok spec) p = built_answer-words (rows_of h) spec p
by_spec-words h (Err errno) p = refl

-- the answer, if there is one
abbrev answer_has_text : Option EndAnswer → Bool
answer_has_text None = true
answer_has_text (Some answer) = end_has_text answer

made_answer-words : (h : List RegEntry) (larval : ℕ) → list_all has_words (registered h) ≡ true → answer_has_text (made_answer table h larval) ≡ true
made_answer-words h larval p = by_text (slice_get (filter_map begun_by h) larval)
  where
    by_count : (b : Bool) (answer : EndAnswer) → end_has_text answer ≡ true → answer_has_text (if b then Some answer else None) ≡ true
    by_count true answer e = e
    by_count false answer e = refl

    by_outcome : (text : List ℕ) (children : List (List ℕ)) (o : Option (Result (List ℕ) Errno)) → answer_has_text (by_outcomes table h text children o) ≡ true
    by_outcome text children None = refl
    by_outcome text children (Some (Err errno)) = refl
    by_outcome text children (Some (Ok ids)) =
        let below : List (ℕ × Spec) = filter_map (with_spec (registered h)) ids in
        by_count (length ids == length children) (by_spec h (table.derived text below)) (by_spec-words h (table.derived text below) (derived-words text below (below-words (registered h) ids p)))

    by_child : (text : List ℕ) (r : Result (List (List ℕ)) Errno) → answer_has_text (by_children table h text (looks_for larval [] h) r) ≡ true
    by_child text (Err errno) = refl
    by_child text (Ok children) = by_outcome text children (outcomes h (looks_for larval [] h))

    by_text : (o : Option (List ℕ)) → answer_has_text (option_and_then (λ text. by_children table h text (looks_for larval [] h) (table.children text)) o) ≡ true
    by_text None = refl
    by_text (Some text) = by_child text (table.children text)

-- of an instance that comes next the names can be printed
pub end_has_words : (h : List RegEntry) (caller larval : ℕ) (answer : EndAnswer) → list_all has_words (registered h) ≡ true → IsMade table h (End caller larval answer) → end_has_text answer ≡ true
end_has_words h caller larval (Built id spec) p made = sym (ap answer_has_text made) ∙ made_answer-words h larval p
end_has_words h caller larval _ p made = refl

-- ---- the drivers

same_driver-words : (driver spec : Spec) → has_words driver ≡ true → is_same_driver driver spec ≡ true → has_words spec ≡ true
same_driver-words driver spec p e =
    let same_name : Bool = bytes_eq spec.name driver.name in
    let same_text : Bool = bytes_eq spec.driver driver.driver in
    let same : (same_name && same_text) ≡ true = left (same_name && same_text) (is_same_kind driver.kind spec.kind) e in
    and_from (is_word spec.name) (is_word spec.driver)
    (ap is_word ((bytes_eq-Decides spec.name driver.name).0 (left same_name same_text same)) ∙ name_of driver p)
    (ap is_word ((bytes_eq-Decides spec.driver driver.driver).0 (right same_name same_text same)) ∙ driver_of driver p)

one_of-words : (ds : List Spec) (spec : Spec) → list_all has_words ds ≡ true → is_one_of ds spec ≡ true → has_words spec ≡ true
one_of-words [] spec p e = absurd cc
one_of-words (d ∷ ds) spec p e = by_driver (is_same_driver d spec) refl e (λ f. one_of-words ds spec (right (has_words d) (list_all has_words ds) p) f)
  where
    by_driver : (b : Bool) → is_same_driver d spec ≡ b → (b || is_one_of ds spec) ≡ true → (is_one_of ds spec ≡ true → has_words spec ≡ true) → has_words spec ≡ true
    by_driver true q f others = same_driver-words d spec (left (has_words d) (list_all has_words ds) p) q
    by_driver false q f others = others f

driver-words : (spec : Spec) → IsTrue (table.is_driver spec) → has_words spec ≡ true
unfolding table
driver-words spec is = one_of-words drivers spec refl is

-- of a driver that comes next the names can be printed
pub enlisted_has_text : (before : List RegEntry) (caller : ℕ) (spec : Spec) (answer : Enlisted) → IsRight before (Enlist caller spec answer) → IsMade table before (Enlist caller spec answer)
    → has_text (Enlist caller spec answer) ≡ true
enlisted_has_text before caller spec answer right_for made =
    and_from (has_words spec && (length spec.below == 0)) (is_unwrapped spec.wrap)
    (and_from (has_words spec) (length spec.below == 0) (driver-words spec made) (ap (λ ids. length ids == 0) right_for.1))
    (ap is_unwrapped right_for.2)

-- ---- along a history

next-words : (before : List RegEntry) (e : RegEntry) → list_all has_words (registered before) ≡ true → IsMade table before e → list_all has_words (cons_option (registered_by e) []) ≡ true
next-words before (Enlist caller spec (enlisted.Made id)) p made = and_from (has_words spec) true (driver-words spec made) refl
next-words before (Enlist caller spec _) p made = refl
next-words before (End caller larval (Built id spec)) p made = and_from (has_words spec) true (end_has_words before caller larval (Built id spec) p made) refl
next-words before (End caller larval _) p made = refl
next-words before _ p made = refl

-- so what is registered goes on having names that can be printed
pub registered_have_words : (before : List RegEntry) (e : RegEntry) → list_all has_words (registered before) ≡ true → IsMade table before e → list_all has_words (registered (before ++ e ∷ [])) ≡ true
registered_have_words before e p made =
    ap (list_all has_words) (registered-push before e)
    ∙ (list_all-append has_words (registered before) (cons_option (registered_by e) [])
    ∙ and_from (list_all has_words (registered before)) (list_all has_words (cons_option (registered_by e) [])) p (next-words before e p made))
