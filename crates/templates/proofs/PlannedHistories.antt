-- Over a legal history of faithful builds: what each entry is, and that looks for children come to plain entries.
use Rattle.std.proofs.Common.{◌≡◌, ℕ, zero, suc, ◌<◌, ◌≤◌, ◌⊎◌, inl, inr, Bool, true, false, eqb, ◌&&◌, ◌||◌, if◌then◌else◌, List, [], ◌∷◌, ◌++◌, length, get_or, map, refl, ap, sym, ◌∙◌, subst, arith, Option, Some, None, Result, Ok, Err, append_assoc, codes}
use Rattle.std.specs.Prelude.{slice_get, nat_le, All, ⊤}
use Rattle.std.specs.List.{filter_map, cons_option, list_any, list_all, AllByRecursion}
use Rattle.std.specs.Option.{option_and_then, option_map, option_map_or, option_or}
use Rattle.std.specs.Str.{bytes_eq}
use Rattle.std.proofs.lemmas.List.{append-nil}
use Rattle.std.proofs.lemmas.Bool.{eqb-true}
use Rattle.std.proofs.lemmas.Slice.Eq.{bytes_eq-Decides}
use Rattle.kc_base.specs.declared.error_numbers.Errno.{Errno}
use Rattle.kc_base.specs.declared.error_numbers.Errno.TheVariants.{ENOENT, EAGAIN, EEXIST, ENFILE}
use Rattle.alg_registry.specs.declared.spec.Spec.{Spec}
use Rattle.alg_registry.specs.declared.spec.Wrap.TheVariants.{Plain}
use Rattle.alg_registry.specs.declared.row.Row.{Row}
use Rattle.alg_registry.specs.declared.entry.Ended.{Ended}
use Rattle.alg_registry.specs.declared.entry.Ended.TheVariants as ended
use Rattle.alg_registry.specs.declared.entry.Enlisted.{Enlisted}
use Rattle.alg_registry.specs.declared.entry.Enlisted.TheVariants as enlisted
use Rattle.alg_registry.specs.declared.entry.Looked.{Looked}
use Rattle.alg_registry.specs.declared.entry.Looked.TheVariants.{Found, Pending, Began, Absent}
use Rattle.alg_registry.specs.declared.entry.EndAnswer.{EndAnswer}
use Rattle.alg_registry.specs.declared.entry.EndAnswer.TheVariants.{Built, Joined, Failed, NoMemory}
use Rattle.alg_registry.specs.declared.entry.RegEntry.{RegEntry}
use Rattle.alg_registry.specs.declared.entry.RegEntry.TheVariants.{Enlist, Look, Claim, End, Waited, Unlist, Get, Put, Refs}
use Rattle.alg_registry.specs.declared.entry.RegEntry.TheVariants as entry
use Rattle.alg_registry.specs.Rows.{registered, registered_by, texts, begun_by, ends, end_of, rows_of, larvals_of, listed_at}
use Rattle.alg_registry.specs.Answers.{look_answer, built_answer, joined_or_built, driver_place, clashes_with, held_count}
use Rattle.alg_registry.specs.Legal.{LegalReg, MayFollow, IsRight, ended_as}
use Rattle.alg_registry.specs.Made.{Made, MadeAfter, IsMade, building, last_of, looks_for, look_for, if_of, outcome, outcomes, outcome_of, all_outcomes, made_answer, by_children, by_outcomes, by_spec, with_spec, next_child, next_of}
use Rattle.alg_registry.proofs.Steps.{LegalReg-push, registered-push}
use Rattle.alg_registry.proofs.Fresh.{claim_within, length-rows_of, spec-rows_of}
use Rattle.alg_registry.proofs.Existing.{if_some}
use Rattle.alg_registry.proofs.Stack.{texts-push, looks-push, ended-push, ended-new}
use Rattle.alg_names.specs.Name.{Tree, node, end, IsName, a_word, a_template, one, word_of, args_of, list_of, spelling}
use Rattle.alg_names.specs.Spelled.{tree_of}
use Rattle.templates.specs.declared.driver_plans.AesForm.TheVariants.{AesGeneric, AesTable, AesLanes}
use Rattle.templates.specs.declared.driver_plans.GhashForm.TheVariants.{GhashGeneric, GhashTable}
use Rattle.templates.specs.Nesting.{is_nested_well, is_wrapper_word, has_wrapper, any_wrapper}
use Rattle.templates.specs.Table.{table, template_at, children_of, derived_of, spellings, is_allowed, is_bare, begins_with}
use Rattle.templates.proofs.Growth.{split}
use Rattle.templates.proofs.ChildLooks.{get_within}
use Rattle.alg_registry.proofs.Looks.{began_new}
use Rattle.alg_registry.proofs.Histories.{get_more}
use Rattle.templates.proofs.Looks.{position_at}
use Rattle.templates.proofs.Shapes.{AsksOwn, AsksParts, AsksWithin, by_shape, child_bare}
use Rattle.templates.proofs.PlainLooks.{found_bare, pending_text}
use Rattle.templates.proofs.Makes.{Make, cipher, sha256, ghash, cbc, ctr, rfc3686, xts, gcm, rfc4106, ccm, hmac, cmac, authenc_cbc, authenc_ctr, authenc_rfc3686, authenc_xts, IsPlainAs, IsWrappedAs, Wraps, Known, IsPlain, ArePlain, IsMadeSo, derived-plain, driver-known, opening-known, tree_of_make, over, right_true}

-- what is known of the grammar
pub record Grammar : Type 0 where
  pub read : (text : List ℕ) (t : Tree) → IsName text t → tree_of text ≡ Some t
  pub named : (text : List ℕ) (t : Tree) → tree_of text ≡ Some t → IsName text t
  pub arguments : (text : List ℕ) (t : Tree) → IsName text t → All (λ a. IsName (spelling a) a) (args_of t)

-- ---- lists

get_option : {A : Type 0} (o : Option A) (n : ℕ) (x : A) → slice_get (cons_option o []) n ≡ Some x → o ≡ Some x
get_option None n x e = absurd cc
get_option (Some y) zero x e = e
get_option (Some y) (suc n) x e = absurd cc

get_either : {A : Type 0} (xs ys : List A) (n : ℕ) (x : A) → slice_get (xs ++ ys) n ≡ Some x → (slice_get xs n ≡ Some x) ⊎ ((m : ℕ) × (slice_get ys m ≡ Some x))
get_either [] ys n x e = inr (n, e)
get_either (y ∷ xs) ys zero x e = inl e
get_either (y ∷ xs) ys (suc n) x e = get_either xs ys n x e

get_last : {A : Type 0} (xs : List A) (x : A) (n : ℕ) → n ≡ length xs → slice_get (xs ++ x ∷ []) n ≡ Some x
get_last [] x n e = ap (λ m. slice_get (x ∷ []) m) e
get_last (y ∷ xs) x n e = ap (λ m. slice_get (y ∷ (xs ++ x ∷ [])) m) e ∙ get_last xs x (length xs) refl

same_some : {A : Type 0} {x y : A} → Some x ≡ Some y → x ≡ y
same_some e = cc

all_snoc : {A : Type 0} (P : A → Type 0) (xs ys : List A) → AllByRecursion P xs → AllByRecursion P ys → AllByRecursion P (xs ++ ys)
all_snoc P [] ys p q = q
all_snoc P (x ∷ xs) ys p q = (p.0, all_snoc P xs ys p.1 q)

all_map : {A : Type 0} (P Q : A → Type 0) → ((x : A) → P x → Q x) → (xs : List A) → AllByRecursion P xs → AllByRecursion Q xs
all_map P Q f [] p = tt
all_map P Q f (x ∷ xs) p = (f x p.0, all_map P Q f xs p.1)

-- ---- what is kept over a history

abbrev IsPlainAt : List RegEntry → ℕ → Type 0
IsPlainAt h id = (s : Spec) × (slice_get (registered h) id ≡ Some s) × (is_bare s.wrap ≡ true)

-- the text is a name with no wrapper at its root
abbrev IsPlainText : List ℕ → Type 0
IsPlainText text = (t : Tree) × (tree_of text ≡ Some t) × (is_wrapper_word (word_of t) ≡ false)

abbrev HasPlainText : List RegEntry → ℕ → Type 0
HasPlainText h n = (text : List ℕ) × (slice_get (texts h) n ≡ Some text) × IsPlainText text

abbrev LooksPlain : List RegEntry → Looked → Type 0
LooksPlain h (Found id) = IsPlainAt h id
LooksPlain h (Pending n) = HasPlainText h n
LooksPlain h (Began n) = HasPlainText h n
LooksPlain h Absent = ⊤

pub record IsFaithful (h : List RegEntry) : Type 0 where
  pub legal : LegalReg h
  pub entries : (id : ℕ) (s : Spec) → slice_get (registered h) id ≡ Some s → Known s
  pub named : (n : ℕ) (text : List ℕ) → slice_get (texts h) n ≡ Some text → table.is_name text ≡ true
  pub ended : (n id : ℕ) → HasPlainText h n → outcome_of (ended_as h n) ≡ Some (Ok id) → IsPlainAt h id
  pub looks : (n : ℕ) → AllByRecursion (LooksPlain h) (looks_for n [] h)

plain_stays : (h : List RegEntry) (e : RegEntry) (id : ℕ) → IsPlainAt h id → IsPlainAt (h ++ e ∷ []) id
plain_stays h e id p = (p.0, ap (λ l. slice_get l id) (registered-push h e) ∙ get_more (registered h) (cons_option (registered_by e) []) id p.0 p.1, p.2)

text_stays : (h : List RegEntry) (e : RegEntry) (n : ℕ) → HasPlainText h n → HasPlainText (h ++ e ∷ []) n
text_stays h e n p = (p.0, ap (λ l. slice_get l n) (texts-push h e) ∙ get_more (texts h) (cons_option (begun_by e) []) n p.0 p.1, p.2)

look_stays : (h : List RegEntry) (e : RegEntry) (a : Looked) → LooksPlain h a → LooksPlain (h ++ e ∷ []) a
look_stays h e (Found id) p = plain_stays h e id p
look_stays h e (Pending n) p = text_stays h e n p
look_stays h e (Began n) p = text_stays h e n p
look_stays h e Absent p = tt

early_text : (h : List RegEntry) (e : RegEntry) (n : ℕ) → n < length (texts h) → HasPlainText (h ++ e ∷ []) n → HasPlainText h n
early_text h e n lt p = (p.0, at (get_either (texts h) (cons_option (begun_by e) []) n p.0 (sym (ap (λ l. slice_get l n) (texts-push h e)) ∙ p.1)), p.2)
  where
    get_there : (xs : List (List ℕ)) (m : ℕ) → m < length xs → (x : List ℕ) × (slice_get xs m ≡ Some x)
    get_there [] m l = absurd (omega (arith, l))
    get_there (x ∷ xs) zero l = (x, refl)
    get_there (x ∷ xs) (suc m) l = get_there xs m (omega (arith, l))

    at : (slice_get (texts h) n ≡ Some p.0) ⊎ ((m : ℕ) × (slice_get (cons_option (begun_by e) []) m ≡ Some p.0)) → slice_get (texts h) n ≡ Some p.0
    at (inl q) = q
    at (inr q) =
        let r = get_there (texts h) n lt in
        let s : slice_get (texts h ++ cons_option (begun_by e) []) n ≡ Some r.0 = get_more (texts h) (cons_option (begun_by e) []) n r.0 r.1 in
        let t : Some r.0 ≡ Some p.0 = sym s ∙ (sym (ap (λ l. slice_get l n) (texts-push h e)) ∙ p.1) in
        r.1 ∙ t

-- one more entry, by what it adds
record Adds (h : List RegEntry) (e : RegEntry) : Type 0 where
  entry : (s : Spec) → registered_by e ≡ Some s → Known s
  text : (x : List ℕ) → begun_by e ≡ Some x → table.is_name x ≡ true
  ending : (n id : ℕ) → HasPlainText h n → outcome_of (ends n e) ≡ Some (Ok id) → IsPlainAt (h ++ e ∷ []) id
  look : (n : ℕ) (a : Looked) → if_of n (look_for h e) ≡ Some a → LooksPlain (h ++ e ∷ []) a

faithful_step : (h : List RegEntry) (e : RegEntry) → IsFaithful h → IsRight h e → Adds h e → IsFaithful (h ++ e ∷ [])
faithful_step h e p right adds = record {
  legal = LegalReg-push h e p.legal right;
  entries = λ id s q. entry_at id s (get_either (registered h) (cons_option (registered_by e) []) id s (sym (ap (λ l. slice_get l id) (registered-push h e)) ∙ q));
  named = λ n x q. text_at n x (get_either (texts h) (cons_option (begun_by e) []) n x (sym (ap (λ l. slice_get l n) (texts-push h e)) ∙ q));
  ended = λ n id t q. by_place n id t q (split n (length (texts h)));
  looks = λ n. subst (λ ls. AllByRecursion (LooksPlain (h ++ e ∷ [])) ls) (sym (looks-push n h e))
      (all_snoc (LooksPlain (h ++ e ∷ [])) (looks_for n [] h) (cons_option (if_of n (look_for h e)) []) (all_map (LooksPlain h) (LooksPlain (h ++ e ∷ [])) (look_stays h e) (looks_for n [] h) (p.looks n)) (new_look n (if_of n (look_for h e)) refl));
}
  where
    entry_at : (id : ℕ) (s : Spec) → (slice_get (registered h) id ≡ Some s) ⊎ ((m : ℕ) × (slice_get (cons_option (registered_by e) []) m ≡ Some s)) → Known s
    entry_at id s (inl q) = p.entries id s q
    entry_at id s (inr q) = adds.entry s (get_option (registered_by e) q.0 s q.1)

    text_at : (n : ℕ) (x : List ℕ) → (slice_get (texts h) n ≡ Some x) ⊎ ((m : ℕ) × (slice_get (cons_option (begun_by e) []) m ≡ Some x)) → table.is_name x ≡ true
    text_at n x (inl q) = p.named n x q
    text_at n x (inr q) = adds.text x (get_option (begun_by e) q.0 x q.1)

    new_look : (n : ℕ) (o : Option Looked) → if_of n (look_for h e) ≡ o → AllByRecursion (LooksPlain (h ++ e ∷ [])) (cons_option o [])
    new_look n None q = tt
    new_look n (Some a) q = (adds.look n a q, tt)

    by_end : (n id : ℕ) → HasPlainText h n → (o : Option Ended) → ended_as h n ≡ o → outcome_of (option_or o (ends n e)) ≡ Some (Ok id) → IsPlainAt (h ++ e ∷ []) id
    by_end n id t (Some x) q f = plain_stays h e id (p.ended n id t (ap outcome_of q ∙ f))
    by_end n id t None q f = adds.ending n id t f

    by_place : (n id : ℕ) → HasPlainText (h ++ e ∷ []) n → outcome_of (ended_as (h ++ e ∷ []) n) ≡ Some (Ok id) → (n < length (texts h)) ⊎ (length (texts h) ≤ n) → IsPlainAt (h ++ e ∷ []) id
    by_place n id t q (inl lt) =
        by_end n id (early_text h e n lt t) (ended_as h n) refl (sym (ap outcome_of (ended-push h e n lt)) ∙ q)
    by_place n id t q (inr le) =
        let none : ended_as (h ++ e ∷ []) n ≡ None = ended-new h e n p.legal le (get_within (texts (h ++ e ∷ [])) n t.0 t.1) (claim_within h e right n le).1 in
        absurd (let f : None ≡ Some (Ok id) = sym (ap outcome_of none) ∙ q in cc)

-- ---- what a text's tree says of the table

name_tree : (text : List ℕ) → table.is_name text ≡ true → (t : Tree) × (tree_of text ≡ Some t) × (is_nested_well t ≡ true)
unfolding table
name_tree text e = by_tree (tree_of text) refl e
  where
    by_tree : (o : Option Tree) → tree_of text ≡ o → option_map_or (is_allowed text) o false ≡ true → (t : Tree) × (tree_of text ≡ Some t) × (is_nested_well t ≡ true)
    by_tree None q f = absurd cc
    by_tree (Some t) q f = (t, q, right_true _ (is_nested_well t) f)

children_at : (text : List ℕ) (t : Tree) → tree_of text ≡ Some t → table.children text ≡ spellings (children_of t)
unfolding table
children_at text t e = ap (λ o. spellings (option_map_or children_of o (Err ENOENT))) e

derived_at : (text : List ℕ) (t : Tree) (below : List (ℕ × Spec)) → tree_of text ≡ Some t → table.derived text below ≡ derived_of t below
unfolding table
derived_at text t below e = ap (λ o. option_map_or (λ u. derived_of u below) o (Err ENOENT)) e

-- ---- a child is a name with no wrapper

left_false : (a b : Bool) → (a || b) ≡ false → a ≡ false
left_false true b e = absurd cc
left_false false b e = refl

root_bare : (u : Tree) → has_wrapper u ≡ false → is_wrapper_word (word_of u) ≡ false
root_bare (node w ts) e = left_false (is_wrapper_word w) (any_wrapper ts) e

record IsChild (u : Tree) : Type 0 where
  named : IsName (spelling u) u
  bare : is_wrapper_word (word_of u) ≡ false

ctr_named : (x : Tree) → IsName (spelling x) x → IsName (spelling (over (codes "ctr") x)) (over (codes "ctr") x)
ctr_named x h = a_template {w = codes "ctr"} {inner = spelling x} (omega arith, (refl, (refl, (refl, tt)))) (one h)

ghash_named : IsName (codes "ghash") (node (codes "ghash") end)
ghash_named = a_word (omega arith, (refl, (refl, (refl, (refl, (refl, tt))))))

child_is : Grammar → (text : List ℕ) (t : Tree) (names : List Tree) (i : ℕ) (u : Tree) → IsName text t → children_of t ≡ Ok names → is_nested_well t ≡ true → i < length names → u ≡ get_or names i u → IsChild u
child_is g text (node w ts) names i u named e nested lt is = by_case (by_shape (template_at (node w ts)) (list_of ts) names e)
  where
    at_gcm : (x : Tree) (j : ℕ) → IsName (spelling x) x → j < 2 → u ≡ get_or (over (codes "ctr") x ∷ node (codes "ghash") end ∷ []) j u → IsChild u
    at_gcm x zero n l q = subst IsChild (sym q) (record { named = ctr_named x n; bare = refl })
    at_gcm x (suc zero) n l q = subst IsChild (sym q) (record { named = ghash_named; bare = refl })
    at_gcm x (suc (suc j)) n l q = absurd (omega (arith, l))

    -- the only argument
    only_named : (x : Tree) → list_of ts ≡ x ∷ [] → IsName (spelling x) x
    only_named x s = subst (λ xs. IsName (spelling (get_or xs 0 x)) (get_or xs 0 x)) s (g.arguments text (node w ts) named 0 x (omega (arith, ap length s)))

    by_case : AsksOwn (template_at (node w ts)) (list_of ts) names ⊎ (AsksParts (template_at (node w ts)) (list_of ts) names ⊎ AsksWithin (template_at (node w ts)) (list_of ts) names) → IsChild u
    by_case (inl s) =
        let at : u ≡ get_or (list_of ts) i u = is ∙ ap (λ ns. get_or ns i u) s.1 in
        record {
          named = subst (λ a. IsName (spelling a) a) (sym at) (g.arguments text (node w ts) named i u (subst (λ ns. i < length ns) s.1 lt));
          bare = root_bare u (child_bare w ts names i u (inl s) lt is nested);
        }
    by_case (inr (inl s)) = at_gcm s.1 i (only_named s.1 s.2) (subst (λ ns. i < length ns) s.3 lt) (is ∙ ap (λ ns. get_or ns i u) s.3)
    by_case (inr (inr s)) =
        let at : u ≡ get_or (args_of s.1) i u = is ∙ ap (λ ns. get_or ns i u) s.3 in
        record {
          named = subst (λ a. IsName (spelling a) a) (sym at) (g.arguments (spelling s.1) s.1 (only_named s.1 s.2) i u (subst (λ ns. i < length ns) s.3 lt));
          bare = root_bare u (child_bare w ts names i u (inr s) lt is nested);
        }

next_some : (h : List RegEntry) (looks : List Looked) (texts : List (List ℕ)) (ids : List ℕ) → outcomes h looks ≡ Some (Ok ids) → next_of h looks (Ok texts) ≡ slice_get texts (length ids)
next_some h looks texts ids e = rw e

next_none : (h : List RegEntry) (looks : List Looked) (texts : List (List ℕ)) → outcomes h looks ≡ None → next_of h looks (Ok texts) ≡ None
next_none h looks texts e = rw e

next_failed : (h : List RegEntry) (looks : List Looked) (texts : List (List ℕ)) (errno : Errno) → outcomes h looks ≡ Some (Err errno) → next_of h looks (Ok texts) ≡ None
next_failed h looks texts errno e = rw e

spelled_at : (us : List Tree) (i : ℕ) (text : List ℕ) → slice_get (map spelling us) i ≡ Some text → (u : Tree) × (text ≡ spelling u) × (i < length us) × (u ≡ get_or us i u)
spelled_at [] i text e = absurd cc
spelled_at (u ∷ us) zero text e = (u, (let f : text ≡ spelling u = cc in f), omega arith, refl)
spelled_at (u ∷ us) (suc i) text e = let r = spelled_at us i text e in (r.0, r.1, omega (arith, r.2), r.3)

child_plain : Grammar → (h : List RegEntry) (caller : ℕ) (text : List ℕ) → IsFaithful h → next_child table h caller ≡ Some text → IsPlainText text
child_plain g h caller text p e = by_larval (last_of (building h caller)) e
  where
    plain : (x : List ℕ) (t : Tree) (us : List Tree) (i : ℕ) → tree_of x ≡ Some t → is_nested_well t ≡ true → children_of t ≡ Ok us → slice_get (map spelling us) i ≡ Some text → IsPlainText text
    plain x t us i is nested asked at =
        let r = spelled_at us i text at in
        let c = child_is g x t us i r.0 (g.named x t is) asked nested r.2 r.3 in
        (r.0, ap tree_of r.1 ∙ g.read (spelling r.0) r.0 c.named, c.bare)

    by_outcome : (x : List ℕ) (t : Tree) (us : List Tree) (looks : List Looked) (o : Option (Result (List ℕ) Errno)) → outcomes h looks ≡ o → tree_of x ≡ Some t → is_nested_well t ≡ true → children_of t ≡ Ok us → next_of h looks (Ok (map spelling us)) ≡ Some text → IsPlainText text
    by_outcome x t us looks None q is nested asked f = absurd (let k : None ≡ Some text = sym (next_none h looks (map spelling us) q) ∙ f in cc)
    by_outcome x t us looks (Some (Err errno)) q is nested asked f = absurd (let k : None ≡ Some text = sym (next_failed h looks (map spelling us) errno q) ∙ f in cc)
    by_outcome x t us looks (Some (Ok ids)) q is nested asked f = plain x t us (length ids) is nested asked (sym (next_some h looks (map spelling us) ids q) ∙ f)

    by_asked : (x : List ℕ) (t : Tree) (looks : List Looked) (r : Result (List Tree) Errno) → children_of t ≡ r → tree_of x ≡ Some t → is_nested_well t ≡ true → next_of h looks (spellings r) ≡ Some text → IsPlainText text
    by_asked x t looks (Err errno) q is nested f = absurd cc
    by_asked x t looks (Ok us) q is nested f = by_outcome x t us looks (outcomes h looks) refl is nested q f

    by_text : (n : ℕ) (o : Option (List ℕ)) → slice_get (texts h) n ≡ o → option_and_then (λ x. next_of h (looks_for n [] h) (table.children x)) o ≡ Some text → IsPlainText text
    by_text n None q f = absurd cc
    by_text n (Some x) q f =
        let r = name_tree x (p.named n x q) in
        by_asked x r.0 (looks_for n [] h) (children_of r.0) refl r.1 r.2 (sym (ap (λ c. next_of h (looks_for n [] h) c) (children_at x r.0 r.1)) ∙ f)

    by_larval : (o : Option ℕ) → option_and_then (λ n. option_and_then (λ x. next_of h (looks_for n [] h) (table.children x)) (slice_get (texts h) n)) o ≡ Some text → IsPlainText text
    by_larval None f = absurd cc
    by_larval (Some n) f = by_text n (slice_get (texts h) n) refl f

-- ---- how a larval ends

outcome_plain : (h : List RegEntry) (a : Looked) (id : ℕ) → IsFaithful h → LooksPlain h a → outcome h a ≡ Some (Ok id) → IsPlainAt h id
outcome_plain h (Found found) id p plain e = let f : found ≡ id = cc in subst (IsPlainAt h) f plain
outcome_plain h (Pending n) id p plain e = p.ended n id plain e
outcome_plain h (Began n) id p plain e = p.ended n id plain e
outcome_plain h Absent id p plain e = absurd cc

outcomes_plain : (h : List RegEntry) (looks : List Looked) (ids : List ℕ) → IsFaithful h → AllByRecursion (LooksPlain h) looks → outcomes h looks ≡ Some (Ok ids) → AllByRecursion (IsPlainAt h) ids
outcomes_plain h [] ids p plain e = let f : [] ≡ ids = cc in subst (AllByRecursion (IsPlainAt h)) f tt
outcomes_plain h (a ∷ looks) ids p plain e = here (outcome h a) (outcomes h looks) refl refl e (λ rest q. outcomes_plain h looks rest p plain.1 q)
  where
    here : (o : Option (Result ℕ Errno)) (r : Option (Result (List ℕ) Errno)) → outcome h a ≡ o → outcomes h looks ≡ r → all_outcomes o r ≡ Some (Ok ids) → ((rest : List ℕ) → outcomes h looks ≡ Some (Ok rest) → AllByRecursion (IsPlainAt h) rest) → AllByRecursion (IsPlainAt h) ids
    here None r x y z more = absurd cc
    here (Some (Err errno)) r x y z more = absurd cc
    here (Some (Ok first)) None x y z more = absurd cc
    here (Some (Ok first)) (Some (Err errno)) x y z more = absurd cc
    here (Some (Ok first)) (Some (Ok rest)) x y z more =
        let f : first ∷ rest ≡ ids = cc in subst (AllByRecursion (IsPlainAt h)) f (outcome_plain h a first p plain.0 x, more rest y)

plain_known : (s : Spec) → is_bare s.wrap ≡ true → Known s → IsPlain s
plain_known s bare known = by_make known.0 known.1
  where
    by_make : (m : Make) → IsPlainAs s m ⊎ IsWrappedAs s m → IsPlain s
    by_make m (inl plain) = (m, plain)
    by_make m (inr under) = absurd (let e : true ≡ false = sym bare ∙ under.wrapped in cc)

below_plain : (h : List RegEntry) (ids : List ℕ) → IsFaithful h → AllByRecursion (IsPlainAt h) ids → ArePlain (filter_map (with_spec (registered h)) ids)
below_plain h [] p plain = tt
below_plain h (id ∷ ids) p plain =
    subst (λ (o : Option (ℕ × Spec)). ArePlain (cons_option o (filter_map (with_spec (registered h)) ids))) (sym (ap (λ (o : Option Spec). option_and_then (λ spec. Some (id, spec)) o) plain.0.1))
    (plain_known plain.0.0 plain.0.2 (p.entries id plain.0.0 plain.0.1), below_plain h ids p plain.1)

-- what a larval that ends with an entry was built of
record Ending (h : List RegEntry) (larval : ℕ) (answer : EndAnswer) : Type 0 where
  text : List ℕ
  text_is : slice_get (texts h) larval ≡ Some text
  tree : Tree
  tree_is : tree_of text ≡ Some tree
  spec : Spec
  made : IsMadeSo (word_of tree) spec
  answer_is : built_answer (rows_of h) spec ≡ answer

ending_of : (h : List RegEntry) (larval : ℕ) (answer : EndAnswer) → IsFaithful h → ((errno : Errno) → Failed errno ≡ answer → ⊥) → made_answer table h larval ≡ Some answer → Ending h larval answer
ending_of h larval answer p not_failed e = by_text (slice_get (texts h) larval) refl e
  where
    by_derived : (x : List ℕ) (t : Tree) (ids : List ℕ) (r : Result Spec Errno) → derived_of t (filter_map (with_spec (registered h)) ids) ≡ r → slice_get (texts h) larval ≡ Some x → tree_of x ≡ Some t → outcomes h (looks_for larval [] h) ≡ Some (Ok ids) → by_spec h r ≡ answer → Ending h larval answer
    by_derived x t ids (Err errno) q at is come f = absurd (not_failed errno f)
    by_derived x t ids (Ok spec) q at is come f = record {
      text = x;
      text_is = at;
      tree = t;
      tree_is = is;
      spec = spec;
      made = derived-plain t (filter_map (with_spec (registered h)) ids) spec (below_plain h ids p (outcomes_plain h (looks_for larval [] h) ids p (p.looks larval) come)) q;
      answer_is = f;
    }

    by_count : (b : Bool) (a : EndAnswer) → (if b then Some a else None) ≡ Some answer → a ≡ answer
    by_count true a f = cc
    by_count false a f = absurd cc

    by_outcome : (x : List ℕ) (t : Tree) (us : List Tree) (o : Option (Result (List ℕ) Errno)) → outcomes h (looks_for larval [] h) ≡ o → slice_get (texts h) larval ≡ Some x → tree_of x ≡ Some t → by_outcomes table h x (map spelling us) o ≡ Some answer → Ending h larval answer
    by_outcome x t us None q at is f = absurd cc
    by_outcome x t us (Some (Err errno)) q at is f = absurd (not_failed errno (same_some f))
    by_outcome x t us (Some (Ok ids)) q at is f =
        by_derived x t ids (derived_of t (filter_map (with_spec (registered h)) ids)) refl at is q
        (sym (ap (λ r. by_spec h r) (derived_at x t (filter_map (with_spec (registered h)) ids) is)) ∙ by_count (eqb (length ids) (length (map spelling us))) (by_spec h (table.derived x (filter_map (with_spec (registered h)) ids))) f)

    by_asked : (x : List ℕ) (t : Tree) (r : Result (List Tree) Errno) → children_of t ≡ r → slice_get (texts h) larval ≡ Some x → tree_of x ≡ Some t → by_children table h x (looks_for larval [] h) (spellings r) ≡ Some answer → Ending h larval answer
    by_asked x t (Err errno) q at is f = absurd (not_failed errno (same_some f))
    by_asked x t (Ok us) q at is f = by_outcome x t us (outcomes h (looks_for larval [] h)) refl at is f

    by_text : (o : Option (List ℕ)) → slice_get (texts h) larval ≡ o → option_and_then (λ x. by_children table h x (looks_for larval [] h) (table.children x)) o ≡ Some answer → Ending h larval answer
    by_text None q f = absurd cc
    by_text (Some x) q f =
        let r = name_tree x (p.named larval x q) in
        by_asked x r.0 (children_of r.0) refl q r.1 (sym (ap (λ c. by_children table h x (looks_for larval [] h) c) (children_at x r.0 r.1)) ∙ f)

-- an entry that was built has the next id
record IsBuilt (rows : List Row) (spec made : Spec) (id : ℕ) : Type 0 where
  id_is : id ≡ length rows
  spec_is : spec ≡ made

built_so : (rows : List Row) (spec made : Spec) (id : ℕ) → built_answer rows spec ≡ Built id made → IsBuilt rows spec made id
built_so rows spec made id e = by_below (list_all (listed_at rows) spec.below) (driver_place rows spec.driver) e
  where
    by_place : (c d : Bool) → (if c then Failed EEXIST else (if d then Failed ENFILE else Built (length rows) spec)) ≡ Built id made → IsBuilt rows spec made id
    by_place true d q = absurd cc
    by_place false true q = absurd cc
    by_place false false q = record { id_is = cc; spec_is = cc }

    by_driver : (o : Option ℕ) → joined_or_built rows spec o ≡ Built id made → IsBuilt rows spec made id
    by_driver (Some other) q = absurd cc
    by_driver None q = by_place (list_any (clashes_with spec) rows) (nat_le 4096 (held_count rows)) q

    by_below : (b : Bool) (o : Option ℕ) → (if b then joined_or_built rows spec o else Failed EAGAIN) ≡ Built id made → IsBuilt rows spec made id
    by_below true o q = by_driver o q
    by_below false o q = absurd cc

-- an entry that was joined has the driver
joined_driver : (rows : List Row) (spec : Spec) (id : ℕ) (below : List ℕ) → built_answer rows spec ≡ Joined id below → (row : Row) × (slice_get rows id ≡ Some row) × (row.spec.driver ≡ spec.driver)
joined_driver rows spec id below e = by_below (list_all (listed_at rows) spec.below) (driver_place rows spec.driver) refl e
  where
    by_place : (c d : Bool) → (if c then Failed EEXIST else (if d then Failed ENFILE else Built (length rows) spec)) ≡ Joined id below → ⊥
    by_place true d q = cc
    by_place false true q = cc
    by_place false false q = cc

    by_driver : (o : Option ℕ) → driver_place rows spec.driver ≡ o → joined_or_built rows spec o ≡ Joined id below → (row : Row) × (slice_get rows id ≡ Some row) × (row.spec.driver ≡ spec.driver)
    by_driver None k q = absurd (by_place (list_any (clashes_with spec) rows) (nat_le 4096 (held_count rows)) q)
    by_driver (Some other) k q =
        let r = position_at (λ row. row.listed && bytes_eq row.spec.driver spec.driver) 0 other rows k in
        let same : other ≡ id = cc in
        let at : r.0 ≡ id = omega (arith, r.1, same) in
        (r.2, subst (λ n. slice_get rows n ≡ Some r.2) at r.3, (bytes_eq-Decides r.2.spec.driver spec.driver).0 (right_true r.2.listed (bytes_eq r.2.spec.driver spec.driver) r.4))

    by_below : (b : Bool) (o : Option ℕ) → driver_place rows spec.driver ≡ o → (if b then joined_or_built rows spec o else Failed EAGAIN) ≡ Joined id below → (row : Row) × (slice_get rows id ≡ Some row) × (row.spec.driver ≡ spec.driver)
    by_below true o k q = by_driver o k q
    by_below false o k q = absurd cc

-- ---- no instance has the driver of one under `pcrypt` or `cryptd`

no_pcrypt : (m : Make) → begins_with (spelling (tree_of_make m)) (codes "pcrypt(") ≡ false
no_pcrypt (cipher AesGeneric) = refl
no_pcrypt (cipher AesTable) = refl
no_pcrypt (cipher AesLanes) = refl
no_pcrypt sha256 = refl
no_pcrypt (ghash GhashGeneric) = refl
no_pcrypt (ghash GhashTable) = refl
no_pcrypt (cbc AesGeneric) = refl
no_pcrypt (cbc AesTable) = refl
no_pcrypt (cbc AesLanes) = refl
no_pcrypt (ctr AesGeneric) = refl
no_pcrypt (ctr AesTable) = refl
no_pcrypt (ctr AesLanes) = refl
no_pcrypt (rfc3686 AesGeneric) = refl
no_pcrypt (rfc3686 AesTable) = refl
no_pcrypt (rfc3686 AesLanes) = refl
no_pcrypt (xts AesGeneric) = refl
no_pcrypt (xts AesTable) = refl
no_pcrypt (xts AesLanes) = refl
no_pcrypt (gcm AesGeneric GhashGeneric) = refl
no_pcrypt (gcm AesGeneric GhashTable) = refl
no_pcrypt (gcm AesTable GhashGeneric) = refl
no_pcrypt (gcm AesTable GhashTable) = refl
no_pcrypt (gcm AesLanes GhashGeneric) = refl
no_pcrypt (gcm AesLanes GhashTable) = refl
no_pcrypt (rfc4106 AesGeneric GhashGeneric) = refl
no_pcrypt (rfc4106 AesGeneric GhashTable) = refl
no_pcrypt (rfc4106 AesTable GhashGeneric) = refl
no_pcrypt (rfc4106 AesTable GhashTable) = refl
no_pcrypt (rfc4106 AesLanes GhashGeneric) = refl
no_pcrypt (rfc4106 AesLanes GhashTable) = refl
no_pcrypt (ccm AesGeneric) = refl
no_pcrypt (ccm AesTable) = refl
no_pcrypt (ccm AesLanes) = refl
no_pcrypt hmac = refl
no_pcrypt (cmac AesGeneric) = refl
no_pcrypt (cmac AesTable) = refl
no_pcrypt (cmac AesLanes) = refl
no_pcrypt (authenc_cbc AesGeneric) = refl
no_pcrypt (authenc_cbc AesTable) = refl
no_pcrypt (authenc_cbc AesLanes) = refl
no_pcrypt (authenc_ctr AesGeneric) = refl
no_pcrypt (authenc_ctr AesTable) = refl
no_pcrypt (authenc_ctr AesLanes) = refl
no_pcrypt (authenc_rfc3686 AesGeneric) = refl
no_pcrypt (authenc_rfc3686 AesTable) = refl
no_pcrypt (authenc_rfc3686 AesLanes) = refl
no_pcrypt (authenc_xts AesGeneric) = refl
no_pcrypt (authenc_xts AesTable) = refl
no_pcrypt (authenc_xts AesLanes) = refl

no_cryptd : (m : Make) → begins_with (spelling (tree_of_make m)) (codes "cryptd(") ≡ false
no_cryptd (cipher AesGeneric) = refl
no_cryptd (cipher AesTable) = refl
no_cryptd (cipher AesLanes) = refl
no_cryptd sha256 = refl
no_cryptd (ghash GhashGeneric) = refl
no_cryptd (ghash GhashTable) = refl
no_cryptd (cbc AesGeneric) = refl
no_cryptd (cbc AesTable) = refl
no_cryptd (cbc AesLanes) = refl
no_cryptd (ctr AesGeneric) = refl
no_cryptd (ctr AesTable) = refl
no_cryptd (ctr AesLanes) = refl
no_cryptd (rfc3686 AesGeneric) = refl
no_cryptd (rfc3686 AesTable) = refl
no_cryptd (rfc3686 AesLanes) = refl
no_cryptd (xts AesGeneric) = refl
no_cryptd (xts AesTable) = refl
no_cryptd (xts AesLanes) = refl
no_cryptd (gcm AesGeneric GhashGeneric) = refl
no_cryptd (gcm AesGeneric GhashTable) = refl
no_cryptd (gcm AesTable GhashGeneric) = refl
no_cryptd (gcm AesTable GhashTable) = refl
no_cryptd (gcm AesLanes GhashGeneric) = refl
no_cryptd (gcm AesLanes GhashTable) = refl
no_cryptd (rfc4106 AesGeneric GhashGeneric) = refl
no_cryptd (rfc4106 AesGeneric GhashTable) = refl
no_cryptd (rfc4106 AesTable GhashGeneric) = refl
no_cryptd (rfc4106 AesTable GhashTable) = refl
no_cryptd (rfc4106 AesLanes GhashGeneric) = refl
no_cryptd (rfc4106 AesLanes GhashTable) = refl
no_cryptd (ccm AesGeneric) = refl
no_cryptd (ccm AesTable) = refl
no_cryptd (ccm AesLanes) = refl
no_cryptd hmac = refl
no_cryptd (cmac AesGeneric) = refl
no_cryptd (cmac AesTable) = refl
no_cryptd (cmac AesLanes) = refl
no_cryptd (authenc_cbc AesGeneric) = refl
no_cryptd (authenc_cbc AesTable) = refl
no_cryptd (authenc_cbc AesLanes) = refl
no_cryptd (authenc_ctr AesGeneric) = refl
no_cryptd (authenc_ctr AesTable) = refl
no_cryptd (authenc_ctr AesLanes) = refl
no_cryptd (authenc_rfc3686 AesGeneric) = refl
no_cryptd (authenc_rfc3686 AesTable) = refl
no_cryptd (authenc_rfc3686 AesLanes) = refl
no_cryptd (authenc_xts AesGeneric) = refl
no_cryptd (authenc_xts AesTable) = refl
no_cryptd (authenc_xts AesLanes) = refl

pcrypt_driver : (t : Tree) → begins_with (spelling (over (codes "pcrypt") t)) (codes "pcrypt(") ≡ true
pcrypt_driver t = refl

cryptd_driver : (t : Tree) → begins_with (spelling (over (codes "cryptd") t)) (codes "cryptd(") ≡ true
cryptd_driver t = refl

other_driver : (s u : Spec) → IsPlain s → (m : Make) → IsWrappedAs u m → u.driver ≡ s.driver → ⊥
other_driver s u plain m under same = by_form under.form
  where
    by_pcrypt : under.word ≡ codes "pcrypt" → ⊥
    by_pcrypt e =
        let f : spelling (over (codes "pcrypt") under.inner) ≡ spelling (tree_of_make plain.0) = sym (under.driver ∙ ap (λ v. spelling (over v under.inner)) e) ∙ (same ∙ plain.1.driver) in
        let g : true ≡ false = sym (pcrypt_driver under.inner) ∙ (ap (λ x. begins_with x (codes "pcrypt(")) f ∙ no_pcrypt plain.0) in cc

    by_cryptd : under.word ≡ codes "cryptd" → ⊥
    by_cryptd e =
        let f : spelling (over (codes "cryptd") under.inner) ≡ spelling (tree_of_make plain.0) = sym (under.driver ∙ ap (λ v. spelling (over v under.inner)) e) ∙ (same ∙ plain.1.driver) in
        let g : true ≡ false = sym (cryptd_driver under.inner) ∙ (ap (λ x. begins_with x (codes "cryptd(")) f ∙ no_cryptd plain.0) in cc

    by_form : Wraps under.word under.inner (tree_of_make m) → ⊥
    by_form (inl e) = by_pcrypt e.0
    by_form (inr (inl e)) = by_cryptd e.0
    by_form (inr (inr e)) = by_cryptd e.0

-- ---- each entry keeps what is known

-- the root of the larval's name is no wrapper
root_of : (h : List RegEntry) (n : ℕ) (text : List ℕ) (tree : Tree) → slice_get (texts h) n ≡ Some text → tree_of text ≡ Some tree → HasPlainText h n → is_wrapper_word (word_of tree) ≡ false
root_of h n text tree at is t =
    let x : t.0 ≡ text = same_some (sym t.1 ∙ at) in
    let u : t.2.0 ≡ tree = same_some (sym t.2.1 ∙ (ap tree_of x ∙ is)) in
    subst (λ v. is_wrapper_word (word_of v) ≡ false) u t.2.2

row_plain : (h : List RegEntry) (id : ℕ) (row : Row) → slice_get (rows_of h) id ≡ Some row → slice_get (registered h) id ≡ Some row.spec
row_plain h id row at = sym (spec-rows_of h id) ∙ ap (λ (o : Option Row). option_map (λ r. r.spec) o) at

joined_plain : (h : List RegEntry) (larval id : ℕ) (below : List ℕ) → IsFaithful h → (ended_so : Ending h larval (Joined id below)) → HasPlainText h larval → IsPlainAt h id
joined_plain h larval id below p ended_so t =
    let r = joined_driver (rows_of h) ended_so.spec id below ended_so.answer_is in
    let at = row_plain h id r.0 r.1 in
    let bare = ended_so.made.bare (root_of h larval ended_so.text ended_so.tree ended_so.text_is ended_so.tree_is t) in
    (r.0.spec, at, by_known r.0.spec r.2 (plain_known ended_so.spec bare ended_so.made.known) (p.entries id r.0.spec at))
  where
    by_known : (s : Spec) → s.driver ≡ ended_so.spec.driver → IsPlain ended_so.spec → Known s → is_bare s.wrap ≡ true
    by_known s same plain known = by_make known.0 known.1
      where
        by_make : (m : Make) → IsPlainAs s m ⊎ IsWrappedAs s m → is_bare s.wrap ≡ true
        by_make m (inl q) = q.bare
        by_make m (inr under) = absurd (other_driver ended_so.spec s plain m under same)

found_plain : (h : List RegEntry) (text : List ℕ) (id : ℕ) → look_answer (rows_of h) (larvals_of h) text true ≡ Found id → IsPlainAt h id
found_plain h text id e = let r = found_bare (rows_of h) (larvals_of h) text id e in (r.0.spec, row_plain h id r.0 r.1, r.2)

known_driver : (spec : Spec) → spec.wrap ≡ Plain → table.is_driver spec ≡ true → Known spec
unfolding table
known_driver spec plain e = driver-known spec plain e

none_ends : (o : Option Ended) (id : ℕ) → o ≡ None → outcome_of o ≡ Some (Ok id) → ⊥
none_ends o id e f = let g : None ≡ Some (Ok id) = sym (ap outcome_of e) ∙ f in cc

-- the answer that a look for a child gets
look_of : (n : ℕ) (o : Option ℕ) (answer a : Looked) → if_of n (option_and_then (λ larval. Some (larval, answer)) o) ≡ Some a → answer ≡ a
look_of n None answer a e = absurd cc
look_of n (Some larval) answer a e = if_some (eqb larval n) answer a e

begun_text : (h : List RegEntry) (caller : ℕ) (text : List ℕ) (plain : Bool) (k : ℕ) → look_answer (rows_of h) (larvals_of h) text plain ≡ Began k → slice_get (texts (h ++ Look caller text plain (Began k) ∷ [])) k ≡ Some text
begun_text h caller text plain k e = ap (λ ts. slice_get ts k) (texts-push h (Look caller text plain (Began k))) ∙ get_last (texts h) text k (began_new h text plain k e)

look_adds : Grammar → (h : List RegEntry) (caller : ℕ) (text : List ℕ) (answer : Looked) → IsFaithful h → look_answer (rows_of h) (larvals_of h) text true ≡ answer → next_child table h caller ≡ Some text → LooksPlain (h ++ Look caller text true answer ∷ []) answer
look_adds g h caller text (Found id) p right next = plain_stays h (Look caller text true (Found id)) id (found_plain h text id right)
look_adds g h caller text (Pending k) p right next = text_stays h (Look caller text true (Pending k)) k (text, pending_text h text true k right, child_plain g h caller text p next)
look_adds g h caller text (Began k) p right next = (text, begun_text h caller text true k right, child_plain g h caller text p next)
look_adds g h caller text Absent p right next = tt

text_of : (text x : List ℕ) (answer : Looked) (caller : ℕ) (plain : Bool) → begun_by (Look caller text plain answer) ≡ Some x → text ≡ x
text_of text x (Began k) caller plain e = cc
text_of text x (Found id) caller plain e = absurd cc
text_of text x (Pending k) caller plain e = absurd cc
text_of text x Absent caller plain e = absurd cc

quiet_adds : (h : List RegEntry) (e : RegEntry) → registered_by e ≡ None → begun_by e ≡ None → ((n : ℕ) → ends n e ≡ None) → ((n : ℕ) → if_of n (look_for h e) ≡ None) → Adds h e
quiet_adds h e r b n l = record {
  entry = λ s q. absurd (let f : None ≡ Some s = sym r ∙ q in cc);
  text = λ x q. absurd (let f : None ≡ Some x = sym b ∙ q in cc);
  ending = λ k id t q. absurd (none_ends (ends k e) id (n k) q);
  look = λ k a q. absurd (let f : None ≡ Some a = sym (l k) ∙ q in cc);
}

outcome_id : (n larval : ℕ) (answer : EndAnswer) (id : ℕ) → outcome_of (if eqb larval n then Some (end_of answer) else None) ≡ Some (Ok id) → (larval ≡ n) × (outcome_of (Some (end_of answer)) ≡ Some (Ok id))
outcome_id n larval answer id q = by_test (eqb larval n) refl q
  where
    by_test : (b : Bool) → eqb larval n ≡ b → outcome_of (if b then Some (end_of answer) else None) ≡ Some (Ok id) → (larval ≡ n) × (outcome_of (Some (end_of answer)) ≡ Some (Ok id))
    by_test true f g = (eqb-true larval n f, g)
    by_test false f g = absurd cc

built_adds : (h : List RegEntry) (caller larval id : ℕ) (spec : Spec) → IsFaithful h → made_answer table h larval ≡ Some (Built id spec) → Adds h (End caller larval (Built id spec))
built_adds h caller larval id spec p made =
    let e : RegEntry = End caller larval (Built id spec) in
    let ended_so : Ending h larval (Built id spec) = ending_of h larval (Built id spec) p (λ errno q. cc) made in
    let built : IsBuilt (rows_of h) ended_so.spec spec id = built_so (rows_of h) ended_so.spec spec id ended_so.answer_is in
    record {
      entry = λ s q. subst Known (built.spec_is ∙ same_some q) ended_so.made.known;
      text = λ x q. absurd cc;
      ending = λ n i t q.
          let o = outcome_id n larval (Built id spec) i q in
          let i_is : id ≡ i = id_is id i o.1 in
          let bare = ended_so.made.bare (root_of h larval ended_so.text ended_so.tree ended_so.text_is ended_so.tree_is (subst (HasPlainText h) (sym o.0) t)) in
          subst (IsPlainAt (h ++ e ∷ [])) i_is (spec, ap (λ l. slice_get l id) (registered-push h e) ∙ get_last (registered h) spec id (built.id_is ∙ length-rows_of h), subst (λ (s : Spec). is_bare s.wrap ≡ true) built.spec_is bare);
      look = λ n a q. absurd cc;
    }
  where
    id_is : (a b : ℕ) → outcome_of (Some (ended.Built a)) ≡ Some (Ok b) → a ≡ b
    id_is a b q = cc

joined_adds : (h : List RegEntry) (caller larval id : ℕ) (below : List ℕ) → IsFaithful h → made_answer table h larval ≡ Some (Joined id below) → Adds h (End caller larval (Joined id below))
joined_adds h caller larval id below p made =
    let e : RegEntry = End caller larval (Joined id below) in
    let ended_so : Ending h larval (Joined id below) = ending_of h larval (Joined id below) p (λ errno q. cc) made in
    record {
      entry = λ s q. absurd cc;
      text = λ x q. absurd cc;
      ending = λ n i t q.
          let o = outcome_id n larval (Joined id below) i q in
          subst (IsPlainAt (h ++ e ∷ [])) (id_is id i o.1) (plain_stays h e id (joined_plain h larval id below p ended_so (subst (HasPlainText h) (sym o.0) t)));
      look = λ n a q. absurd cc;
    }
  where
    id_is : (a b : ℕ) → outcome_of (Some (ended.Joined a)) ≡ Some (Ok b) → a ≡ b
    id_is a b q = cc

unended_adds : (h : List RegEntry) (caller larval : ℕ) (answer : EndAnswer) → registered_by (End caller larval answer) ≡ None → ((id : ℕ) → outcome_of (Some (end_of answer)) ≡ Some (Ok id) → ⊥) → Adds h (End caller larval answer)
unended_adds h caller larval answer r fails = record {
  entry = λ s q. absurd (let f : None ≡ Some s = sym r ∙ q in cc);
  text = λ x q. absurd cc;
  ending = λ n i t q. absurd (fails i (outcome_id n larval answer i q).1);
  look = λ n a q. absurd cc;
}

enlisted_adds : (h : List RegEntry) (caller : ℕ) (spec : Spec) (answer : Enlisted) → spec.wrap ≡ Plain → table.is_driver spec ≡ true → Adds h (Enlist caller spec answer)
enlisted_adds h caller spec answer plain driver = record {
  entry = λ s q. subst Known (registers s answer q) (known_driver spec plain driver);
  text = λ x q. absurd cc;
  ending = λ n i t q. absurd cc;
  look = λ n a q. absurd cc;
}
  where
    registers : (s : Spec) (a : Enlisted) → registered_by (Enlist caller spec a) ≡ Some s → spec ≡ s
    registers s (enlisted.Made id) q = cc
    registers s enlisted.Exist q = absurd cc
    registers s enlisted.NFile q = absurd cc

asked_look_adds : Grammar → (h : List RegEntry) (caller : ℕ) (text : List ℕ) (answer : Looked) → IsFaithful h → look_answer (rows_of h) (larvals_of h) text true ≡ answer → table.is_name text ≡ true → next_child table h caller ≡ Some text → Adds h (Look caller text true answer)
asked_look_adds g h caller text answer p right named next = record {
  entry = λ s q. absurd cc;
  text = λ x q. subst (λ y. table.is_name y ≡ true) (text_of text x answer caller true q) named;
  ending = λ n i t q. absurd cc;
  look = λ n a q. subst (LooksPlain (h ++ Look caller text true answer ∷ [])) (look_of n (last_of (building h caller)) answer a q) (look_adds g h caller text answer p right next);
}

script_look_adds : (h : List RegEntry) (caller : ℕ) (text : List ℕ) (answer : Looked) → table.is_name text ≡ true → Adds h (Look caller text false answer)
script_look_adds h caller text answer named = record {
  entry = λ s q. absurd cc;
  text = λ x q. subst (λ y. table.is_name y ≡ true) (text_of text x answer caller false q) named;
  ending = λ n i t q. absurd cc;
  look = λ n a q. absurd cc;
}

adds : Grammar → (h : List RegEntry) (e : RegEntry) → IsFaithful h → IsRight h e → IsMade table h e → Adds h e
adds g h (Enlist caller spec answer) p right made = enlisted_adds h caller spec answer right.2 made
adds g h (Look caller text true answer) p right made = asked_look_adds g h caller text answer p (sym right.1) made.0 made.1
adds g h (Look caller text false answer) p right made = script_look_adds h caller text answer made
adds g h (End caller larval (Built id spec)) p right made = built_adds h caller larval id spec p made
adds g h (End caller larval (Joined id below)) p right made = joined_adds h caller larval id below p made
adds g h (End caller larval (Failed errno)) p right made = unended_adds h caller larval (Failed errno) refl (λ id q. cc)
adds g h (End caller larval NoMemory) p right made = unended_adds h caller larval NoMemory refl (λ id q. cc)
adds g h (Claim caller larval) p right made = quiet_adds h (Claim caller larval) refl refl (λ n. refl) (λ n. refl)
adds g h (Waited caller larval) p right made = quiet_adds h (Waited caller larval) refl refl (λ n. refl) (λ n. refl)
adds g h (Unlist caller driver answer) p right made = quiet_adds h (Unlist caller driver answer) refl refl (λ n. refl) (λ n. refl)
adds g h (Get caller id ok) p right made = quiet_adds h (Get caller id ok) refl refl (λ n. refl) (λ n. refl)
adds g h (Put caller id) p right made = quiet_adds h (Put caller id) refl refl (λ n. refl) (λ n. refl)
adds g h (Refs caller driver) p right made = quiet_adds h (Refs caller driver) refl refl (λ n. refl) (λ n. refl)
adds g h (entry.List caller) p right made = quiet_adds h (entry.List caller) refl refl (λ n. refl) (λ n. refl)

faithful_along : Grammar → (before h : List RegEntry) → IsFaithful before → MayFollow before h → MadeAfter table before h → IsFaithful (before ++ h)
faithful_along g before [] p legal made = subst IsFaithful (sym (append-nil before)) p
faithful_along g before (e ∷ h) p legal made =
    subst IsFaithful (append_assoc before (e ∷ []) h)
    (faithful_along g (before ++ e ∷ []) h (faithful_step before e p legal.0 (adds g before e p legal.0 made.0)) legal.1 made.1)

faithful_start : IsFaithful []
faithful_start = record {
  legal = tt;
  entries = λ id s q. opening-known id s q;
  named = λ n x q. absurd cc;
  ended = λ n id t q. absurd (let f = t.1 in cc);
  looks = λ n. tt;
}

pub faithful : Grammar → (h : List RegEntry) → LegalReg h → Made table h → IsFaithful h
faithful g h legal made = faithful_along g [] h faithful_start legal made
