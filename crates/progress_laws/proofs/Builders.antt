-- A larval waits for lighter ones alone.
use Rattle.std.proofs.Common.{◌≡◌, ℕ, zero, suc, ◌<◌, ◌⊎◌, inl, inr, Bool, true, false, if◌then◌else◌, List, [], ◌∷◌, ◌++◌, length, get_or, map, refl, ap, sym, ◌∙◌, subst, arith, Option, Some, None, Result, Ok, Err, append_assoc, codes}
use Rattle.std.specs.Prelude.{slice_get, ◌==◌}
use Rattle.std.specs.List.{cons_option, list_any, AllByRecursion}
use Rattle.std.specs.Option.{option_and_then, option_map_or}
use Rattle.std.proofs.lemmas.List.{append-nil}
use Rattle.std.proofs.lemmas.Bool.{eqb-true, or_cases}
use Rattle.kc_base.specs.declared.error_numbers.Errno.{Errno}
use Rattle.kc_base.specs.declared.error_numbers.Errno.TheVariants.{ENOENT}
use Rattle.alg_registry.specs.declared.entry.Looked.{Looked}
use Rattle.alg_registry.specs.declared.entry.Looked.TheVariants.{Found, Pending, Began, Absent}
use Rattle.alg_registry.specs.declared.entry.RegEntry.{RegEntry}
use Rattle.alg_registry.specs.declared.entry.RegEntry.TheVariants.{Enlist, Look, Claim, End, Waited, Unlist, Get, Put, Refs}
use Rattle.alg_registry.specs.declared.entry.RegEntry.TheVariants as entry
use Rattle.alg_registry.specs.Rows.{texts}
use Rattle.alg_registry.specs.Legal.{LegalReg, MayFollow}
use Rattle.alg_registry.specs.Made.{Made, MadeAfter, IsMade, building, last_of, looks_for, look_for, if_of, outcomes, next_child, next_of}
use Rattle.alg_registry.specs.NamedAnswers.{IsNamed}
use Rattle.alg_registry.proofs.Histories.{text_more}
use Rattle.alg_registry.proofs.Making.{Made-push}
use Rattle.alg_registry.proofs.Naming.{looks_name}
use Rattle.alg_registry.proofs.Stack.{looks-push}
use Rattle.alg_registry.proofs.Steps.{LegalReg-push}
use Rattle.alg_names.specs.Name.{Tree, node, end, IsName, a_word, a_template, one, args_of, list_of, spelling}
use Rattle.alg_names.specs.Spelled.{tree_of}
use Rattle.templates.specs.Resolution.{weight, weight_of}
use Rattle.templates.specs.Table.{table, template_at, children_of, spellings, is_allowed}
use Rattle.templates.proofs.Makes.{over}
use Rattle.templates.proofs.PlannedHistories.{Grammar, IsFaithful, faithful}
use Rattle.templates.proofs.Shapes.{AsksOwn, AsksParts, AsksWithin, by_shape, lighter}
use Rattle.progress_laws.specs.Builders.{names_larval, WaitInRow, NoRing}

-- ---- what a name asks for are names

name_tree : (text : List ℕ) → table.is_name text ≡ true → (t : Tree) × (tree_of text ≡ Some t)
unfolding table
name_tree text e = by_tree (tree_of text) refl e
  where
    by_tree : (o : Option Tree) → tree_of text ≡ o → option_map_or (is_allowed text) o false ≡ true → (t : Tree) × (tree_of text ≡ Some t)
    by_tree None q f = absurd cc
    by_tree (Some t) q f = (t, q)

children_at : (text : List ℕ) (t : Tree) → tree_of text ≡ Some t → table.children text ≡ spellings (children_of t)
unfolding table
children_at text t e = ap (λ o. spellings (option_map_or children_of o (Err ENOENT))) e

child_named : Grammar → (text : List ℕ) (t : Tree) (names : List Tree) (i : ℕ) (u : Tree) → IsName text t → children_of t ≡ Ok names → i < length names → u ≡ get_or names i u → IsName (spelling u) u
child_named g text (node w ts) names i u named e lt is = by_case (by_shape (template_at (node w ts)) (list_of ts) names e)
  where
    at_gcm : (x : Tree) (j : ℕ) → IsName (spelling x) x → j < 2 → u ≡ get_or (over (codes "ctr") x ∷ node (codes "ghash") end ∷ []) j u → IsName (spelling u) u
    at_gcm x zero n l q = subst (λ a. IsName (spelling a) a) (sym q) (a_template {w = codes "ctr"} {inner = spelling x} (omega arith, (refl, (refl, (refl, tt)))) (one n))
    at_gcm x (suc zero) n l q = subst (λ a. IsName (spelling a) a) (sym q) (a_word (omega arith, (refl, (refl, (refl, (refl, (refl, tt)))))))
    at_gcm x (suc (suc j)) n l q = absurd (omega (arith, l))

    -- the only argument
    only_named : (x : Tree) → list_of ts ≡ x ∷ [] → IsName (spelling x) x
    only_named x s = subst (λ xs. IsName (spelling (get_or xs 0 x)) (get_or xs 0 x)) s (g.arguments text (node w ts) named 0 x (omega (arith, ap length s)))

    by_case : AsksOwn (template_at (node w ts)) (list_of ts) names ⊎ (AsksParts (template_at (node w ts)) (list_of ts) names ⊎ AsksWithin (template_at (node w ts)) (list_of ts) names) → IsName (spelling u) u
    by_case (inl s) =
        let at : u ≡ get_or (list_of ts) i u = is ∙ ap (λ ns. get_or ns i u) s.1 in
        subst (λ a. IsName (spelling a) a) (sym at) (g.arguments text (node w ts) named i u (subst (λ ns. i < length ns) s.1 lt))
    by_case (inr (inl s)) = at_gcm s.1 i (only_named s.1 s.2) (subst (λ ns. i < length ns) s.3 lt) (is ∙ ap (λ ns. get_or ns i u) s.3)
    by_case (inr (inr s)) =
        let at : u ≡ get_or (args_of s.1) i u = is ∙ ap (λ ns. get_or ns i u) s.3 in
        subst (λ a. IsName (spelling a) a) (sym at) (g.arguments (spelling s.1) s.1 (only_named s.1 s.2) i u (subst (λ ns. i < length ns) s.3 lt))

spelled_at : (us : List Tree) (i : ℕ) (text : List ℕ) → slice_get (map spelling us) i ≡ Some text → (u : Tree) × (text ≡ spelling u) × (i < length us) × (u ≡ get_or us i u)
spelled_at [] i text e = absurd cc
spelled_at (u ∷ us) zero text e = (u, (let f : text ≡ spelling u = cc in f), omega arith, refl)
spelled_at (u ∷ us) (suc i) text e = let r = spelled_at us i text e in (r.0, r.1, omega (arith, r.2), r.3)

-- ---- the child that is looked for next is lighter than what is built

-- the larval that the caller builds, whose text is heavier
record IsFor (h : List RegEntry) (caller : ℕ) (text : List ℕ) : Type 0 where
  larval : ℕ
  last : last_of (building h caller) ≡ Some larval
  of_text : List ℕ
  begun : slice_get (texts h) larval ≡ Some of_text
  less : weight_of text < weight_of of_text

child_less : Grammar → (h : List RegEntry) (caller : ℕ) (text : List ℕ) → IsFaithful h → next_child table h caller ≡ Some text → IsFor h caller text
child_less g h caller text p e = by_larval (last_of (building h caller)) refl e
  where
    less : (x : List ℕ) (t : Tree) (us : List Tree) (i : ℕ) → tree_of x ≡ Some t → children_of t ≡ Ok us → slice_get (map spelling us) i ≡ Some text → weight_of text < weight_of x
    less x t us i is asked at =
        let r = spelled_at us i text at in
        let named = child_named g x t us i r.0 (g.named x t is) asked r.2 r.3 in
        let of_child : weight_of text ≡ weight r.0 = ap (λ o. option_map_or weight o 0) (ap tree_of r.1 ∙ g.read (spelling r.0) r.0 named) in
        let of_name : weight_of x ≡ weight t = ap (λ o. option_map_or weight o 0) is in
        omega (arith, of_child, of_name, lighter t us i r.0 asked r.2 r.3)

    by_outcome : (x : List ℕ) (t : Tree) (us : List Tree) (looks : List Looked) (o : Option (Result (List ℕ) Errno)) → outcomes h looks ≡ o → tree_of x ≡ Some t → children_of t ≡ Ok us → next_of h looks (Ok (map spelling us)) ≡ Some text → weight_of text < weight_of x
    by_outcome x t us looks None q is asked f = absurd (let k : None ≡ Some text = sym (next_none q) ∙ f in cc)
      where
        next_none : outcomes h looks ≡ None → next_of h looks (Ok (map spelling us)) ≡ None
        next_none a = rw a
    by_outcome x t us looks (Some (Err errno)) q is asked f = absurd (let k : None ≡ Some text = sym (next_failed q) ∙ f in cc)
      where
        next_failed : outcomes h looks ≡ Some (Err errno) → next_of h looks (Ok (map spelling us)) ≡ None
        next_failed a = rw a
    by_outcome x t us looks (Some (Ok ids)) q is asked f = less x t us (length ids) is asked (sym (next_some q) ∙ f)
      where
        next_some : outcomes h looks ≡ Some (Ok ids) → next_of h looks (Ok (map spelling us)) ≡ slice_get (map spelling us) (length ids)
        next_some a = rw a

    by_asked : (x : List ℕ) (t : Tree) (looks : List Looked) (r : Result (List Tree) Errno) → children_of t ≡ r → tree_of x ≡ Some t → next_of h looks (spellings r) ≡ Some text → weight_of text < weight_of x
    by_asked x t looks (Err errno) q is f = absurd cc
    by_asked x t looks (Ok us) q is f = by_outcome x t us looks (outcomes h looks) refl is q f

    by_text : (n : ℕ) → last_of (building h caller) ≡ Some n → (o : Option (List ℕ)) → slice_get (texts h) n ≡ o → option_and_then (λ x. next_of h (looks_for n [] h) (table.children x)) o ≡ Some text → IsFor h caller text
    by_text n l None q f = absurd cc
    by_text n l (Some x) q f =
        let r = name_tree x (p.named n x q) in
        record {
          larval = n;
          last = l;
          of_text = x;
          begun = q;
          less = by_asked x r.0 (looks_for n [] h) (children_of r.0) refl r.1 (sym (ap (λ c. next_of h (looks_for n [] h) c) (children_at x r.0 r.1)) ∙ f);
        }

    by_larval : (o : Option ℕ) → last_of (building h caller) ≡ o → option_and_then (λ n. option_and_then (λ x. next_of h (looks_for n [] h) (table.children x)) (slice_get (texts h) n)) o ≡ Some text → IsFor h caller text
    by_larval None l f = absurd cc
    by_larval (Some n) l f = by_text n l (slice_get (texts h) n) refl f

-- ---- all looks, over a history

-- the larval m has a lighter text than n
record IsLess (h : List RegEntry) (m n : ℕ) : Type 0 where
  light : List ℕ
  heavy : List ℕ
  light_at : slice_get (texts h) m ≡ Some light
  heavy_at : slice_get (texts h) n ≡ Some heavy
  less : weight_of light < weight_of heavy

-- whatever larval a look for n came to is lighter
LooksLess : List RegEntry → ℕ → Looked → Type 0
LooksLess h n a = (m : ℕ) → names_larval m a ≡ true → IsLess h m n

AllLess : List RegEntry → Type 0
AllLess h = (n : ℕ) → AllByRecursion (LooksLess h n) (looks_for n [] h)

less_stays : (h : List RegEntry) (e : RegEntry) (n : ℕ) (a : Looked) → LooksLess h n a → LooksLess (h ++ e ∷ []) n a
unfolding LooksLess
less_stays h e n a p m named =
    let r = p m named in
    record { light = r.light; heavy = r.heavy; light_at = text_more h (e ∷ []) m r.light r.light_at; heavy_at = text_more h (e ∷ []) n r.heavy r.heavy_at; less = r.less }

all_snoc : {A : Type 0} (P : A → Type 0) (xs ys : List A) → AllByRecursion P xs → AllByRecursion P ys → AllByRecursion P (xs ++ ys)
all_snoc P [] ys p q = q
all_snoc P (x ∷ xs) ys p q = (p.0, all_snoc P xs ys p.1 q)

all_map : {A : Type 0} (P Q : A → Type 0) → ((x : A) → P x → Q x) → (xs : List A) → AllByRecursion P xs → AllByRecursion Q xs
all_map P Q f [] p = tt
all_map P Q f (x ∷ xs) p = (f x p.0, all_map P Q f xs p.1)

-- what a look's answer names has the look's text
named_text : (h : List RegEntry) (text : List ℕ) (a : Looked) (m : ℕ) → IsNamed h text a → names_larval m a ≡ true → slice_get (texts h) m ≡ Some text
named_text h text (Found id) m is named = absurd cc
named_text h text Absent m is named = absurd cc
named_text h text (Pending k) m is named = subst (λ j. slice_get (texts h) j ≡ Some text) (eqb-true k m named) is
named_text h text (Began k) m is named = subst (λ j. slice_get (texts h) j ≡ Some text) (eqb-true k m named) is

-- of a look that the next entry makes
new_less : Grammar → (h : List RegEntry) (e : RegEntry) (n : ℕ) (a : Looked) → IsFaithful h → LegalReg (h ++ e ∷ []) → IsMade table h e → if_of n (look_for h e) ≡ Some a → LooksLess (h ++ e ∷ []) n a
unfolding LooksLess
new_less g h (Look caller text true answer) n a p legal made e m named =
    let c = child_less g h caller text p made.1 in
    let here : (if c.larval == n then Some answer else None) ≡ Some a = sym (ap (λ o. if_of n (option_and_then (λ larval. Some (larval, answer)) o)) c.last) ∙ e in
    let both = by_larval (c.larval == n) refl here in
    let is : IsNamed (h ++ Look caller text true answer ∷ []) text answer = looks_name h [] caller text true answer legal in
    record {
      light = text;
      heavy = c.of_text;
      light_at = named_text (h ++ Look caller text true answer ∷ []) text a m (subst (λ x. IsNamed (h ++ Look caller text true answer ∷ []) text x) both.1 is) named;
      heavy_at = text_more h (Look caller text true answer ∷ []) n c.of_text (subst (λ j. slice_get (texts h) j ≡ Some c.of_text) both.0 c.begun);
      less = c.less;
    }
  where
    by_larval : {k : ℕ} → (b : Bool) → (k == n) ≡ b → (if b then Some answer else None) ≡ Some a → (k ≡ n) × (answer ≡ a)
    by_larval {k} true q f = (eqb-true k n q, cc)
    by_larval false q f = absurd cc
new_less g h (Look caller text false answer) n a p legal made e m named = absurd cc
new_less g h (Enlist caller spec answer) n a p legal made e m named = absurd cc
new_less g h (Claim caller larval) n a p legal made e m named = absurd cc
new_less g h (End caller larval answer) n a p legal made e m named = absurd cc
new_less g h (Waited caller larval) n a p legal made e m named = absurd cc
new_less g h (Unlist caller driver answer) n a p legal made e m named = absurd cc
new_less g h (Get caller id ok) n a p legal made e m named = absurd cc
new_less g h (Put caller id) n a p legal made e m named = absurd cc
new_less g h (Refs caller driver) n a p legal made e m named = absurd cc
new_less g h (entry.List caller) n a p legal made e m named = absurd cc

less_step : Grammar → (h : List RegEntry) (e : RegEntry) → AllLess h → IsFaithful h → LegalReg (h ++ e ∷ []) → IsMade table h e → AllLess (h ++ e ∷ [])
unfolding AllLess
less_step g h e all p legal made n =
    subst (λ ls. AllByRecursion (LooksLess (h ++ e ∷ []) n) ls) (sym (looks-push n h e))
    (all_snoc (LooksLess (h ++ e ∷ []) n) (looks_for n [] h) (cons_option (if_of n (look_for h e)) []) (all_map (LooksLess h n) (LooksLess (h ++ e ∷ []) n) (less_stays h e n) (looks_for n [] h) (all n)) (new_look (if_of n (look_for h e)) refl))
  where
    new_look : (o : Option Looked) → if_of n (look_for h e) ≡ o → AllByRecursion (LooksLess (h ++ e ∷ []) n) (cons_option o [])
    new_look None q = tt
    new_look (Some a) q = (new_less g h e n a p legal made q, tt)

less_after : Grammar → (before later : List RegEntry) → AllLess before → LegalReg before → Made table before → MayFollow before later → MadeAfter table before later → AllLess (before ++ later)
less_after g before [] all legal made right next = subst AllLess (sym (append-nil before)) all
less_after g before (e ∷ later) all legal made right next =
    let legal2 : LegalReg (before ++ e ∷ []) = LegalReg-push before e legal right.0 in
    subst AllLess (append_assoc before (e ∷ []) later)
    (less_after g (before ++ e ∷ []) later (less_step g before e all (faithful g before legal made) legal2 next.0) legal2 (Made-push table before e made next.0) right.1 next.1)

all_less : Grammar → (h : List RegEntry) → LegalReg h → Made table h → AllLess h
unfolding AllLess
all_less g h legal made = less_after g [] h (λ n. tt) tt tt legal made

-- ---- so the weight falls along a row

any_less : (h : List RegEntry) (n m : ℕ) (looks : List Looked) → AllByRecursion (LooksLess h n) looks → list_any (names_larval m) looks ≡ true → IsLess h m n
unfolding LooksLess
any_less h n m [] all any = absurd cc
any_less h n m (a ∷ looks) all any = by_first (or_cases (names_larval m a) (list_any (names_larval m) looks) any) (any_less h n m looks all.1)
  where
    by_first : (names_larval m a ≡ true) ⊎ (list_any (names_larval m) looks ≡ true) → (list_any (names_larval m) looks ≡ true → IsLess h m n) → IsLess h m n
    by_first (inl here) more = all.0 m here
    by_first (inr later) more = more later

less_join : (h : List RegEntry) (n k m : ℕ) → IsLess h k n → IsLess h m k → IsLess h m n
less_join h n k m a b =
    let same : Some a.light ≡ Some b.heavy = sym a.light_at ∙ b.heavy_at in
    let text : a.light ≡ b.heavy = cc in
    record { light = b.light; heavy = a.heavy; light_at = b.light_at; heavy_at = a.heavy_at; less = omega (arith, a.less, b.less, ap weight_of text) }

row_less : (h : List RegEntry) → AllLess h → (n : ℕ) (between : List ℕ) (m : ℕ) → WaitInRow h n between m → IsLess h m n
unfolding AllLess
row_less h all n [] m w = any_less h n m (looks_for n [] h) (all n) w.0
row_less h all n (k ∷ between) m w = less_join h n k m (any_less h n k (looks_for n [] h) (all n) w.0.0) (row_less h all k between m w.1)

pub no_ring : Grammar → (h : List RegEntry) → NoRing h
no_ring g h legal made n between w =
    let l = row_less h (all_less g h legal made) n between n w in
    let same : Some l.light ≡ Some l.heavy = sym l.light_at ∙ l.heavy_at in
    let text : l.light ≡ l.heavy = cc in
    omega (arith, l.less, ap weight_of text)
