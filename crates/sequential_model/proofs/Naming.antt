-- What the table's names ask for is lighter.
use Rattle.std.proofs.Common.{◌≡◌, ℕ, zero, suc, ◌<◌, ◌⊎◌, inl, inr, true, false, List, [], ◌∷◌, length, get_or, map, refl, ap, sym, ◌∙◌, subst, arith, Option, Some, None, Result, Ok, Err, codes}
use Rattle.std.specs.Prelude.{slice_get, All}
use Rattle.std.specs.Option.{option_map_or}
use Rattle.kc_base.specs.declared.error_numbers.Errno.{Errno}
use Rattle.kc_base.specs.declared.error_numbers.Errno.TheVariants.{ENOENT}
use Rattle.alg_names.specs.Name.{Tree, node, end, arg, IsName, a_word, a_template, one, args_of, list_of, spelling}
use Rattle.alg_names.specs.Spelled.{tree_of}
use Rattle.templates.specs.Requirements.{AsksForLess}
use Rattle.templates.specs.declared.template_words.Template.{Template}
use Rattle.templates.specs.declared.template_words.Template.TheVariants.{Gcm, CryptdPcrypt}
use Rattle.templates.specs.Table.{table, template_at, only_one, children_of, asked, asked_by, spellings, is_allowed}
use Rattle.templates.specs.Resolution.{weight, weight_of}
use Rattle.sequential_model.proofs.Phases.{AreLighter}

-- what is known of names
pub record NameLaws : Type 0 where
  pub read : (text : List ℕ) (t : Tree) → IsName text t → tree_of text ≡ Some t
  pub named : (text : List ℕ) (t : Tree) → tree_of text ≡ Some t → IsName text t
  pub arguments : (text : List ℕ) (t : Tree) → IsName text t → All (λ argument. IsName (spelling argument) argument) (args_of t)
  pub less : (name : Tree) → AsksForLess name

-- ---- what is asked for

abbrev AsksTwo : List Tree → List Tree → Type 0
AsksTwo args names = (x : Tree) × (args ≡ x ∷ []) × (names ≡ node (codes "ctr") (arg x end) ∷ node (codes "ghash") end ∷ [])

abbrev AsksWithin : List Tree → List Tree → Type 0
AsksWithin args names = (x : Tree) × (args ≡ x ∷ []) × (names ≡ args_of x)

one_only : (xs names : List Tree) → only_one xs ≡ Ok names → names ≡ xs
one_only [] names e = absurd cc
one_only (x ∷ []) names e = let f : names ≡ x ∷ [] = cc in f
one_only (x ∷ y ∷ xs) names e = absurd cc

-- its arguments; under `gcm` two names over its one; and under `cryptd` over `pcrypt` what stands in the `pcrypt`
asked_shape : (template : Template) (args names : List Tree) → asked template args ≡ Ok names → (names ≡ args) ⊎ (AsksTwo args names ⊎ AsksWithin args names)
asked_shape Gcm (x ∷ []) names e = inr (inl (x, refl, let f : names ≡ node (codes "ctr") (arg x end) ∷ node (codes "ghash") end ∷ [] = cc in f))
asked_shape CryptdPcrypt (x ∷ []) names e = inr (inr (x, refl, one_only (args_of x) names e))
asked_shape template [] names e = inl (grind (arith, e))
asked_shape template (x ∷ []) names e = inl (grind (arith, e))
asked_shape template (x ∷ y ∷ []) names e = inl (grind (arith, e))
asked_shape template (x ∷ y ∷ z ∷ xs) names e = inl (grind (arith, e))

by_shape : (o : Option Template) (args names : List Tree) → asked_by o args ≡ Ok names → (names ≡ args) ⊎ (AsksTwo args names ⊎ AsksWithin args names)
by_shape None args names e = absurd cc
by_shape (Some template) args names e = asked_shape template args names e

-- ---- the tree of a child

name_tree : (text : List ℕ) → table.is_name text ≡ true → (t : Tree) × (tree_of text ≡ Some t)
unfolding table
name_tree text e = by (tree_of text) refl e
  where
    by : (o : Option Tree) → tree_of text ≡ o → option_map_or (is_allowed text) o false ≡ true → (t : Tree) × (tree_of text ≡ Some t)
    by None q f = absurd cc
    by (Some t) q f = (t, q)

children_at : (text : List ℕ) (t : Tree) → tree_of text ≡ Some t → table.children text ≡ spellings (children_of t)
unfolding table
children_at text t e = ap (λ o. spellings (option_map_or children_of o (Err ENOENT))) e

ctr_named : (x : Tree) → IsName (spelling x) x → IsName (spelling (node (codes "ctr") (arg x end))) (node (codes "ctr") (arg x end))
ctr_named x h = a_template {w = codes "ctr"} {inner = spelling x} (omega arith, (refl, (refl, (refl, tt)))) (one h)

ghash_named : IsName (codes "ghash") (node (codes "ghash") end)
ghash_named = a_word (omega arith, (refl, (refl, (refl, (refl, (refl, tt))))))

child_named : NameLaws → (text : List ℕ) (t : Tree) (names : List Tree) (i : ℕ) (u : Tree) → IsName text t → children_of t ≡ Ok names → i < length names → u ≡ get_or names i u → IsName (spelling u) u
child_named g text (node w ts) names i u named e lt is = by_case (by_shape (template_at (node w ts)) (list_of ts) names e)
  where
    at_gcm : (x : Tree) (j : ℕ) → IsName (spelling x) x → j < 2 → u ≡ get_or (node (codes "ctr") (arg x end) ∷ node (codes "ghash") end ∷ []) j u → IsName (spelling u) u
    at_gcm x zero n l q = subst (λ a. IsName (spelling a) a) (sym q) (ctr_named x n)
    at_gcm x (suc zero) n l q = subst (λ a. IsName (spelling a) a) (sym q) ghash_named
    at_gcm x (suc (suc j)) n l q = absurd (omega (arith, l))

    only_named : (x : Tree) → list_of ts ≡ x ∷ [] → IsName (spelling x) x
    only_named x s = subst (λ xs. IsName (spelling (get_or xs 0 x)) (get_or xs 0 x)) s (g.arguments text (node w ts) named 0 x (omega (arith, ap length s)))

    by_case : (names ≡ list_of ts) ⊎ (AsksTwo (list_of ts) names ⊎ AsksWithin (list_of ts) names) → IsName (spelling u) u
    by_case (inl s) =
        let at : u ≡ get_or (list_of ts) i u = is ∙ ap (λ ns. get_or ns i u) s in
        subst (λ a. IsName (spelling a) a) (sym at) (g.arguments text (node w ts) named i u (subst (λ ns. i < length ns) s lt))
    by_case (inr (inl s)) = at_gcm s.0 i (only_named s.0 s.1) (subst (λ ns. i < length ns) s.2 lt) (is ∙ ap (λ ns. get_or ns i u) s.2)
    by_case (inr (inr s)) =
        let at : u ≡ get_or (args_of s.0) i u = is ∙ ap (λ ns. get_or ns i u) s.2 in
        subst (λ a. IsName (spelling a) a) (sym at) (g.arguments (spelling s.0) s.0 (only_named s.0 s.1) i u (subst (λ ns. i < length ns) s.2 lt))

spelled_at : (us : List Tree) (i : ℕ) (text : List ℕ) → slice_get (map spelling us) i ≡ Some text → (u : Tree) × (text ≡ spelling u) × (i < length us) × (u ≡ get_or us i u)
spelled_at [] i text e = absurd cc
spelled_at (u ∷ us) zero text e = (u, (let f : text ≡ spelling u = cc in f), omega arith, refl)
spelled_at (u ∷ us) (suc i) text e = let r = spelled_at us i text e in (r.0, r.1, omega (arith, r.2), r.3)

pub table_lighter : NameLaws → AreLighter table weight_of
table_lighter g text child children i named asked next =
    let t = name_tree text named in
    by t.0 t.1 (children_of t.0) refl (sym (children_at text t.0 t.1) ∙ asked)
  where
    by : (t : Tree) → tree_of text ≡ Some t → (c : Result (List Tree) Errno) → children_of t ≡ c → spellings (children_of t) ≡ Ok children → weight_of child < weight_of text
    by t read (Err errno) q e = absurd (let f : Err errno ≡ Ok children = sym (ap spellings q) ∙ e in cc)
    by t read (Ok names) q e =
        let f : Ok (map spelling names) ≡ Ok children = sym (ap spellings q) ∙ e in
        let are : map spelling names ≡ children = cc in
        let at = spelled_at names i child (ap (λ cs. slice_get cs i) are ∙ next) in
        let u : Tree = at.0 in
        let child_read : tree_of child ≡ Some u = g.read child u (subst (λ x. IsName x u) (sym at.1) (child_named g text t names i u (g.named text t read) q at.2 at.3)) in
        let at_t : AsksForLess t = g.less t in
        let less : weight u < weight t = at_t.lighter names i u q at.2 at.3 in
        omega (arith, less, ap (λ o. option_map_or weight o 0) child_read, ap (λ o. option_map_or weight o 0) read)
