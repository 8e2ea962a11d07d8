-- What the plain builder makes of a look, of a child and of an end.
use Rattle.std.proofs.Common.{◌≡◌, ◌≢◌, ℕ, zero, suc, ◌+◌, Bool, true, false, cond, eqb, if◌then◌else◌, List, [], ◌∷◌, ◌++◌, length, drop, map, refl, ap, sym, ◌∙◌, arith, Option, Some, None, Result, Ok, Err, length-append}
use Rattle.std.specs.Prelude.{slice_get}
use Rattle.std.specs.List.{filter_map}
use Rattle.std.specs.Option.{option_and_then}
use Rattle.std.proofs.lemmas.Bool.Decides.{nat_tests}
use Rattle.kc_base.specs.declared.error_numbers.Errno.{Errno}
use Rattle.kc_base.specs.declared.error_numbers.Errno.TheVariants.{ENOENT}
use Rattle.alg_registry.specs.declared.spec.Spec.{Spec}
use Rattle.alg_registry.specs.declared.row.Row.{Row}
use Rattle.alg_registry.specs.declared.entry.Looked.{Looked}
use Rattle.alg_registry.specs.declared.entry.EndAnswer.{EndAnswer}
use Rattle.alg_registry.specs.declared.entry.EndAnswer.TheVariants.{Built, Joined, Failed, NoMemory}
use Rattle.alg_registry.specs.declared.entry.RegEntry.{RegEntry}
use Rattle.alg_registry.specs.Rows.{texts, rows_of, registered, noted, end_of}
use Rattle.alg_registry.specs.Answers.{is_template}
use Rattle.alg_registry.specs.Made.{Templates, looks_for, outcome, outcomes, outcome_of, all_outcomes, made_answer, by_children, by_outcomes, by_spec, with_spec}
use Rattle.alg_registry.proofs.Standing.{bare, bare-rows_of}
use Rattle.sequential_model.specs.Registry.{PlainRegistry, with_children, looked, or_built, built_by, ended, end_by, found}
use Rattle.sequential_model.proofs.Agreeing.{IsRegistryOf}
use Rattle.sequential_model.proofs.Chains.{Frame, with_child, on_children, finishing}

-- ---- a look

pub looked_found : (t : Templates) (l : ℕ) (plain : Bool) (registry : PlainRegistry) (x : List ℕ) (id : ℕ) → found registry x plain ≡ Some id → looked t (suc l) plain registry x ≡ (registry, Ok id)
looked_found t l plain registry x id e = ap (λ o. or_built t (λ now child. looked t l true now child) x registry o) e

pub looked_absent : (t : Templates) (l : ℕ) (plain : Bool) (registry : PlainRegistry) (x : List ℕ) → found registry x plain ≡ None → is_template x ≡ false → looked t (suc l) plain registry x ≡ (registry, Err ENOENT)
looked_absent t l plain registry x e f =
    ap (λ o. or_built t (λ now child. looked t l true now child) x registry o) e
    ∙ ap (λ b. cond b (built_by t (λ now child. looked t l true now child) x registry (t.children x)) (registry, Err ENOENT)) f

pub looked_built : (t : Templates) (l : ℕ) (plain : Bool) (registry : PlainRegistry) (x : List ℕ) → found registry x plain ≡ None → is_template x ≡ true → looked t (suc l) plain registry x ≡ finishing t l x registry (Ok [])
looked_built t l plain registry x e f =
    ap (λ o. or_built t (λ now child. looked t l true now child) x registry o) e
    ∙ (ap (λ b. cond b (built_by t (λ now child. looked t l true now child) x registry (t.children x)) (registry, Err ENOENT)) f ∙ by (t.children x))
  where
    by : (r : Result (List (List ℕ)) Errno) → built_by t (λ now child. looked t l true now child) x registry r ≡ on_children t l x registry (Ok []) r
    by (Ok children) = refl
    by (Err errno) = refl

-- ---- a child

abbrev pub added : List ℕ → Result ℕ Errno → Result (List ℕ) Errno
added ids (Ok id) = Ok (ids ++ id ∷ [])
added ids (Err errno) = Err errno

pub outcomes_added : (g : List RegEntry) (looks : List Looked) (ids : List ℕ) (last : Looked) (r : Result ℕ Errno) → outcomes g looks ≡ Some (Ok ids) → outcome g last ≡ Some r → outcomes g (looks ++ last ∷ []) ≡ Some (added ids r)
outcomes_added g [] ids last (Ok id) sofar is =
    let f : [] ≡ ids = cc in
    ap (λ o. all_outcomes o (Some (Ok []))) is ∙ ap (λ ns. Some (Ok (ns ++ id ∷ []))) f
outcomes_added g [] ids last (Err errno) sofar is = ap (λ o. all_outcomes o (Some (Ok []))) is
outcomes_added g (look ∷ looks) ids last r sofar is = by (outcome g look) (outcomes g looks) refl refl sofar (λ rest q. outcomes_added g looks rest last r q is)
  where
    more : (first : ℕ) (rest : List ℕ) (s : Result ℕ Errno) → all_outcomes (Some (Ok first)) (Some (added rest s)) ≡ Some (added (first ∷ rest) s)
    more first rest (Ok id) = refl
    more first rest (Err errno) = refl

    by : (o : Option (Result ℕ Errno)) (p : Option (Result (List ℕ) Errno)) → outcome g look ≡ o → outcomes g looks ≡ p → all_outcomes o p ≡ Some (Ok ids)
        → ((rest : List ℕ) → outcomes g looks ≡ Some (Ok rest) → outcomes g (looks ++ last ∷ []) ≡ Some (added rest r)) → all_outcomes (outcome g look) (outcomes g (looks ++ last ∷ [])) ≡ Some (added ids r)
    by None p x y z later = absurd cc
    by (Some (Err errno)) p x y z later = absurd cc
    by (Some (Ok first)) None x y z later = absurd cc
    by (Some (Ok first)) (Some (Err errno)) x y z later = absurd cc
    by (Some (Ok first)) (Some (Ok rest)) x y z later =
        let f : first ∷ rest ≡ ids = cc in
        (λ i. all_outcomes (x i) (later rest y i)) ∙ (more first rest r ∙ ap (λ ns. Some (added ns r)) f)

-- the child came to this
pub with_child_is : (t : Templates) (f : Frame) (now : PlainRegistry) (r : Result ℕ Errno) → t.children f.text ≡ Ok f.children → with_child t f (now, r) ≡ finishing t f.levels f.text now (added f.ids r)
with_child_is t f now (Ok id) e =
    let n : length f.ids + 1 ≡ length (f.ids ++ id ∷ []) = sym (length-append f.ids (id ∷ [])) in
    ap (λ k. with_children t (λ now' child. looked t f.levels true now' child) f.text (drop k f.children) (f.ids ++ id ∷ []) now) n
    ∙ sym (ap (λ c. on_children t f.levels f.text now (Ok (f.ids ++ id ∷ [])) c) e)
with_child_is t f now (Err errno) e = sym (ap (λ c. on_children t f.levels f.text now (Err errno) c) e)

drop_get : {A : Type 0} (xs : List A) (n : ℕ) (x : A) → slice_get xs n ≡ Some x → drop n xs ≡ x ∷ drop (n + 1) xs
drop_get [] n x e = absurd cc
drop_get (y ∷ xs) zero x e = let f : y ≡ x = cc in ap (λ z. z ∷ xs) f
drop_get (y ∷ xs) (suc n) x e = let k : suc (n + 1) ≡ suc n + 1 = omega arith in drop_get xs n x e ∙ ap (λ m. x ∷ drop m (y ∷ xs)) k

-- the next child is looked up
pub finishing_next : (t : Templates) (f : Frame) (registry : PlainRegistry) (x : List ℕ) → t.children f.text ≡ Ok f.children → slice_get f.children (length f.ids) ≡ Some x
    → finishing t f.levels f.text registry (Ok f.ids) ≡ with_child t f (looked t f.levels true registry x)
finishing_next t f registry x e at =
    ap (λ c. on_children t f.levels f.text registry (Ok f.ids) c) e
    ∙ ap (λ cs. with_children t (λ now child. looked t f.levels true now child) f.text cs f.ids registry) (drop_get f.children (length f.ids) x at)

-- ---- an end

map_spec-bare : (rows : List Row) → map (λ (row : Row). row.spec) (map bare rows) ≡ map (λ (row : Row). row.spec) rows
map_spec-bare [] = refl
map_spec-bare (row ∷ rows) = ap (λ ss. row.spec ∷ ss) (map_spec-bare rows)

map_spec-noted : (h : List RegEntry) (id : ℕ) (specs : List Spec) → map (λ (row : Row). row.spec) (noted h id specs) ≡ specs
map_spec-noted h id [] = refl
map_spec-noted h id (spec ∷ specs) = ap (λ ss. spec ∷ ss) (map_spec-noted h (id + 1) specs)

-- the entries of a history are what it registered
pub specs_are : (h : List RegEntry) → map (λ (row : Row). row.spec) (rows_of h) ≡ registered h
specs_are h = sym (map_spec-bare (rows_of h)) ∙ (ap (λ rows. map (λ (row : Row). row.spec) rows) (bare-rows_of h) ∙ map_spec-noted h 0 (registered h))

drop_all : {A : Type 0} (xs : List A) (n : ℕ) → n ≡ length xs → drop n xs ≡ []
drop_all [] n e = ap (λ k. drop k []) e
drop_all (x ∷ xs) n e = ap (λ k. drop k (x ∷ xs)) e ∙ drop_all xs (length xs) refl

same_end : (registry : PlainRegistry) (g : List RegEntry) → IsRegistryOf registry g → (r : Result Spec Errno) → end_by registry r ≡ by_spec g r
same_end registry g is (Ok spec) = ap (λ (rows : List Row). end_by (record { rows = rows; built = registry.built }) (Ok spec)) is.rows
same_end registry g is (Err errno) = refl

-- the larval ends as the plain builder has it
pub finishing_end : (t : Templates) (g : List RegEntry) (registry : PlainRegistry) (larval levels : ℕ) (text : List ℕ) (r : Result (List ℕ) Errno) (a : EndAnswer) → IsRegistryOf registry g
    → slice_get (texts g) larval ≡ Some text → outcomes g (looks_for larval [] g) ≡ Some r → made_answer t g larval ≡ Some a → finishing t levels text registry r ≡ ended text registry a
finishing_end t g registry larval levels text r a is at came made =
    by_kind (t.children text) (sym (ap (λ o. option_and_then (λ x. by_children t g x (looks_for larval [] g) (t.children x)) o) at) ∙ made)
  where
    some_same : {x y : EndAnswer} → Some x ≡ Some y → x ≡ y
    some_same e = cc

    failing : (errno : Errno) → Some (Failed errno) ≡ Some a → (registry, Err errno) ≡ ended text registry a
    failing errno e = ap (λ b. ended text registry b) (some_same e)

    by_number : (a b : ℕ) → eqb a b ≡ true → a ≡ b
    by_number a b f = grind (arith, nat_tests)

    of_all : (children : List (List ℕ)) (ids : List ℕ) (b : Bool) → eqb (length ids) (length children) ≡ b → (if b then Some (by_spec g (t.derived text (filter_map (with_spec (registered g)) ids))) else None) ≡ Some a
        → with_children t (λ now child. looked t levels true now child) text (drop (length ids) children) ids registry ≡ ended text registry a
    of_all children ids false q e = absurd cc
    of_all children ids true q e =
        ap (λ cs. with_children t (λ now child. looked t levels true now child) text cs ids registry) (drop_all children (length ids) (by_number (length ids) (length children) q))
        ∙ (ap (λ specs. ended text registry (end_by registry (t.derived text (filter_map (with_spec specs) ids)))) (ap (λ rows. map (λ (row : Row). row.spec) rows) is.rows ∙ specs_are g)
        ∙ (ap (λ b. ended text registry b) (same_end registry g is (t.derived text (filter_map (with_spec (registered g)) ids))) ∙ ap (λ b. ended text registry b) (some_same e)))

    by_result : (children : List (List ℕ)) (s : Result (List ℕ) Errno) → by_outcomes t g text children (Some s) ≡ Some a → on_children t levels text registry s (Ok children) ≡ ended text registry a
    by_result children (Err errno) e = failing errno e
    by_result children (Ok ids) e = of_all children ids (eqb (length ids) (length children)) refl e

    by_kind : (c : Result (List (List ℕ)) Errno) → by_children t g text (looks_for larval [] g) c ≡ Some a → on_children t levels text registry r c ≡ ended text registry a
    by_kind (Err errno) e = failing errno e
    by_kind (Ok children) e = by_result children r (sym (ap (λ o. by_outcomes t g text children o) came) ∙ e)

-- what a look for it comes to then
pub ended_comes : (text : List ℕ) (registry : PlainRegistry) (a : EndAnswer) → a ≢ NoMemory → outcome_of (Some (end_of a)) ≡ Some (ended text registry a).1
ended_comes text registry (Built id spec) ne = refl
ended_comes text registry (Joined id below) ne = refl
ended_comes text registry (Failed errno) ne = refl
ended_comes text registry NoMemory ne = absurd (ne refl)
