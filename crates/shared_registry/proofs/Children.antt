-- Looking for the children of a larval, and what the templates make of what was found.
use Rattle.std.proofs.Common.{◌≡◌, ℕ, zero, suc, ◌<◌, inl, inr, true, eqb, eq-eqb, if◌then◌else◌, List, [], ◌∷◌, ◌++◌, length, map, get_or, refl, ap, sym, ◌∙◌, subst, arith, Option, Some, None, Result, Ok, Err}
use Rattle.std.specs.Prelude.{slice_get, IfOk, IfErr}
use Rattle.std.specs.List.{filter_map, list_any, AllByRecursion}
use Rattle.std.specs.Option.{option_and_then}
use Rattle.kc_base.specs.declared.error_numbers.Errno.{Errno}
use Rattle.alg_registry.specs.declared.spec.Spec.{Spec}
use Rattle.alg_registry.specs.declared.entry.Looked.{Looked}
use Rattle.alg_registry.specs.declared.entry.RegEntry.{RegEntry}
use Rattle.alg_registry.specs.Rows.{texts, registered}
use Rattle.alg_registry.specs.Legal.{claimer}
use Rattle.alg_registry.specs.Made.{building, last_of, looks_for, outcome, outcomes, all_outcomes, next_of, with_spec}
use Rattle.alg_registry.proofs.Histories.{text_more}
use Rattle.alg_registry.proofs.OwnCalls.{last_any}
use Rattle.alg_names.specs.Name.{Tree, spelling}
use Rattle.templates.specs.Table.{table, children_of, derived_of, spellings, FaultIs}
use Rattle.templates.specs.declared.build_errors.BuildErr.{BuildErr}
use Rattle.templates.specs.declared.build_errors.BuildErr.TheVariants.{Fault, Memory}
use Rattle.turn_lock.specs.Turns.{Known}
use Rattle.shared_registry.specs.Passes.{IsSound}
use Rattle.shared_registry.specs.Own.{open_of, IsOpen, own_looks, IsOwn, next_asked, handed, handed_by, handed_over}
use Rattle.shared_registry.specs.Builds.{Looks, Comes, Resolves}
use Rattle.shared_registry.specs.Within.{Within, Begins, Idles, ChildrenCome, Builds}
use Rattle.shared_registry.specs.Learned.{RegistryLaws, IsLearned}
use Rattle.shared_registry.proofs.Asking.{FoundExists, all_exist, Exist, outcomes_there}
use Rattle.shared_registry.proofs.Waiting.{idles_works}
use Rattle.shared_registry.proofs.Working.{own_on, within_works, within_on, within_look, own_look, works_still}

-- one more look after those that came to entries
outcomes_snoc : (h : List RegEntry) (looks : List Looked) (ids : List ℕ) (answer : Looked) (id : ℕ) → outcomes h looks ≡ Some (Ok ids) → outcome h answer ≡ Some (Ok id) → outcomes h (looks ++ answer ∷ []) ≡ Some (Ok (ids ++ id ∷ []))
outcomes_snoc h [] ids answer id sofar e =
    let f : [] ≡ ids = cc in
    ap (λ o. all_outcomes o (Some (Ok []))) e ∙ ap (λ is. Some (Ok (is ++ id ∷ []))) f
outcomes_snoc h (look ∷ looks) ids answer id sofar e = here (outcome h look) (outcomes h looks) refl refl sofar (λ rest q. outcomes_snoc h looks rest answer id q e)
  where
    here : (o : Option (Result ℕ Errno)) (p : Option (Result (List ℕ) Errno)) → outcome h look ≡ o → outcomes h looks ≡ p → all_outcomes o p ≡ Some (Ok ids) → ((rest : List ℕ) → outcomes h looks ≡ Some (Ok rest) → outcomes h (looks ++ answer ∷ []) ≡ Some (Ok (rest ++ id ∷ []))) → all_outcomes (outcome h look) (outcomes h (looks ++ answer ∷ [])) ≡ Some (Ok (ids ++ id ∷ []))
    here None p x y z more = absurd cc
    here (Some (Err errno)) p x y z more = absurd cc
    here (Some (Ok first)) None x y z more = absurd cc
    here (Some (Ok first)) (Some (Err errno)) x y z more = absurd cc
    here (Some (Ok first)) (Some (Ok rest)) x y z more =
        let f : first ∷ rest ≡ ids = cc in
        ap (λ o. all_outcomes o (outcomes h (looks ++ answer ∷ []))) x
        ∙ (ap (λ o. all_outcomes (Some (Ok first)) o) (more rest y) ∙ ap (λ is. Some (Ok (is ++ id ∷ []))) f)

outcomes_fail : (h : List RegEntry) (looks : List Looked) (ids : List ℕ) (answer : Looked) (errno : Errno) → outcomes h looks ≡ Some (Ok ids) → outcome h answer ≡ Some (Err errno) → outcomes h (looks ++ answer ∷ []) ≡ Some (Err errno)
outcomes_fail h [] ids answer errno sofar e = ap (λ o. all_outcomes o (Some (Ok []))) e
outcomes_fail h (look ∷ looks) ids answer errno sofar e = here (outcome h look) (outcomes h looks) refl refl sofar (λ rest q. outcomes_fail h looks rest answer errno q e)
  where
    here : (o : Option (Result ℕ Errno)) (p : Option (Result (List ℕ) Errno)) → outcome h look ≡ o → outcomes h looks ≡ p → all_outcomes o p ≡ Some (Ok ids) → ((rest : List ℕ) → outcomes h looks ≡ Some (Ok rest) → outcomes h (looks ++ answer ∷ []) ≡ Some (Err errno)) → all_outcomes (outcome h look) (outcomes h (looks ++ answer ∷ [])) ≡ Some (Err errno)
    here None p x y z more = absurd cc
    here (Some (Err errno')) p x y z more = absurd cc
    here (Some (Ok first)) None x y z more = absurd cc
    here (Some (Ok first)) (Some (Err errno')) x y z more = absurd cc
    here (Some (Ok first)) (Some (Ok rest)) x y z more =
        ap (λ o. all_outcomes o (outcomes h (looks ++ answer ∷ []))) x ∙ ap (λ o. all_outcomes (Some (Ok first)) o) (more rest y)

get_map : (names : List Tree) (i : ℕ) (u : Tree) → i < length names → u ≡ get_or names i u → slice_get (map spelling names) i ≡ Some (spelling u)
get_map [] i u lt is = absurd (omega (arith, lt))
get_map (x ∷ xs) zero u lt is = ap (λ (v : Tree). Some (spelling v)) (sym is)
get_map (x ∷ xs) (suc i) u lt is = get_map xs i u (omega (arith, lt)) is

next_is : (h : List RegEntry) (looks : List Looked) (children : List (List ℕ)) (ids : List ℕ) → outcomes h looks ≡ Some (Ok ids) → next_of h looks (Ok children) ≡ slice_get children (length ids)
next_is h looks children ids e = rw e

-- what the loop over the children keeps: those so far came to these entries
pub record Asks (larval : ℕ) (name : Tree) (k0 k : Known RegEntry) (ids : List ℕ) : Type 0 where
  pub sound : IsSound k
  pub within : Within larval k0 k
  pub come : outcomes k.seen (own_looks k larval) ≡ Some (Ok ids)

module _ (larval : ℕ) (name : Tree) (k0 k : Known RegEntry) (begins : Begins larval name k0) where
  pub asks_none : Asks larval name k0 k0 []
  asks_none = record { sound = begins.sound; within = within_works larval k0 k0 (works_still k0); come = ap (λ ls. outcomes k0.seen ls) begins.no_looks }

  pub still_last : Within larval k0 k → last_of (open_of k) ≡ Some larval
  still_last w = ap last_of w.builds ∙ begins.last

  pub still_open : Within larval k0 k → IsOpen k larval
  still_open w = last_any (open_of k) larval (still_last w)

  pub still_text : Within larval k0 k → slice_get (texts k.seen) larval ≡ Some (spelling name)
  still_text w = ap (λ x. slice_get (texts x) larval) w.goes.seen ∙ text_more k0.seen w.goes.between larval (spelling name) begins.begun

  pub next_child : (ids : List ℕ) (names : List Tree) (u : Tree) → IsLearned name → children_of name ≡ Ok names → Asks larval name k0 k ids → length ids < length names → u ≡ get_or names (length ids) u → next_asked k ≡ Some (spelling u)
  next_child ids names u known asked a lt is =
      ap (λ o. option_and_then (λ m. option_and_then (λ text. next_of k.seen (own_looks k m) (table.children text)) (slice_get (texts k.seen) m)) o) (still_last a.within)
      ∙ (ap (λ o. option_and_then (λ text. next_of k.seen (own_looks k larval) (table.children text)) o) (still_text a.within)
      ∙ (ap (λ c. next_of k.seen (own_looks k larval) c) (known.table.children ∙ ap spellings asked)
      ∙ (next_is k.seen (own_looks k larval) (map spelling names) ids a.come ∙ get_map names (length ids) u lt is)))

  own_now : (ids : List ℕ) → Asks larval name k0 k ids → IsOwn k larval
  own_now ids a = own_on k0 k a.within.work larval a.within.goes begins.own

  come_more : RegistryLaws → (l : Known RegEntry) (ids : List ℕ) (text : List ℕ) (answer : Looked) → Asks larval name k0 k ids → Looks k l text true answer → outcomes l.seen (own_looks k larval) ≡ Some (Ok ids)
  come_more laws l ids text answer a w = ap (λ x. outcomes x (own_looks k larval)) w.goes.seen ∙ (laws.stays k.seen w.goes.between).looks (own_looks k larval) (Ok ids) a.come

  pub within_child : (l : Known RegEntry) (ids : List ℕ) (text : List ℕ) (r : Result ℕ BuildErr) → Asks larval name k0 k ids → Resolves k l text true r → Within larval k0 l
  within_child l ids text r a (inl none) = within_on larval k0 k l a.within (within_works larval k l none.0)
  within_child l ids text r a (inr came) = within_on larval k0 k l a.within (within_look larval k l text came.0 (still_last a.within) came.1)

  -- a further child came to an entry
  pub asks_more : RegistryLaws → (l : Known RegEntry) (ids : List ℕ) (text : List ℕ) (id : ℕ) (r : Result ℕ BuildErr) → r ≡ Ok id → Asks larval name k0 k ids → Resolves k l text true r → Asks larval name k0 l (ids ++ id ∷ [])
  asks_more laws l ids text id r is a (inl none) = absurd (let f : Ok id ≡ Err Memory = sym is ∙ none.1 in cc)
  asks_more laws l ids text id r is a (inr came) = record {
    sound = came.1.sound;
    within = within_child l ids text r a (inr came);
    come = ap (λ ls. outcomes l.seen ls) (own_look larval k l text came.0 (still_last a.within) (own_now ids a) came.1)
        ∙ outcomes_snoc l.seen (own_looks k larval) ids came.0 id (come_more laws l ids text came.0 a came.1) (subst (Comes l came.0) is came.2);
  }

  -- or to a failure
  pub child_failed : RegistryLaws → (l : Known RegEntry) (ids : List ℕ) (text : List ℕ) (count : ℕ) (e : BuildErr) (r : Result ℕ BuildErr) → r ≡ Err e → Asks larval name k0 k ids → Resolves k l text true r → ChildrenCome l larval count (Err e)
  child_failed laws l ids text count Memory r is a came = tt
  child_failed laws l ids text count (Fault errno) r is a (inl none) = absurd (let f : Err (Fault errno) ≡ Err Memory = sym is ∙ none.1 in cc)
  child_failed laws l ids text count (Fault errno) r is a (inr came) =
      ap (λ ls. outcomes l.seen ls) (own_look larval k l text came.0 (still_last a.within) (own_now ids a) came.1)
      ∙ outcomes_fail l.seen (own_looks k larval) ids came.0 errno (come_more laws l ids text came.0 a came.1) (subst (Comes l came.0) is came.2)

  handed_as : (names : Result (List Tree) Errno) → IsLearned name → children_of name ≡ names → Within larval k0 k → handed k larval ≡ handed_by k.seen (spelling name) (own_looks k larval) (spellings names)
  handed_as names known asked w =
      ap (λ o. option_and_then (λ text. handed_by k.seen text (own_looks k larval) (table.children text)) o) (still_text w)
      ∙ ap (λ c. handed_by k.seen (spelling name) (own_looks k larval) c) (known.table.children ∙ ap spellings asked)

  -- the name asks for nothing
  pub builds_none : (e : BuildErr) → IsLearned name → Within larval k0 k → FaultIs e (children_of name) → Builds k larval (Err e)
  builds_none Memory known w fault = tt
  builds_none (Fault errno) known w fault = handed_as (Err errno) known fault w

  -- a child failed
  pub builds_failed : (e : BuildErr) (names : List Tree) → IsLearned name → children_of name ≡ Ok names → Within larval k0 k → ChildrenCome k larval (length names) (Err e) → Builds k larval (Err e)
  builds_failed Memory names known asked w come = tt
  builds_failed (Fault errno) names known asked w come = handed_as (Ok names) known asked w ∙ ap (λ o. handed_over k.seen (spelling name) (map spelling names) o) come

  length_map : (xs : List Tree) → length (map spelling xs) ≡ length xs
  length_map [] = refl
  length_map (x ∷ xs) = ap suc (length_map xs)

  derived_so : (ids : List ℕ) (names : List Tree) (below : List (ℕ × Spec)) (r : Result Spec Errno) → IsLearned name → children_of name ≡ Ok names → Within larval k0 k → outcomes k.seen (own_looks k larval) ≡ Some (Ok ids) → length ids ≡ length names
      → below ≡ filter_map (with_spec (registered k.seen)) ids → derived_of name below ≡ r → handed k larval ≡ Some r
  derived_so ids names below r known asked w come count is derived =
      handed_as (Ok names) known asked w
      ∙ (ap (λ o. handed_over k.seen (spelling name) (map spelling names) o) come
      ∙ (ap (λ b. if b then Some (table.derived (spelling name) (filter_map (with_spec (registered k.seen)) ids)) else None) (eq-eqb (length ids) (length (map spelling names)) (count ∙ sym (length_map names)))
      ∙ ap (λ d. Some d) (ap (λ b. table.derived (spelling name) b) (sym is) ∙ (known.table.derived below ∙ derived))))

  -- all children came to entries
  pub builds_derived : (ids : List ℕ) (names : List Tree) (below : List (ℕ × Spec)) (r : Result Spec BuildErr) → IsLearned name → children_of name ≡ Ok names → Within larval k0 k → ChildrenCome k larval (length names) (Ok ids)
      → below ≡ filter_map (with_spec (registered k.seen)) ids → IfOk r (λ s. derived_of name below ≡ Ok s) → IfErr r (λ e. FaultIs e (derived_of name below)) → Builds k larval r
  builds_derived ids names below (Ok spec) known asked w come is ok err = derived_so ids names below (Ok spec) known asked w come.0 come.1 is ok
  builds_derived ids names below (Err (Fault errno)) known asked w come is ok err = derived_so ids names below (Err errno) known asked w come.0 come.1 is err
  builds_derived ids names below (Err Memory) known asked w come is ok err = tt

  -- what the children came to exists
  pub children_exist : RegistryLaws → (ids : List ℕ) → IsSound k → Within larval k0 k → outcomes k.seen (own_looks k larval) ≡ Some (Ok ids) → Exist k.seen ids
  children_exist laws ids sound w come = outcomes_there laws k.seen (own_looks k larval) ids sound.faithful.legal exist come
    where
      own : claimer k.seen larval ≡ Some k.number
      own = (laws.claimed k.seen sound.faithful.legal k.number larval (ap (λ ns. list_any (λ m. eqb m larval) ns) (laws.building k.seen k.number ∙ ap (λ es. building es k.number) sound.own) ∙ still_open w)).0

      exist : AllByRecursion (FoundExists k.seen) (own_looks k larval)
      exist = subst (AllByRecursion (FoundExists k.seen)) (laws.looks k.seen k.number larval sound.faithful.legal own ∙ ap (λ es. looks_for larval [] es) sound.own) (all_exist laws larval [] k.seen k.seen refl sound.faithful.legal)

-- after the specs were read
pub come_idle : RegistryLaws → (larval count : ℕ) (k l : Known RegEntry) (ids : List ℕ) → Idles k l → IsOwn k larval → ChildrenCome k larval count (Ok ids) → ChildrenCome l larval count (Ok ids)
come_idle laws larval count k l ids idles own come = (
  ap (λ ls. outcomes l.seen ls) ((idles_works k l idles).looks larval own)
      ∙ (ap (λ x. outcomes x (own_looks k larval)) idles.goes.seen ∙ (laws.stays k.seen idles.goes.between).looks (own_looks k larval) (Ok ids) come.0),
  come.1,
)

pub within_idle : (larval : ℕ) (k0 k l : Known RegEntry) → Within larval k0 k → Idles k l → Within larval k0 l
within_idle larval k0 k l w idles = within_on larval k0 k l w (within_works larval k l (idles_works k l idles))

pub own_within : (larval : ℕ) (name : Tree) (k0 k : Known RegEntry) → Begins larval name k0 → Within larval k0 k → IsOwn k larval
own_within larval name k0 k begins w = own_on k0 k w.work larval w.goes begins.own
