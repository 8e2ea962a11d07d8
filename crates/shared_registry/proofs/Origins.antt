-- The entries below an instance, as they came to be.
use Rattle.std.proofs.Common.{◌≡◌, ℕ, zero, suc, ◌+◌, ◌<◌, List, [], ◌∷◌, ◌++◌, length, take, get_or, ap, sym, ◌∙◌, subst, arith, Option, None, Result, Ok}
use Rattle.std.specs.Prelude.{slice_get, IfOk, IfErr}
use Rattle.std.specs.List.{filter_map}
use Rattle.std.proofs.lemmas.List.{take_more}
use Rattle.std.proofs.lemmas.List.Elements.{filter_map-append}
use Rattle.alg_registry.specs.declared.spec.Spec.{Spec}
use Rattle.alg_registry.specs.declared.entry.RegErr.{RegErr}
use Rattle.alg_registry.specs.declared.entry.RegErr.TheVariants.{Memory}
use Rattle.alg_registry.specs.declared.entry.RegEntry.{RegEntry}
use Rattle.alg_registry.specs.Rows.{registered}
use Rattle.alg_registry.specs.Made.{with_spec}
use Rattle.alg_registry.proofs.Existing.{registered_grow}
use Rattle.turn_lock.specs.Turns.{Known}
use Rattle.shared_registry.proofs.Going.{Meets, Goes}
use Rattle.turn_lock.specs.PassLaws.{Leaves}
use Rattle.shared_registry.specs.Within.{Idles}
use Rattle.shared_registry.proofs.Asking.{Exist, specs_more}

abbrev pub HasOrigin : Known RegEntry → Known RegEntry → ℕ → Result (Option Spec) RegErr → Type 0
HasOrigin k l id r = Meets k (λ h. IfOk r (λ origin. origin ≡ slice_get (registered h) id) × IfErr r (λ e. e ≡ Memory) × Leaves k h l)

some_there : (xs : List Spec) (n : ℕ) → n < length xs → None ≡ slice_get xs n → ⊥
some_there [] n lt e = absurd (omega (arith, lt))
some_there (x ∷ xs) zero lt e = absurd cc
some_there (x ∷ xs) (suc n) lt e = some_there xs n (omega (arith, lt)) e

module _ (k l : Known RegEntry) (id : ℕ) (r : Result (Option Spec) RegErr) (did : HasOrigin k l id r) where
  pub origin_there : id < length (registered k.seen) → r ≡ Ok None → ⊥
  origin_there lt is =
      let none : None ≡ slice_get (registered did.0) id = subst (λ x. IfOk x (λ origin. origin ≡ slice_get (registered did.0) id)) is did.2.0 in
      some_there (registered did.0) id (omega (arith, lt, registered_grow k.seen did.1.others, ap (λ x. length (registered x)) did.1.goes_on)) none

pub exist_on : (k l : Known RegEntry) (a : List RegEntry) (ids : List ℕ) → Goes k l a → Exist k.seen ids → Exist l.seen ids
exist_on k l a [] g exist = tt
exist_on k l a (id ∷ ids) g exist = (omega (arith, exist.0, registered_grow k.seen g.between, ap (λ x. length (registered x)) g.seen), exist_on k l a ids g exist.1)

exist_take : (h : List RegEntry) (ids : List ℕ) (i : ℕ) → Exist h ids → Exist h (take i ids)
exist_take h [] i exist = exist_nil i
  where
    exist_nil : (i : ℕ) → Exist h (take i [])
    exist_nil zero = tt
    exist_nil (suc i) = tt
exist_take h (id ∷ ids) zero exist = tt
exist_take h (id ∷ ids) (suc i) exist = (exist.0, exist_take h ids i exist.1)

pub exist_get : (h : List RegEntry) (ids : List ℕ) (i d : ℕ) → Exist h ids → i < length ids → get_or ids i d < length (registered h)
exist_get h [] i d exist lt = absurd (omega (arith, lt))
exist_get h (id ∷ ids) zero d exist lt = exist.0
exist_get h (id ∷ ids) (suc i) d exist lt = exist_get h ids i d exist.1 (omega (arith, lt))

-- one more entry
pub one_more : (k l m : Known RegEntry) (ids : List ℕ) (i : ℕ) (old new : List (ℕ × Spec)) → Idles k l → Idles l m → Exist k.seen ids → i < length ids
    → old ≡ filter_map (with_spec (registered l.seen)) (take i ids) → new ≡ old ++ filter_map (with_spec (registered m.seen)) (get_or ids i 0 ∷ [])
    → new ≡ filter_map (with_spec (registered m.seen)) (take (i + 1) ids)
one_more k l m ids i old new a b exist lt so_far added =
    let front : filter_map (with_spec (registered m.seen)) (take i ids) ≡ filter_map (with_spec (registered l.seen)) (take i ids) =
    ap (λ x. filter_map (with_spec (registered x)) (take i ids)) b.goes.seen ∙ specs_more l.seen b.goes.between (take i ids) (exist_take l.seen ids i (exist_on k l [] ids a.goes exist)) in
    added
    ∙ (ap (λ x. x ++ filter_map (with_spec (registered m.seen)) (get_or ids i 0 ∷ [])) (so_far ∙ sym front)
    ∙ sym (ap (λ x. filter_map (with_spec (registered m.seen)) x) (take_more ids i 0 lt) ∙ filter_map-append (with_spec (registered m.seen)) (take i ids) (get_or ids i 0 ∷ [])))
