-- For a crate above: what a caller of these calls knows further.
use Rattle.std.proofs.Common.{◌≡◌, ℕ, inl, inr, Bool, List, [], ◌∷◌, ◌++◌, refl, ap, sym, ◌∙◌, subst, Option, Some, Result, Ok}
use Rattle.std.specs.Prelude.{slice_get}
use Rattle.kc_base.specs.declared.error_numbers.Errno.{Errno}
use Rattle.std.proofs.Common.{None, Err}
use Rattle.alg_registry.specs.declared.spec.Spec.{Spec}
use Rattle.alg_registry.specs.declared.entry.Looked.{Looked}
use Rattle.alg_registry.specs.declared.entry.RegEntry.{RegEntry}
use Rattle.alg_registry.specs.declared.entry.RegEntry.TheVariants.{Look}
use Rattle.alg_registry.specs.Rows.{registered}
use Rattle.alg_registry.specs.Made.{outcome}
use Rattle.templates.specs.LookResults.{found_in, found_as, entry_found}
use Rattle.templates.specs.LookResults.{Found as WasFound}
use Rattle.std.specs.List.{AllByRecursion}
use Rattle.turn_lock.specs.Turns.{Known, Has, Each}
use Rattle.shared_registry.proofs.Going.{Goes}
use Rattle.shared_registry.specs.Builds.{Looks, IsLook, WasAnswered}
use Rattle.shared_registry.specs.Learned.{RegistryLaws}

has_more : (P : RegEntry → Type 0) (xs ys : List RegEntry) → Has P xs → Has P (xs ++ ys)
has_more P [] ys has = absurd has
has_more P (x ∷ xs) ys (inl p) = inl p
has_more P (x ∷ xs) ys (inr has) = inr (has_more P xs ys has)

has_middle : (P : RegEntry → Type 0) (xs ys : List RegEntry) (e : RegEntry) → P e → Has P (xs ++ e ∷ ys)
has_middle P [] ys e p = inl p
has_middle P (x ∷ xs) ys e p = inr (has_middle P xs ys e p)

-- a look was answered
pub was_answered : (k l : Known RegEntry) (text : List ℕ) (plain : Bool) (answer : Looked) → Looks k l text plain answer → WasAnswered l text answer
was_answered k l text plain answer w =
    subst (Has (IsLook l.number text answer)) (sym w.goes.made) (has_middle (IsLook l.number text answer) k.made w.work (Look k.number text plain answer) (sym w.goes.number, refl, refl))

-- and stays so
pub answered_on : (k l : Known RegEntry) (a : List RegEntry) (text : List ℕ) (answer : Looked) → Goes k l a → WasAnswered k text answer → WasAnswered l text answer
answered_on k l a text answer g was =
    subst (λ n. Has (IsLook n text answer) l.made) (sym g.number) (subst (Has (IsLook k.number text answer)) (sym g.made) (has_more (IsLook k.number text answer) k.made a was))

-- what a look was found to be, it stays
pub found_more : RegistryLaws → (h more : List RegEntry) (a : Looked) (found : WasFound) → found_in h a ≡ Some found → found_in (h ++ more) a ≡ Some found
found_more laws h more a found e = by_come (outcome h a) refl e
  where
    by_entry : (id : ℕ) (o : Option Spec) → slice_get (registered h) id ≡ o → entry_found id o ≡ Some found → entry_found id (slice_get (registered (h ++ more)) id) ≡ Some found
    by_entry id None q z = absurd cc
    by_entry id (Some spec) q z = ap (λ o. entry_found id o) ((laws.stays h more).entry id spec q) ∙ z

    by_come : (o : Option (Result ℕ Errno)) → outcome h a ≡ o → found_as h o ≡ Some found → found_in (h ++ more) a ≡ Some found
    by_come None q z = absurd cc
    by_come (Some (Ok id)) q z = ap (λ o. found_as (h ++ more) o) ((laws.stays h more).look a (Ok id) q) ∙ by_entry id (slice_get (registered h) id) refl z
    by_come (Some (Err errno)) q z = ap (λ o. found_as (h ++ more) o) ((laws.stays h more).look a (Err errno) q) ∙ z

pub all_each : {A : Type 0} (P : A → Type 0) (xs : List A) → Each P xs → AllByRecursion P xs
all_each P [] all = tt
all_each P (x ∷ xs) all = (all.0, all_each P xs all.1)
