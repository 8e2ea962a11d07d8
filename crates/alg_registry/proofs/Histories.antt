-- What stays in a history that goes on, whoever adds to it.
use Rattle.std.proofs.Common.{◌≡◌, ℕ, zero, suc, List, [], ◌∷◌, ◌++◌, refl, ap, sym, ◌∙◌, Option, Some, None, Result, Ok, Err, append_assoc}
use Rattle.std.specs.Prelude.{slice_get}
use Rattle.std.specs.List.{filter_map}
use Rattle.std.proofs.lemmas.List.{append-nil}
use Rattle.std.proofs.lemmas.List.Elements.{filter_map-append}
use Rattle.kc_base.specs.declared.error_numbers.Errno.{Errno}
use Rattle.alg_registry.specs.declared.spec.Spec.{Spec}
use Rattle.alg_registry.specs.declared.entry.Ended.{Ended}
use Rattle.alg_registry.specs.declared.entry.Looked.{Looked}
use Rattle.alg_registry.specs.declared.entry.Looked.TheVariants.{Found, Pending, Began, Absent}
use Rattle.alg_registry.specs.declared.entry.RegEntry.{RegEntry}
use Rattle.alg_registry.specs.Rows.{texts, registered, begun_by, registered_by, opening}
use Rattle.alg_registry.specs.Legal.{MayFollow, ended_as, claimer}
use Rattle.alg_registry.specs.Made.{outcome, outcome_of, outcomes, all_outcomes}
use Rattle.alg_registry.proofs.Stack.{ended-stays, claimed-stays}

module _ {A : Type 0} where
  pub get_more : (xs ys : List A) (n : ℕ) (x : A) → slice_get xs n ≡ Some x → slice_get (xs ++ ys) n ≡ Some x
  get_more [] ys n x e = absurd cc
  get_more (y ∷ xs) ys zero x e = e
  get_more (y ∷ xs) ys (suc n) x e = get_more xs ys n x e

pub legal_front : (before h more : List RegEntry) → MayFollow before (h ++ more) → MayFollow before h
legal_front before [] more legal = tt
legal_front before (e ∷ h) more legal = (legal.0, legal_front (before ++ e ∷ []) h more legal.1)

pub ended_more : (h more : List RegEntry) (n : ℕ) (e : Ended) → ended_as h n ≡ Some e → ended_as (h ++ more) n ≡ Some e
ended_more h [] n e q = ap (λ x. ended_as x n) (append-nil h) ∙ q
ended_more h (x ∷ more) n e q = ap (λ y. ended_as y n) (sym (append_assoc h (x ∷ []) more)) ∙ ended_more (h ++ x ∷ []) more n e (ended-stays h x n e q)

pub claimed_more : (h more : List RegEntry) (n c : ℕ) → claimer h n ≡ Some c → claimer (h ++ more) n ≡ Some c
claimed_more h [] n c q = ap (λ x. claimer x n) (append-nil h) ∙ q
claimed_more h (x ∷ more) n c q = ap (λ y. claimer y n) (sym (append_assoc h (x ∷ []) more)) ∙ claimed_more (h ++ x ∷ []) more n c (claimed-stays h x n c q)

pub text_more : (h more : List RegEntry) (n : ℕ) (text : List ℕ) → slice_get (texts h) n ≡ Some text → slice_get (texts (h ++ more)) n ≡ Some text
text_more h more n text e = ap (λ ts. slice_get ts n) (filter_map-append begun_by h more) ∙ get_more (texts h) (texts more) n text e

pub registered_more : (h more : List RegEntry) → registered (h ++ more) ≡ registered h ++ filter_map registered_by more
registered_more h more = ap (λ ss. opening ++ ss) (filter_map-append registered_by h more) ∙ sym (append_assoc opening (filter_map registered_by h) (filter_map registered_by more))

pub origin_more : (h more : List RegEntry) (id : ℕ) (spec : Spec) → slice_get (registered h) id ≡ Some spec → slice_get (registered (h ++ more)) id ≡ Some spec
origin_more h more id spec e = ap (λ ss. slice_get ss id) (registered_more h more) ∙ get_more (registered h) (filter_map registered_by more) id spec e

outcome_of_more : (h more : List RegEntry) (n : ℕ) (r : Result ℕ Errno) → outcome_of (ended_as h n) ≡ Some r → outcome_of (ended_as (h ++ more) n) ≡ Some r
outcome_of_more h more n r e = by_end (ended_as h n) refl e
  where
    by_end : (o : Option Ended) → ended_as h n ≡ o → outcome_of o ≡ Some r → outcome_of (ended_as (h ++ more) n) ≡ Some r
    by_end None q f = absurd cc
    by_end (Some x) q f = ap outcome_of (ended_more h more n x q) ∙ f

-- what a look came to, it keeps
pub outcome_more : (h more : List RegEntry) (answer : Looked) (r : Result ℕ Errno) → outcome h answer ≡ Some r → outcome (h ++ more) answer ≡ Some r
outcome_more h more (Found id) r e = e
outcome_more h more Absent r e = e
outcome_more h more (Pending n) r e = outcome_of_more h more n r e
outcome_more h more (Began n) r e = outcome_of_more h more n r e

pub outcomes_more : (h more : List RegEntry) (looks : List Looked) (r : Result (List ℕ) Errno) → outcomes h looks ≡ Some r → outcomes (h ++ more) looks ≡ Some r
outcomes_more h more [] r e = e
outcomes_more h more (look ∷ looks) r e = here (outcome h look) (outcomes h looks) refl refl e (λ q y. outcomes_more h more looks q y)
  where
    here : (o : Option (Result ℕ Errno)) (p : Option (Result (List ℕ) Errno)) → outcome h look ≡ o → outcomes h looks ≡ p → all_outcomes o p ≡ Some r → ((q : Result (List ℕ) Errno) → outcomes h looks ≡ Some q → outcomes (h ++ more) looks ≡ Some q) → all_outcomes (outcome (h ++ more) look) (outcomes (h ++ more) looks) ≡ Some r
    here None p x y z rest = absurd cc
    here (Some (Err errno)) p x y z rest = ap (λ o. all_outcomes o (outcomes (h ++ more) looks)) (outcome_more h more look (Err errno) x) ∙ z
    here (Some (Ok id)) None x y z rest = absurd cc
    here (Some (Ok id)) (Some q) x y z rest =
        ap (λ o. all_outcomes o (outcomes (h ++ more) looks)) (outcome_more h more look (Ok id) x)
        ∙ (ap (λ o. all_outcomes (Some (Ok id)) o) (rest q y) ∙ z)
