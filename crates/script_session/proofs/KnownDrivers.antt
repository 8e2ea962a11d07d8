-- The drivers that a script may register.
use Rattle.std.proofs.Common.{◌≡◌, ℕ, Bool, true, false, cond, List, [], ◌∷◌, Option, Some, None, refl, subst, IsTrue}
use Rattle.std.specs.List.{list_all, find}
use Rattle.std.specs.Option.{option_map}
use Rattle.std.specs.Str.{bytes_eq}
use Rattle.std.proofs.lemmas.Bool.{and_parts}
use Rattle.alg_registry.specs.declared.spec.Spec.{Spec}
use Rattle.templates.specs.Table.{table, drivers}
use Rattle.dialogues.specs.Names.{driver_spec}

some-is : {A : Type 0} (a b : A) → Some a ≡ Some b → a ≡ b
some-is a b e = cc

-- what a search finds passes each test that all pass
found-passes : (holds test : Spec → Bool) (specs : List Spec) (spec : Spec) → list_all holds specs ≡ true → find test specs ≡ Some spec → holds spec ≡ true
found-passes holds test [] spec all e = absurd cc
found-passes holds test (s ∷ specs) spec all e =
    let both = and_parts (holds s) (list_all holds specs) all in
    by_test (test s) e (λ f. found-passes holds test specs spec both.1 f) both.0
  where
    by_test : (b : Bool) → cond b (Some s) (find test specs) ≡ Some spec → (find test specs ≡ Some spec → holds spec ≡ true) → holds s ≡ true → holds spec ≡ true
    by_test true f later here = subst (λ known. holds known ≡ true) (some-is s spec f) here
    by_test false f later here = later f

all-listed : (priority : ℕ) → list_all (λ (s : Spec). table.is_driver (record s { priority = priority })) drivers ≡ true
unfolding table
all-listed priority = refl

-- the table knows a driver of a name, with any priority
pub known-driver : (name : List ℕ) (priority : ℕ) (spec : Spec) → driver_spec name priority ≡ Some spec → IsTrue (table.is_driver spec)
known-driver name priority spec e = by_found (find (λ known. bytes_eq name known.driver) drivers) refl e
  where
    by_found : (o : Option Spec) → find (λ known. bytes_eq name known.driver) drivers ≡ o → option_map (λ (s : Spec). record s { priority = priority }) o ≡ Some spec → IsTrue (table.is_driver spec)
    by_found None q f = absurd cc
    by_found (Some known) q f =
        subst (λ (s : Spec). IsTrue (table.is_driver s)) (some-is (record known { priority = priority }) spec f)
        (found-passes (λ (s : Spec). table.is_driver (record s { priority = priority })) (λ s. bytes_eq name s.driver) drivers known (all-listed priority) q)
