-- What a look answers, in a history that has it.
use Rattle.std.proofs.Common.{◌≡◌, ℕ, Bool, true, false, List, [], ◌∷◌, ◌++◌, refl, ap, sym, subst, Result, Ok, Err}
use Rattle.std.specs.Prelude.{IfOk, IfErr}
use Rattle.alg_registry.specs.declared.entry.Looked.{Looked}
use Rattle.alg_registry.specs.declared.entry.Looked.TheVariants.{Found, Pending, Began, Absent}
use Rattle.alg_registry.specs.declared.entry.RegErr.{RegErr}
use Rattle.alg_registry.specs.declared.entry.RegErr.TheVariants.{Memory}
use Rattle.alg_registry.specs.declared.entry.RegEntry.{RegEntry}
use Rattle.alg_registry.specs.declared.entry.RegEntry.TheVariants.{Look}
use Rattle.alg_registry.specs.Rows.{rows_of, larvals_of}
use Rattle.alg_registry.specs.Answers.{look_answer}
use Rattle.alg_registry.specs.Legal.{LegalReg}
use Rattle.alg_names.specs.Name.{Tree, spelling}
use Rattle.templates.specs.Nesting.{is_nested_well}
use Rattle.turn_lock.specs.Turns.{Known}
use Rattle.shared_registry.specs.Passes.{IsSound}
use Rattle.shared_registry.proofs.Going.{Meets}
use Rattle.turn_lock.specs.PassLaws.{Enters, Leaves}
use Rattle.shared_registry.specs.Faithful.{IsFaithful}
use Rattle.shared_registry.specs.Own.{MayLook}
use Rattle.shared_registry.specs.Builds.{Works, Looks, HasText}
use Rattle.shared_registry.specs.Within.{MayResolve}
use Rattle.shared_registry.proofs.Working.{looks_now, works_none}
use Rattle.shared_registry.proofs.Going.{goes_after, goes_nothing}
use Rattle.alg_registry.specs.NamedAnswers.{IsNamed, LooksName}
use Rattle.shared_registry.specs.Learned.{IsLearned}

pub may_look : (k : Known RegEntry) (t : Tree) (plain : Bool) → IsLearned t → is_nested_well t ≡ true → MayResolve k (spelling t) plain → MayLook k (spelling t) plain
may_look k t true learned nested may = (learned.table.is_name nested, may)
may_look k t false learned nested may = (learned.table.is_name nested, may)

-- the larval that an answer names has the text of the look
named_text : (h : List RegEntry) (text : List ℕ) (answer : Looked) → IsNamed h text answer → HasText h text answer
named_text h text (Found id) named = tt
named_text h text Absent named = tt
named_text h text (Pending n) named = named
named_text h text (Began n) named = named

pub answered_text : LooksName → (before later whole : List RegEntry) (by : ℕ) (text : List ℕ) (plain : Bool) (answer : Looked) → whole ≡ before ++ Look by text plain answer ∷ later → LegalReg whole → HasText whole text answer
answered_text names before later whole by text plain answer is legal =
    named_text whole text answer (subst (λ x. IsNamed x text answer) (sym is) (names before later by text plain answer (subst (λ x. LegalReg x) is legal)))

abbrev pub HasLooked : Known RegEntry → Known RegEntry → List ℕ → Bool → Result Looked RegErr → Type 0
HasLooked k l text plain r =
    Meets k (λ h. IfOk r (λ a. (a ≡ look_answer (rows_of h) (larvals_of h) text plain) × Enters IsFaithful k h (Look k.number text plain a) l) × IfErr r (λ e. (e ≡ Memory) × Leaves k h l))

module _ (k l : Known RegEntry) (text : List ℕ) (plain : Bool) (r : Result Looked RegErr) (looked : HasLooked k l text plain r) where
  pub has_looked : LooksName → (answer : Looked) → IsSound l → r ≡ Ok answer → Looks k l text plain answer × HasText l.seen text answer
  has_looked names answer sound is =
      let did = subst (λ x. HasLooked k l text plain x) is looked in (
        looks_now k l text plain answer (goes_after k l did.0 (Look k.number text plain answer) refl did.1 did.2.0.1) sound,
        answered_text names did.0 [] l.seen k.number text plain answer (ap (λ n. n.seen) did.2.0.1.0) sound.faithful.legal,
      )

  pub looked_not : (e : RegErr) → r ≡ Err e → Works k l
  looked_not e is =
      let did = subst (λ x. HasLooked k l text plain x) is looked in
      works_none k l (goes_nothing k l did.0 did.1 did.2.1.1)
