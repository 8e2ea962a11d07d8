-- A caller that took a reference has it to give back.
use Rattle.std.proofs.Common.{◌≡◌, ℕ, Bool, true, false, eq-eqb, List, [], ◌∷◌, ◌++◌, refl, ap, sym, ◌∙◌, subst, arith, Result, Ok, Err}
use Rattle.alg_registry.specs.declared.entry.RegErr.{RegErr}
use Rattle.alg_registry.specs.declared.entry.RegErr.TheVariants.{Exist, NoEnt, Again, NFile, Memory}
use Rattle.alg_registry.specs.declared.entry.RegEntry.{RegEntry}
use Rattle.alg_registry.specs.declared.entry.RegEntry.TheVariants.{Get, Refs}
use Rattle.alg_registry.specs.Rows.{is_listed}
use Rattle.alg_registry.specs.Calls.{UnlessMemory, OnMemory, get_result}
use Rattle.alg_registry.specs.Legal.{HasReference}
use Rattle.turn_lock.specs.Turns.{Known}
use Rattle.turn_lock.specs.PassLaws.{Enters, Leaves}
use Rattle.shared_registry.specs.Faithful.{IsFaithful}
use Rattle.shared_registry.proofs.Going.{Meets}

abbrev pub Takes : Known RegEntry → Known RegEntry → ℕ → Result (Unit {0}) RegErr → Type 0
Takes k l id r = Meets k (λ h. UnlessMemory r ((r ≡ get_result (is_listed h id)) × Enters IsFaithful k h (Get k.number id (is_listed h id)) l) × OnMemory r (Leaves k h l))

abbrev pub Counts : {X : Type 0} → Known RegEntry → Known RegEntry → List ℕ → (List RegEntry → Result X RegErr) → Result X RegErr → Type 0
Counts k l driver answer r = Meets k (λ h. UnlessMemory r ((r ≡ answer h) × Enters IsFaithful k h (Refs k.number driver) l) × OnMemory r (Leaves k h l))

-- a reference and nothing else
abbrev IsHeld : Known RegEntry → ℕ → Type 0
IsHeld k id = k.made ≡ Get k.number id true ∷ []

listed : (b : Bool) (u : Unit {0}) → Ok u ≡ get_result b → b ≡ true
listed true u e = refl
listed false u e = absurd cc

pub takes_one : (k l : Known RegEntry) (id : ℕ) (r : Result (Unit {0}) RegErr) (u : Unit {0}) → r ≡ Ok u → k.made ≡ [] → Takes k l id r → IsHeld l id
takes_one k l id r u is none did =
    let t = subst (λ x. Takes k l id x) is did in
    let there : is_listed t.0 id ≡ true = listed (is_listed t.0 id) u t.2.0.0 in
    ap (λ n. n.made) t.2.0.1.0 ∙ ((λ i. none i ++ Get k.number id (there i) ∷ []) ∙ ap (λ n. Get n id true ∷ []) (sym (ap (λ n. n.number) t.2.0.1.0)))

-- it is there to be given back, also after a count
has_one : (c id : ℕ) (rest : List RegEntry) → HasReference (Get c id true ∷ rest) c id → (k : Known RegEntry) → k.number ≡ c → k.made ≡ Get c id true ∷ rest → HasReference k.made k.number id
has_one c id rest has k n m = subst (λ es. HasReference es k.number id) (sym m) (subst (λ d. HasReference (Get c id true ∷ rest) d id) (sym n) has)

alone : (c id : ℕ) → HasReference (Get c id true ∷ []) c id
alone c id = rw (eq-eqb c c refl, eq-eqb id id refl) (omega arith)

counted : (c id : ℕ) (driver : List ℕ) → HasReference (Get c id true ∷ Refs c driver ∷ []) c id
counted c id driver = rw (eq-eqb c c refl, eq-eqb id id refl) (omega arith)

pub still_held : {X : Type 0} (k l : Known RegEntry) (id : ℕ) (driver : List ℕ) (answer : List RegEntry → Result X RegErr) (r : Result X RegErr) → IsHeld k id → Counts k l driver answer r → HasReference l.made l.number id
still_held k l id driver answer r held did = by_answer r did
  where
    entered : (h : List RegEntry) → Enters IsFaithful k h (Refs k.number driver) l → HasReference l.made l.number id
    entered h e = has_one k.number id (Refs k.number driver ∷ []) (counted k.number id driver) l (ap (λ n. n.number) e.0) (ap (λ n. n.made) e.0 ∙ ap (λ es. es ++ Refs k.number driver ∷ []) held)

    left : (h : List RegEntry) → Leaves k h l → HasReference l.made l.number id
    left h e = has_one k.number id [] (alone k.number id) l (ap (λ n. n.number) e) (ap (λ n. n.made) e ∙ held)

    by_answer : (x : Result _ RegErr) → Counts k l driver answer x → HasReference l.made l.number id
    by_answer (Ok v) t = entered t.0 t.2.0.1
    by_answer (Err Memory) t = left t.0 t.2.1
    by_answer (Err Exist) t = entered t.0 t.2.0.1
    by_answer (Err NoEnt) t = entered t.0 t.2.0.1
    by_answer (Err Again) t = entered t.0 t.2.0.1
    by_answer (Err NFile) t = entered t.0 t.2.0.1
