-- What the caller asks for, and that what began stays begun.
use Rattle.std.proofs.Common.{◌≡◌, ℕ, zero, suc, ◌<◌, Bool, true, List, [], ◌∷◌, ◌++◌, length, refl, ap, sym, subst, arith, Option, Some, None, Result, Ok, Err, length-append}
use Rattle.std.specs.Prelude.{slice_get, IfOk, IfErr}
use Rattle.std.specs.Option.{option_map}
use Rattle.std.proofs.lemmas.List.Elements.{filter_map-append}
use Rattle.alg_registry.specs.declared.entry.Ended.{Ended}
use Rattle.alg_registry.specs.declared.entry.Looked.{Looked}
use Rattle.alg_registry.specs.declared.entry.Looked.TheVariants.{Began}
use Rattle.alg_registry.specs.declared.entry.RegErr.{RegErr}
use Rattle.alg_registry.specs.declared.entry.RegErr.TheVariants.{Memory}
use Rattle.alg_registry.specs.declared.entry.RegEntry.{RegEntry}
use Rattle.alg_registry.specs.declared.entry.RegEntry.TheVariants.{Look, Waited}
use Rattle.alg_registry.specs.Rows.{caller_of, texts, begun_by, rows_of, larvals_of}
use Rattle.alg_registry.specs.Answers.{look_answer}
use Rattle.alg_registry.specs.Legal.{ended_as}
use Rattle.alg_registry.specs.NamedAnswers.{LooksName}
use Rattle.turn_lock.specs.Turns.{Known}
use Rattle.turn_lock.specs.PassLaws.{AtTurn, Enters, Leaves}
use Rattle.shared_registry.specs.Faithful.{IsFaithful}
use Rattle.shared_registry.specs.Passes.{EntersIf}
use Rattle.alg_names.specs.Spelled.{tree_of}
use Rattle.templates.specs.Table.{table}
use Rattle.templates.specs.Words.{template_named}

-- `cbc(aes)` is a name
abbrev pub cbc_aes : List ℕ
cbc_aes = 99 ∷ 98 ∷ 99 ∷ 40 ∷ 97 ∷ 101 ∷ 115 ∷ 41 ∷ []

pub asks_cbc : table.is_name cbc_aes ≡ true
unfolding table tree_of template_named
asks_cbc = refl

-- in a history that goes on
grown : (h more : List RegEntry) (larval : ℕ) → larval < length (texts h) → larval < length (texts (h ++ more))
grown h more larval lt = omega (arith, lt, ap length (filter_map-append begun_by h more), length-append (texts h) (texts more))

abbrev pub HasWaited : Known RegEntry → Known RegEntry → ℕ → Result (Option Ended) RegErr → Type 0
HasWaited k l larval r =
    AtTurn caller_of IsFaithful k (λ h. IfOk r (λ e. (e ≡ ended_as h larval) × EntersIf k h (option_map (λ _. Waited k.number larval) (ended_as h larval)) l) × IfErr r (λ e. (e ≡ Memory) × Leaves k h l))

pub still_begun : (k l : Known RegEntry) (larval : ℕ) (r : Result (Option Ended) RegErr) → larval < length (texts k.seen) → HasWaited k l larval r → larval < length (texts l.seen)
still_begun k l larval r lt did = by_answer r did.2
  where
    here : larval < length (texts did.0)
    here = subst (λ h. larval < length (texts h)) (sym did.1.goes_on) (grown k.seen did.1.others larval lt)

    left : Leaves k did.0 l → larval < length (texts l.seen)
    left same = subst (λ h. larval < length (texts h)) (sym (ap (λ (n : Known RegEntry). n.seen) same)) here

    by_end : (o : Option Ended) → EntersIf k did.0 (option_map (λ _. Waited k.number larval) o) l → larval < length (texts l.seen)
    by_end None same = left same
    by_end (Some e) entered = subst (λ h. larval < length (texts h)) (sym (ap (λ (n : Known RegEntry). n.seen) entered.0)) (grown did.0 (Waited k.number larval ∷ []) larval here)

    by_answer : (x : Result (Option Ended) RegErr) → IfOk x (λ e. (e ≡ ended_as did.0 larval) × EntersIf k did.0 (option_map (λ _. Waited k.number larval) (ended_as did.0 larval)) l) × IfErr x (λ e. (e ≡ Memory) × Leaves k did.0 l) → larval < length (texts l.seen)
    by_answer (Ok e) t = by_end (ended_as did.0 larval) t.0.1
    by_answer (Err e) t = left t.1.1

get_within : (xs : List (List ℕ)) (n : ℕ) (x : List ℕ) → slice_get xs n ≡ Some x → n < length xs
get_within [] n x e = absurd cc
get_within (y ∷ xs) zero x e = omega arith
get_within (y ∷ xs) (suc n) x e = let r : n < length xs = get_within xs n x e in omega (arith, r)

abbrev pub HasLooked : Known RegEntry → Known RegEntry → List ℕ → Bool → Result Looked RegErr → Type 0
HasLooked k l text plain r =
    AtTurn caller_of IsFaithful k (λ h. IfOk r (λ a. (a ≡ look_answer (rows_of h) (larvals_of h) text plain) × Enters IsFaithful k h (Look k.number text plain a) l) × IfErr r (λ e. (e ≡ Memory) × Leaves k h l))

-- the larval that began at a look
pub has_begun : LooksName → (k l : Known RegEntry) (text : List ℕ) (plain : Bool) (r : Result Looked RegErr) (larval : ℕ) → r ≡ Ok (Began larval) → HasLooked k l text plain r → larval < length (texts l.seen)
has_begun names k l text plain r larval is did =
    let t = subst (λ x. HasLooked k l text plain x) is did in
    let e : RegEntry = Look k.number text plain (Began larval) in
    subst (λ h. larval < length (texts h)) (sym (ap (λ (n : Known RegEntry). n.seen) t.2.0.1.0))
    (get_within (texts (t.0 ++ e ∷ [])) larval text (names t.0 [] k.number text plain (Began larval) t.2.0.1.1.legal))
