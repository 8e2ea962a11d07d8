-- What is known of the registry, after calls.
use Rattle.std.proofs.Common.{◌≡◌, ℕ, ◌+◌, List, [], ◌∷◌, ◌++◌, refl, sym, ap, ◌∙◌, arith, Bool, cond, eq-eqb}
use Rattle.alg_registry.specs.declared.entry.RegEntry.{RegEntry}
use Rattle.turn_lock.specs.Turns.{Known}
use Rattle.dialogues.specs.References.{got, given}
use Rattle.dialogues.specs.RegistryCalls.{RegCall, reg_calls}
use Rattle.dialogues.specs.ScriptState.{Live}
use Rattle.recorded_calls.specs.RegistryCalls.{AskedBy, HasReferenceOf}
use Rattle.script_session.specs.States.{ReferencesMatch, uses}
use Rattle.script_session.proofs.Placed.{Split, uses-removed}

got-append : (id : ℕ) (a b : List RegCall) → got id (a ++ b) ≡ got id a + got id b
got-append id [] b = omega arith
got-append id (call ∷ a) b = let h = got-append id a b in omega (arith, h)

given-append : (id : ℕ) (a b : List RegCall) → given id (a ++ b) ≡ given id a + given id b
given-append id [] b = omega arith
given-append id (call ∷ a) b = let h = given-append id a b in omega (arith, h)

-- it is so again after calls by which references and live transforms change alike
pub stands-more : {width : ℕ} → (lives lives' : List Live) (k l : Known RegEntry) (calls : List RegCall) → ReferencesMatch lives k → AskedBy width k l calls
    → ((id : ℕ) → got id calls + uses id lives ≡ given id calls + uses id lives') → ReferencesMatch lives' l
stands-more {width} lives lives' k l calls stands asked balanced =
    let before = reg_calls k.number k.seen in
    let are : reg_calls l.number l.seen ≡ before ++ calls = ap (λ n. reg_calls n l.seen) asked.number ∙ asked.are.calls_are in
    record {
      caller = asked.caller;
      referenced = λ id.
          ap (got id) are
          ∙ (let a = got-append id before calls in
          let b = given-append id before calls in
          let c = stands.referenced id in
          let d = balanced id in
          let e : got id (before ++ calls) ≡ given id (before ++ calls) + uses id lives' = omega (arith, a, b, c, d) in
          e)
          ∙ ap (λ n. n + uses id lives') (sym (ap (given id) are));
    }

-- a reference of a live transform may be given back
pub may-give : (label : List ℕ) (lives : List Live) (place : ℕ) (s : Split label lives 0 place) (k : Known RegEntry) → ReferencesMatch lives k → HasReferenceOf k s.live.id
may-give label lives place s k stands =
    let id = s.live.id in
    let c = stands.referenced id in
    let d = uses-removed label lives place id s in
    let e = ap counted (eq-eqb id id refl) in
    omega (arith, c, d, e)
  where
    counted : Bool → ℕ
    counted b = cond b 1 0
