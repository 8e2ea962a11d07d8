use Rattle.std.proofs.Common.{◌≡◌, ℕ, List, Bool, true, false, Ok, Err, ◌∙◌, ◌∷◌, ◌++◌, []}
use Rattle.std.specs.Prelude.{Result, MatchResult}
use Rattle.std.specs.Result.{is_ok}
use Rattle.turn_lock.specs.declared.tests.Entry.{Entry}
use Rattle.turn_lock.specs.declared.tests.Log.{Log}
use Rattle.turn_lock.specs.Passes.{knows}
use Rattle.turn_lock.specs.TurnLaws.{meets, enters, leaves}
use Rattle.turn_lock.proofs.tests.append.Goals as goal

either : {X F P Q A B : Type 0} (r : Result X F) (added : Bool) → added ≡ is_ok r → MatchResult r (λ _. A) (λ _. B) → (added ≡ true → A → P) → (added ≡ false → B → Q) → MatchResult r (λ _. P) (λ _. Q)
either (Ok v) added flag did so otherwise = so flag did
either (Err e) added flag did so otherwise = otherwise flag did

pub returns-clause-turn : goal.returns-clause-turn
returns-clause-turn g c =
    let k = knows c.args.pass in
    let t = c.take-turn.ensures in
    let h = c.take-turn.result.value.value.entries.items in
    let y = c.add-answer.new.self in
    let told : Log → List Entry = λ log. log.entries.items in
    let by : Entry → ℕ = λ e. e.by in
    let e : Entry = record { by = k.number; place = c.args.place } in (
      h,
      meets by (λ _. Unit {0}) k h t.shows tt,
      either c.add-answer.result c.is_ok-added.result c.is_ok-added.ensures.value c.add-answer.ensures
          (λ flag did. enters by (λ _. Unit {0}) told k _ (knows c.give.result) h y t.pass e c.is_ok-added.result flag (did ∙ (λ i. (c.get.ensures.value i).entries.items ++ record { by = c.number-by.ensures i; place = c.args.place } ∷ [])) tt c.give.ensures.view)
          (λ flag did. leaves by (λ _. Unit {0}) told k _ (knows c.give.result) h y t.pass c.is_ok-added.result flag c.give.ensures.view),
    )
