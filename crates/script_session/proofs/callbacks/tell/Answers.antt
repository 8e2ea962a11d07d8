use Rattle.std.proofs.Common.{◌≡◌, ◌∷◌, [], ◌++◌, List, length, map, refl, sym, ap, ◌∙◌, append_assoc, append-nil, arith}
use Rattle.std.proofs.lemmas.List.{map-append}
use Rattle.std.specs.Vec.Iter.{into_iter_items}
use Rattle.script_session.specs.CallbackText.{callback_said}
use Rattle.script_session.proofs.callbacks.tell.Goals as goal

nothing_left : {X : Type 0} (l : List X) → length l ≡ 0 → l ≡ []
nothing_left [] h = refl
nothing_left (x ∷ xs) h = absurd (omega arith)

pub loop-callback-preserved : goal.loop-callback-preserved
loop-callback-preserved c =
    let at = c.loop-callback in
    let x = c.in-Some.callback in
    let said = callback_said c.args.lines.now in
    let had = c.args.answers.now.items in
    let steps : into_iter_items at.callback-iterator ≡ x ∷ into_iter_items c.next.new.self = c.in-Some.ensures.steps.0 in
    record {
      told =
          c.in_ok-push.ensures.items
          ∙ (ap (λ answer. at.answers.items ++ answer ∷ []) c.told.ensures
          ∙ (ap (λ xs. xs ++ said x ∷ []) at.invariant.told
          ∙ (append_assoc had (map said at.yielded) (said x ∷ []) ∙ ap (λ xs. had ++ xs) (sym (map-append said at.yielded (x ∷ []))))));
      yielded = append_assoc at.yielded (x ∷ []) _ ∙ rw (← steps) at.invariant.yielded;
      left = let was = at.invariant.left in let gone = c.in-Some.ensures.steps.1 in let short = ap length steps in omega arith;
    }

pub returns : goal.returns
returns c =
    let at = c.loop-callback in
    let none = c.in-None.ensures.steps in
    let empty : into_iter_items at.callback-iterator ≡ [] = nothing_left _ (sym at.invariant.left ∙ none.0) in
    let all = sym (append-nil at.yielded) ∙ rw empty at at.invariant.yielded ∙ c.into_iter-callback-iterator.ensures.into_iter_gives.0 ∙ c.into_vec-callback-items.ensures in
    at.invariant.told ∙ ap (λ xs. c.args.answers.now.items ++ map (callback_said c.args.lines.now) xs) all
