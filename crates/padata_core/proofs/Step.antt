use Rattle.std.proofs.Common.{◌≡◌, ℕ, ◌+◌, ◌-◌, drop, List, [], ◌∷◌, ◌++◌, Option, Some, arith, append_assoc, ◌∙◌, ap, subst}
use Rattle.std.proofs.lemmas.List.{drop-drop}
use Rattle.padata_core.specs.Pad.{Pad, ready, done_from}
use Rattle.padata_core.specs.Collection.{StillCollecting}
use Rattle.kc_base.specs.Handed.{Handed}
use Rattle.kc_base.specs.declared.callback_list.Callback.TheVariants.{Done}

pub still-step : {F : Type 0} (from : ℕ) (outcomes : List (Option F)) (before : Handed F) (next : ℕ) (x : F) (rest more : List (Option F)) (into after : Handed F) → StillCollecting from outcomes before next more into → more ≡ Some x ∷ rest → after.list ≡ into.list ++ Done next x ∷ [] → after.spare + 1 ≡ into.spare → StillCollecting from outcomes before (next + 1) rest after
still-step from outcomes before next x rest more into after s e l r =
    let s2 = subst (λ m. StillCollecting from outcomes before next m into) e s in
    record {
      handed = rw l (append_assoc into.list (Done next x ∷ []) (done_from (next + 1) (ready rest)) ∙ s2.handed);
      number = (let h = s2.number in omega arith);
      length = (let h = s2.length in omega arith);
      after = (let h = s2.after in omega arith);
      left = (
          let first : rest ≡ drop 1 (drop (next - from) outcomes) = ap (drop 1) s2.left in
          let same : next - from + 1 ≡ next + 1 - from = (let h = s2.after in omega arith) in
          first ∙ (drop-drop 1 (next - from) outcomes ∙ ap (λ n. drop n outcomes) same));
      room = (let h = s2.room in omega arith);
    }

pub release_step : {J F : Type 0} (old new : Pad J F) (from number : ℕ) (out : F) (outcomes : List (Option F)) (before into after : Handed F) → StillCollecting from outcomes before old.collected old.outcomes into → number ≡ old.collected → old.outcomes ≡ Some out ∷ new.outcomes → new ≡ record old { collected = old.collected + 1; outcomes = new.outcomes } → after.list ≡ into.list ++ Done number out ∷ [] → after.spare + 1 ≡ into.spare → StillCollecting from outcomes before new.collected new.outcomes after
release_step old new from number out outcomes before into after s n o e l r =
    let c : new.collected ≡ old.collected + 1 = ap (λ (p : Pad _ _). p.collected) e in
    rw c (still-step from outcomes before old.collected out new.outcomes old.outcomes into after s o (l ∙ ap (λ m. into.list ++ Done m out ∷ []) n) r)
