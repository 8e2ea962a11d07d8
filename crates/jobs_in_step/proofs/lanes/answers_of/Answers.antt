use Rattle.std.proofs.Common.{◌≡◌, ◌∙◌, ◌<◌, ℕ, List, None, ap, arith, inl, inr, length, slice_index_or, get_or-set_other, get_or-set_same, length-set}
use Rattle.std.proofs.lemmas.Bool.{cases_lt}
use Rattle.std.proofs.lemmas.List.{get_or_default}
use Rattle.std.specs.Global.{Global}
use Rattle.std.specs.Option.{option_map}
use Rattle.std.specs.declared.sync.Arc.{Arc}
use Rattle.std_defs.specs.Value.Value.{bytes}
use Rattle.in_step.proofs.Chains.{text_at, text_others}
use Rattle.transforms.specs.Finish.{finished_value}
use Rattle.transforms.specs.declared.ask.Ask.{Ask}
use Rattle.jobs_in_step.specs.Lanes.{items_of}
use Rattle.jobs_in_step.proofs.lanes.answers_of.Goals as goal

pub loop-n-preserved : goal.loop-n-preserved
loop-n-preserved c =
    let n = c.loop-n.n in
    let held = c.loop-n.invariant in
    let asks = c.args.asks.now in
    let texts = c.loop-n.texts in
    let answers = c.loop-n.answers in
    let within : n < length texts = omega (arith, held.long) in
    let was = text_at items_of texts n _ within ∙ held.left n (omega arith) in
    record {
      long = length-set texts n _ ∙ held.long;
      filled = length-set answers n _ ∙ held.filled;
      done = λ k below. elim (cases_lt k n) [
        | inl before ↦ ap (option_map finished_value) (get_or-set_other answers n k _ None (omega (arith, before))) ∙ held.done k before
        | inr from ↦
            let is : k ≡ n = omega (arith, below, from) in
            rw is (ap (option_map finished_value) (get_or-set_same answers n _ None (omega (arith, held.filled))) ∙ c.answer_of.ensures
            ∙ ap (option_map (λ (a : Arc Ask Global). bytes (slice_index_or texts n _).items)) (get_or_default asks n _ None (omega arith))
            ∙ ap (λ (t : List ℕ). option_map (λ (a : Arc Ask Global). bytes t) (slice_index_or asks n None)) was)
      ];
      left = λ k from. text_others items_of texts n k _ (omega (arith, from)) ∙ held.left k (omega (arith, from));
    }
