use Rattle.std.proofs.Common.{◌++◌, List, ℕ, length, ap, ◌∙◌}
use Rattle.std.proofs.lemmas.List.{drop-replicate}
use Rattle.perdoaze_calls.proofs.plan_info.put_name.Goals as goal

pub returns : goal.returns
returns c = c.copy_front.ensures ∙ ap (λ (zeros : List ℕ). c.args.name.now ++ zeros) (drop-replicate (length c.args.name.now) 128 0)
