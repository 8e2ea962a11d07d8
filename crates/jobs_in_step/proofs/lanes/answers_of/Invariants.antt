use Rattle.std.proofs.Common.{◌≡◌, ◌<◌, ◌≤◌, ℕ, None, length, slice_index_or}
use Rattle.std.specs.Global.{Global}
use Rattle.std.specs.Option.{option_map}
use Rattle.std.specs.declared.sync.Arc.{Arc}
use Rattle.std_defs.specs.Value.Value.{bytes}
use Rattle.jobs_in_step.specs.Lanes.{text_in}
use Rattle.transforms.specs.Finish.{finished_value}
use Rattle.transforms.specs.declared.ask.Ask.{Ask}
use Rattle.jobs_in_step.proofs.lanes.answers_of.Given as goal

abbrev pub invariant-loop-n : goal.invariant-loop-n
invariant-loop-n l = record {
  long : length l.texts ≡ 8;
  filled : length l.answers ≡ 8;
  done : (k : ℕ) → k < l.n → option_map finished_value (slice_index_or l.answers k None) ≡ option_map (λ (a : Arc Ask Global). bytes (text_in l.fn.texts k)) (slice_index_or l.asks k None);
  left : (k : ℕ) → l.n ≤ k → text_in l.texts k ≡ text_in l.fn.texts k;
}
