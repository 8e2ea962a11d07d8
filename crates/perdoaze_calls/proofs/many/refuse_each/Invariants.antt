use Rattle.std.proofs.Common.{◌≡◌, ◌<◌, ℕ, length, map}
use Rattle.perdoaze_calls.specs.Many.{question_of, status_in, written_in}
use Rattle.perdoaze_calls.specs.Status.{code_of}
use Rattle.perdoaze_calls.specs.declared.status.Status.TheVariants.{Invalid}
use Rattle.perdoaze_calls.proofs.many.refuse_each.Given as goal

abbrev pub invariant-loop-i : goal.invariant-loop-i
invariant-loop-i l = record {
  done : (k : ℕ) → k < l.i → (status_in l.asked k ≡ code_of Invalid) × (written_in l.asked k ≡ 0);
  kept : map question_of l.asked ≡ map question_of l.fn.asked;
  count : length l.asked ≡ length l.fn.asked;
}
