use Rattle.std.proofs.Common.{◌≡◌, ◌<◌, ◌≤◌, ℕ, Some, length, map}
use Rattle.perdoaze_calls.specs.Many.{CameTo, question_of, bytes_in}
use Rattle.piece_modes.specs.Pieces.{size_of}
use Rattle.perdoaze_calls.proofs.many.answer_each.Given as goal

abbrev pub invariant-loop-i : goal.invariant-loop-i
invariant-loop-i l = record {
  done : (k : ℕ) → k < l.i → CameTo (Some l.transform) l.fn.asked l.asked l.fn.buffers l.buffers k;
  left : (k : ℕ) → l.i ≤ k → bytes_in l.buffers k ≡ bytes_in l.fn.buffers k;
  kept : map question_of l.asked ≡ map question_of l.fn.asked;
  sizes : map size_of l.buffers ≡ map size_of l.fn.buffers;
  asked_count : length l.asked ≡ length l.fn.asked;
  buffer_count : length l.buffers ≡ length l.fn.buffers;
}
