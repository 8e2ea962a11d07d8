use Rattle.std.proofs.Common.{◌≡◌, map, drop}
use Rattle.std.specs.List.{list_all}
use Rattle.trace_text.specs.Trace.{is_word}
use Rattle.trace_check.proofs.lines.are_words.Given as goal

abbrev pub invariant-loop-place : goal.invariant-loop-place
invariant-loop-place l = list_all is_word (map (λ word. word.now) (drop l.place l.words)) ≡ list_all is_word (map (λ word. word.now) l.words)
