use Rattle.std.proofs.Common.{◌≡◌, ◌∷◌, take}
use Rattle.trace_text.specs.Text.{ids_word}
use Rattle.trace_text.proofs.words.more_ids.Given as goal

abbrev pub invariant-loop-id : goal.invariant-loop-id
invariant-loop-id l = l.text ≡ ids_word (l.fn.first ∷ take l.id-index l.others)
