use Rattle.dialogues.proofs.Grouping.{in_turn-by, by-alone, by-wider, looks-at_once, by-first, by-after, by-are}
use Rattle.dialogues.proofs.laws.calls_at_once.Goals as goal

pub returns : goal.returns
returns c = record { any = in_turn-by; one = by-alone; more = by-wider; looks = looks-at_once; first = by-first; after = by-after; are = by-are }
