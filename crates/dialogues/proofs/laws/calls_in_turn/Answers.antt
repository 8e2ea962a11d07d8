use Rattle.dialogues.proofs.Taking.{no_call, one_entry, one_look, waits_first, one_after, calls-are}
use Rattle.dialogues.proofs.laws.calls_in_turn.Goals as goal

pub returns : goal.returns
returns c = record { none = no_call; one = one_entry; look = one_look; first = waits_first; after = one_after; are = calls-are }
