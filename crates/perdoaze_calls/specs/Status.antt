-- The numbers of the answers.
use Rattle.std.specs.Prelude.{ℤ, pos, neg_ℤ}
use Rattle.perdoaze_calls.specs.declared.status.Status.{Status}
use Rattle.perdoaze_calls.specs.declared.status.Status.TheVariants.{Done, NoName, NoMemory, Invalid, NoRoom, BadMessage, NoKey}

-- 0, or the negative of Linux's error number
abbrev pub code_of : Status → ℤ
code_of Done = pos 0
code_of NoName = neg_ℤ (pos 2)
code_of NoMemory = neg_ℤ (pos 12)
code_of Invalid = neg_ℤ (pos 22)
code_of NoRoom = neg_ℤ (pos 75)
code_of BadMessage = neg_ℤ (pos 74)
code_of NoKey = neg_ℤ (pos 126)
