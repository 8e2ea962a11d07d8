-- The word of the unnoticed leads on in its order: what was read in an earlier state is not before that of a later one.
use Rattle.std.specs.Prelude.{List}
use Rattle.wake_ups.specs.Wakeups.{Wakeups, Step, Run, NotBefore}

abbrev pub WordsLeadOn : Wakeups → List Step → Wakeups → Type 0
WordsLeadOn b steps c = Run b steps c → NotBefore b.word c.word
