use Rattle.std.specs.Prelude.{map, string_bytes}
use Rattle.crypto_script.proofs.Asking.{asks-script, asks-clients, asks-load, refuses}
use Rattle.crypto_script.proofs.program.mode_for.Goals as goal

pub returns-in-Ok-clause-script : goal.returns-in-Ok-clause-script
returns-in-Ok-clause-script c = asks-script (map string_bytes c.args.words.now) c.in-Ok.mode c.in-Ok.ensures.mode

pub returns-in-Ok-clause-clients : goal.returns-in-Ok-clause-clients
returns-in-Ok-clause-clients c = asks-clients (map string_bytes c.args.words.now) c.in-Ok.mode c.in-Ok.ensures.mode

pub returns-in-Ok-clause-load : goal.returns-in-Ok-clause-load
returns-in-Ok-clause-load c = asks-load (map string_bytes c.args.words.now) c.in-Ok.mode c.in-Ok.ensures.mode

pub returns-in-Err-clause-refused : goal.returns-in-Err-clause-refused
returns-in-Err-clause-refused c =
    rw c.refusal_of.ensures (refuses (map string_bytes c.args.words.now) c.in-Err.error c.in-Err.ensures.refused)
