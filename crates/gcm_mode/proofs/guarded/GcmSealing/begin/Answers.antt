use Rattle.std.proofs.Common.{refl, sym}
use Rattle.std_defs.specs.Gcm.{hash_subkey}
use Rattle.gcm_mode.proofs.Guards.{no_text}
use Rattle.gcm_mode.proofs.guarded.GcmSealing.begin.Goals as goal

pub returns : goal.returns
returns c = λ cipher. ((refl, (refl, c.new.ensures.none (hash_subkey cipher))), sym (no_text cipher c.args.iv.now))
