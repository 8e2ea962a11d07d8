use Rattle.std.proofs.Common.{refl, ap, ◌∙◌, ◌/◌}
use Rattle.std_defs.specs.Gcm.{counter_block}
use Rattle.gcm_mode.proofs.segments.KeyStreamWalker.step.Goals as goal

pub returns : goal.returns
returns g c = rw (← c.self.view_is) (record { same = refl; made = c.apply_key_stream.ensures; next = c.counter_after-self-inside.ensures ∙ ap (λ n. counter_block c.self.inside.next (n / 16)) c.apply_key_stream.auto.text })
