use Rattle.std.proofs.Common.{ap, ℕ, ◌/◌, length}
use Rattle.std_defs.specs.Gcm.{padded}
use Rattle.std_defs.specs.Poly1305.{key_r, message_block}
use Rattle.poly1305.specs.Limbs.{value_of}
use Rattle.poly1305.proofs.Horner.{carried_on}
use Rattle.poly1305.proofs.tag.Poly1305.add_padded.Goals as goal

pub returns : goal.returns
returns c =
    rw (← c.self.view_is)
    (ap (λ (v : ℕ). (c.self.inside.key, v))
    (carried_on c.self.inside.powers.r (key_r c.self.inside.key) (message_block (padded c.args.bytes.now)) (value_of c.self.inside.limbs)
    (value_of c.after_padded-self-inside.result) (length (padded c.args.bytes.now) / 16) c.self.invariant.0 c.after_padded-self-inside.ensures.value))
