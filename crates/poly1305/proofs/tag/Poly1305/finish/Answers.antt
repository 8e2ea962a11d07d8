use Rattle.std.proofs.Common.{ap, ap₂, ◌∙◌, ℕ, ◌+◌, ◌%◌, ◌^◌, length}
use Rattle.std.specs.Int.{w128, to_le_bytes, div_ceil}
use Rattle.std_defs.specs.Poly1305.{key_r, key_s, message_block, poly_tag}
use Rattle.poly1305.specs.Limbs.{value_of}
use Rattle.poly1305.proofs.Horner.{carried_on}
use Rattle.poly1305.proofs.tag.Poly1305.finish.Goals as goal

pub returns : goal.returns
unfolding poly_tag key_s
returns c =
    rw (← c.self.view_is)
    (c.to_le_bytes.ensures ∙ ap (to_le_bytes w128) (c.reduced.ensures
    ∙ ap₂ (λ (a s : ℕ). (a + s) % 2 ^ 128)
    (carried_on c.self.inside.powers.r (key_r c.self.inside.key) (message_block c.args.last.now) (value_of c.self.inside.limbs)
    (value_of c.after_short-limbs.result) (div_ceil (length c.args.last.now) 16) c.self.invariant.0 c.after_short-limbs.ensures.value)
    c.key_halves-s.ensures.second))
