use Rattle.std.proofs.Common.{◌≡◌, ◌*◌, take}
use Rattle.std_defs.specs.Gcm.{padded_blocks}
use Rattle.std_defs.proofs.Horner.{horner}
use Rattle.ghash_field.proofs.hash.carried_on.Given as goal

abbrev pub invariant-loop-i : goal.invariant-loop-i
invariant-loop-i g l = l.y ≡ horner (g.K.GhashKey.block l.key) l.fn.y (take (8 * l.i) (padded_blocks l.bytes))

abbrev pub invariant-loop-i-2 : goal.invariant-loop-i-2
invariant-loop-i-2 g l = l.y ≡ horner (g.K.GhashKey.block l.key) l.fn.y (take l.i (padded_blocks l.bytes))
