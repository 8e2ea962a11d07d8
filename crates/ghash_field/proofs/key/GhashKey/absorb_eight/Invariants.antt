use Rattle.std.proofs.Common.{◌≡◌, take}
use Rattle.std_defs.specs.Gcm.{padded_blocks}
use Rattle.std_defs.proofs.Horner.{horner}
use Rattle.ghash_field.proofs.key.GhashKey.absorb_eight.Given as goal

abbrev pub invariant-loop-i : goal.invariant-loop-i
invariant-loop-i g l = l.y ≡ horner (g.Self.GhashKey.block l.self) l.fn.y (take l.i (padded_blocks l.eight))
