use Rattle.std.proofs.Common.{◌≡◌, length}
use Rattle.ghash_field.proofs.Transposed.{Done}
use Rattle.ghash_field.proofs.transposition.interleaved.Given as goal

abbrev pub invariant-loop-i : goal.invariant-loop-i
invariant-loop-i l = record { long : length l.turned ≡ 16; done : Done l.i l.rows l.turned }
