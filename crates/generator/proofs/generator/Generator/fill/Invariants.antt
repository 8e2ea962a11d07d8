use Rattle.std.proofs.Common.{◌≡◌, ◌*◌, take, w64}
use Rattle.std.specs.Int.{to_be_bytes}
use Rattle.rand_core.specs.Steps.{word_bytes}
use Rattle.rand_xoshiro.specs.SplitMix64.{mix_u64}
use Rattle.generator.proofs.generator.Generator.fill.Given as goal

abbrev pub invariant-loop-i : goal.invariant-loop-i
invariant-loop-i l = (take (8 * l.i) l.bytes, l.self) ≡ word_bytes (to_be_bytes w64) mix_u64 l.i l.fn.self
