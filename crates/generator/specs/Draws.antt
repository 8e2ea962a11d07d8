-- Draws of SplitMix64 (Steele, Lea and Flood: Fast Splittable Pseudorandom Number Generators, 2014), as the kit's
-- rand_xoshiro defines it: `mix_u64` of a state is a number of 64 bits and the next state.
use Rattle.std.specs.Prelude.{ℕ, ◌+◌, ◌/◌, List}
use Rattle.std.specs.Int.{w64, to_be_bytes}
use Rattle.rand_core.specs.Steps.{first_bytes, word_bytes}
use Rattle.rand_xoshiro.specs.SplitMix64.{mix_u64}

-- n bytes from a state on, and the state after them: the draws joined, each with its high byte first, and cut to n
-- bytes
abbrev pub drawn : ℕ → ℕ → List ℕ × ℕ
drawn state n = first_bytes n (word_bytes (to_be_bytes w64) mix_u64 ((n + 7) / 8) state)
