use Rattle.std.proofs.Common.{◌∙◌, ℕ, zero, suc, ◌^◌, ◌<◌, [], ◌∷◌, ap, arith, slice_index}
use Rattle.std_defs.specs.Poly1305.{clamped, key_r}
use Rattle.poly1305.proofs.tag.Poly1305.new.Goals as goal

zeros_below : (k : ℕ) → slice_index (0 ∷ 0 ∷ 0 ∷ 0 ∷ 0 ∷ []) k < 2 ^ 29
zeros_below zero = omega arith
zeros_below (suc zero) = omega arith
zeros_below (suc (suc zero)) = omega arith
zeros_below (suc (suc (suc zero))) = omega arith
zeros_below (suc (suc (suc (suc zero)))) = omega arith
zeros_below (suc (suc (suc (suc (suc k))))) = omega arith

pub invariant_of-result : goal.invariant_of-result
unfolding key_r
invariant_of-result c = (c.new.ensures ∙ ap clamped c.key_halves-r.ensures.first, zeros_below)
