use Rattle.std.proofs.Common.{◌≡◌, ℕ, suc, ◌+◌, List, [], ◌∷◌, length, refl, ap}
use Rattle.padata_core.specs.Pad.{done_from}

-- as many completions as outcomes
pub length-done : {F : Type 0} (n : ℕ) (outcomes : List F) → length (done_from n outcomes) ≡ length outcomes
length-done n [] = refl
length-done n (o ∷ outcomes) = ap suc (length-done (n + 1) outcomes)
