use Rattle.std.proofs.Common.{◌≡◌, ℕ, List, [], ◌∷◌, ◌++◌, length, arith, ◌∙◌, refl, ap, ap₂}
use Rattle.std.proofs.lemmas.Grind.{common_steps}
use borrow.Rule.Slice.PartMut.{put_mid}
use Rattle.std_defs.proofs.Halves.{block_bytes-halves, le_of_swapped}
use Rattle.std.specs.Int.{to_le_bytes, w64}
use Rattle.std_defs.proofs.conversions.block_bytes.Goals as goal

-- the part from place a to the end is written
behind : (a k : ℕ) (x y z : List ℕ) → length x ≡ a → length z ≡ k → put_mid a k (x ++ z) y ≡ x ++ y
behind a k x y z long_x long_z = grind (arith, common_steps)

pub returns : goal.returns
returns c =
    behind 8 8 c.copy_from_slice.new.self c.copy_from_slice-2.new.self (0 ∷ 0 ∷ 0 ∷ 0 ∷ 0 ∷ 0 ∷ 0 ∷ 0 ∷ []) c.copy_from_slice.ensures.len refl
    ∙ ap₂ (λ (x y : List ℕ). x ++ y)
    (c.copy_from_slice.ensures.after ∙ c.to_le_bytes.ensures ∙ ap (to_le_bytes w64) c.swap_bytes.ensures ∙ le_of_swapped _)
    (c.copy_from_slice-2.ensures.after ∙ c.to_le_bytes-2.ensures ∙ ap (to_le_bytes w64) c.swap_bytes-2.ensures ∙ le_of_swapped _)
    ∙ block_bytes-halves c.args.block
