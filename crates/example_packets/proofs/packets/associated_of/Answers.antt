use Rattle.std.proofs.Common.{◌≡◌, ℕ, List, [], ◌∷◌, ◌++◌, length, arith, ◌∙◌, refl}
use Rattle.std.proofs.lemmas.Grind.{common_steps}
use borrow.Rule.Slice.PartMut.{put_mid}
use Rattle.example_packets.proofs.packets.associated_of.Goals as goal

-- the part from place a to the end is written
behind : (a k : ℕ) (x y z : List ℕ) → length x ≡ a → length z ≡ k → put_mid a k (x ++ z) y ≡ x ++ y
behind a k x y z long_x long_z = grind (arith, common_steps)

pub returns : goal.returns
returns c =
    behind 12 8 c.copy_from_slice.new.self c.copy_from_slice-2.new.self (0 ∷ 0 ∷ 0 ∷ 0 ∷ 0 ∷ 0 ∷ 0 ∷ 0 ∷ []) c.copy_from_slice.ensures.len refl
    ∙ rw (c.copy_from_slice.ensures.after, c.copy_from_slice-2.ensures.after) refl
