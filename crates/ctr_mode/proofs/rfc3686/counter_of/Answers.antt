use Rattle.std.proofs.Common.{◌≡◌, ℕ, List, [], ◌∷◌, ◌++◌, length, arith, ◌∙◌, refl}
use Rattle.std.proofs.lemmas.Grind.{common_steps}
use borrow.Rule.Slice.PartMut.{put_mid}
use Rattle.ctr_mode.proofs.rfc3686.counter_of.Goals as goal

-- the part from place a, of k elements, is written
joined : (a k : ℕ) (x y z w : List ℕ) → length x ≡ a → length z ≡ k → put_mid a k (x ++ (z ++ w)) y ≡ x ++ y ++ w
joined a k x y z w long_x long_z = grind (arith, common_steps)

pub returns : goal.returns
returns c =
    joined 4 8 c.copy_from_slice.new.self c.copy_from_slice-2.new.self (0 ∷ 0 ∷ 0 ∷ 0 ∷ 0 ∷ 0 ∷ 0 ∷ 0 ∷ []) (0 ∷ 0 ∷ 0 ∷ 1 ∷ []) c.copy_from_slice.ensures.len refl
    ∙ rw (c.copy_from_slice.ensures.after, c.copy_from_slice-2.ensures.after) refl
