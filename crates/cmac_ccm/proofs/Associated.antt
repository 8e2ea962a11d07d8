-- The associated bytes in the chain, and the whole chain of a request.
use Rattle.std.proofs.Common.{◌≡◌, ℕ, ◌+◌, ◌-◌, ◌*◌, ◌/◌, ◌%◌, ◌<◌, ◌≤◌, Bool, true, false, refl, sym, ap, ap₂, ◌∙◌, arith, ⊎_elim, List, [], ◌++◌, length, take, drop, replicate, append_assoc, length-append, length-drop, length-take}
use Rattle.std.specs.Prelude.{◌==◌, if◌then◌else◌}
use Rattle.std.specs.Int.{bytes_high_first}
use Rattle.std.proofs.lemmas.Bool.{cases_lt, cond-true, cond-false, ne_eqb, eq-eqb}
use Rattle.std.proofs.lemmas.List.{take_all, drop_all, take-append-drop, append-nil, length-replicate, drop-replicate}
use borrow.Rule.Slice.PartMut.{put_mid}
use Rattle.std_defs.specs.Blocks.{xor_blocks}
use Rattle.std_defs.specs.Ccm.{ccm_associated, ccm_first_block, ccm_formatted, ccm_chained}
use Rattle.std_defs.specs.Cmac.{zero_block, chained}
use Rattle.std_defs.specs.Gcm.{padded}
use Rattle.std_defs.proofs.Joined.{part}
use Rattle.cmac_ccm.proofs.Chains.{chained-append, chained-one, padded-length}

pub no_associated : (f : List ℕ → List ℕ) (s aad : List ℕ) → length aad ≡ 0 → s ≡ chained f s (ccm_associated aad) (length (ccm_associated aad) / 16)
unfolding ccm_associated chained
no_associated f s aad none =
    let nothing : ccm_associated aad ≡ [] = cond-true (length aad == 0) [] (padded (bytes_high_first 2 (length aad) ++ aad)) (eq-eqb (length aad) 0 none) in
    sym (ap (λ (t : List ℕ). chained f s t (length t / 16)) nothing)

some_associated : (aad : List ℕ) → 0 < length aad → ccm_associated aad ≡ padded (bytes_high_first 2 (length aad) ++ aad)
unfolding ccm_associated
some_associated aad some = cond-false (length aad == 0) [] (padded (bytes_high_first 2 (length aad) ++ aad)) (ne_eqb (length aad) 0 (λ e. omega arith))

associated-length : (aad : List ℕ) → length (ccm_associated aad) % 16 ≡ 0
unfolding ccm_associated
associated-length aad = by_test (length aad == 0)
  where
    by_test : (b : Bool) → length (if b then [] else padded (bytes_high_first 2 (length aad) ++ aad)) % 16 ≡ 0
    by_test true = refl
    by_test false = padded-length (bytes_high_first 2 (length aad) ++ aad)

-- the first block has the length and fourteen bytes, or all of them and zeros; the rest is padded by itself
module _ (be aad first : List ℕ) (front : ℕ) (two : length be ≡ 2) (some : 0 < length aad) (few : front ≤ 14) (within : front ≤ length aad)
    (all : length aad ≤ 14 → front ≡ length aad) (most : 14 ≤ length aad → front ≡ 14) (is : first ≡ (be ++ take front aad) ++ replicate (14 - front) 0) where
  first-length : length first ≡ 16
  first-length = omega (arith, ap length is, length-append (be ++ take front aad) (replicate (14 - front) 0), length-append be (take front aad), length-take front aad, length-replicate {A = ℕ} (14 - front) 0)

  short_case : length aad ≤ 14 → padded (be ++ aad) ≡ first ++ padded (drop front aad)
  unfolding padded
  short_case short =
      let same : front ≡ length aad = all short in
      let zeros : (16 - length (be ++ aad) % 16) % 16 ≡ 14 - front = omega (arith, length-append be aad) in
      let nothing : padded (drop front aad) ≡ [] = ap padded (drop_all front aad (omega arith)) in
      ap₂ (λ (t : List ℕ) (k : ℕ). (be ++ t) ++ replicate k 0) (sym (take_all front aad (omega arith))) zeros
      ∙ sym is ∙ sym (append-nil first) ∙ ap (λ (t : List ℕ). first ++ t) (sym nothing)

  long_case : 14 ≤ length aad → padded (be ++ aad) ≡ first ++ padded (drop front aad)
  unfolding padded
  long_case far =
      let same : front ≡ 14 = most far in
      let whole : first ≡ be ++ take front aad =
      is ∙ ap (λ (k : ℕ). (be ++ take front aad) ++ replicate k 0) (let e : 14 - front ≡ 0 = omega arith in e) ∙ append-nil (be ++ take front aad) in
      let split : be ++ aad ≡ first ++ drop front aad =
      ap (λ (t : List ℕ). be ++ t) (sym (take-append-drop front aad)) ∙ sym (append_assoc be (take front aad) (drop front aad)) ∙ ap (λ (t : List ℕ). t ++ drop front aad) (sym whole) in
      let zeros : (16 - length (be ++ aad) % 16) % 16 ≡ (16 - length (drop front aad) % 16) % 16 = omega (arith, ap length split, length-append first (drop front aad), first-length) in
      ap₂ (λ (t : List ℕ) (k : ℕ). t ++ replicate k 0) split zeros
      ∙ append_assoc first (drop front aad) (replicate ((16 - length (drop front aad) % 16) % 16) 0)

  pub first_and_rest : padded (be ++ aad) ≡ first ++ padded (drop front aad)
  first_and_rest = ⊎_elim (λ (h : length aad < 14). short_case (omega arith)) (λ (h : 14 ≤ length aad). long_case h) (cases_lt (length aad) 14)

pub with_associated : (f : List ℕ → List ℕ) (s aad be taken first mid new : List ℕ) (front k w : ℕ) → 0 < length aad → front ≤ 14 → front ≤ length aad
    → (length aad ≤ 14 → front ≡ length aad) → (14 ≤ length aad → front ≡ 14)
    → be ≡ bytes_high_first 2 (length aad) → taken ≡ take front aad → k ≡ front → first ≡ put_mid 2 k (be ++ replicate 14 0) taken → mid ≡ f (xor_blocks s first)
    → w ≡ length aad - front → new ≡ chained f mid (padded (take w (drop front aad))) (length (padded (take w (drop front aad))) / 16)
    → new ≡ chained f s (ccm_associated aad) (length (ccm_associated aad) / 16)
with_associated f s aad be taken first mid new front k w some few within all most is_be is_taken wide is_first is_mid rest_wide is_new =
    let two : length be ≡ 2 = ap length is_be in
    let zeros : List ℕ = replicate 14 0 in
    let is : first ≡ (be ++ take front aad) ++ replicate (14 - front) 0 =
    is_first ∙ ap (λ (t : List ℕ). put_mid 2 k (be ++ t) taken) (sym (take-append-drop front zeros))
    ∙ part 2 k be taken (take front zeros) (drop front zeros) two (omega (arith, length-take front zeros, length-replicate {A = ℕ} 14 0))
    ∙ ap₂ (λ (t z : List ℕ). (be ++ t) ++ z) is_taken (drop-replicate front 14 0) in
    let rest : List ℕ = padded (drop front aad) in
    let made : ccm_associated aad ≡ first ++ rest =
    some_associated aad some ∙ ap (λ (b : List ℕ). padded (b ++ aad)) (sym is_be) ∙ first_and_rest be aad first front two some few within all most is in
    let long : length first ≡ 16 = first-length be aad first front two some few within all most is in
    let count : length (first ++ rest) / 16 ≡ 1 + length rest / 16 = omega (arith, length-append first rest) in
    is_new ∙ ap (λ (t : List ℕ). chained f mid (padded t) (length (padded t) / 16)) (take_all w (drop front aad) (omega (arith, length-drop front aad)))
    ∙ ap (λ (c : List ℕ). chained f c rest (length rest / 16)) (is_mid ∙ sym (chained-one f s first long))
    ∙ sym (chained-append f s first rest 1 (length rest / 16) (omega arith))
    ∙ ap (chained f s (first ++ rest)) (sym count)
    ∙ sym (ap (λ (t : List ℕ). chained f s t (length t / 16)) made)

-- the three parts of what is authenticated
pub chained_is : (f : List ℕ → List ℕ) (t : ℕ) (iv aad text first one two three : List ℕ) → length first ≡ 16 → first ≡ ccm_first_block t iv aad text
    → one ≡ f (xor_blocks zero_block first) → two ≡ chained f one (ccm_associated aad) (length (ccm_associated aad) / 16)
    → three ≡ chained f two (padded text) (length (padded text) / 16) → three ≡ ccm_chained f t iv aad text
unfolding ccm_chained ccm_formatted
chained_is f t iv aad text first one two three long is_first is_one is_two is_three =
    let ab : List ℕ = ccm_associated aad in
    let pt : List ℕ = padded text in
    let a : ℕ = length ab / 16 in
    let p : ℕ = length pt / 16 in
    let front : length (first ++ ab) ≡ 16 * (1 + a) = omega (arith, length-append first ab, associated-length aad) in
    let count : length ((first ++ ab) ++ pt) / 16 ≡ 1 + a + p = omega (arith, length-append (first ++ ab) pt, padded-length text) in
    is_three
    ∙ ap (λ (c : List ℕ). chained f c pt p)
    (is_two ∙ ap (λ (c : List ℕ). chained f c ab a) (is_one ∙ sym (chained-one f zero_block first long)) ∙ sym (chained-append f zero_block first ab 1 a (omega arith)))
    ∙ sym (chained-append f zero_block (first ++ ab) pt (1 + a) p front)
    ∙ ap (chained f zero_block ((first ++ ab) ++ pt)) (sym count)
    ∙ ap (λ (b : List ℕ). chained f zero_block ((b ++ ab) ++ pt) (length ((b ++ ab) ++ pt) / 16)) is_first
