-- The end of a data unit: the last whole block and the bytes behind it.
use Rattle.std.proofs.Common.{◌≡◌, ℕ, ◌-◌, ◌<◌, ◌≤◌, sym, ap, ap₂, ◌∙◌, arith, List, [], ◌++◌, length, take, drop, append_assoc, length-append, length-drop, length-take, zero-add}
use Rattle.std.specs.List.{copy_within}
use Rattle.std.proofs.lemmas.List.{take-take, take_at, drop_at, take-append-le, drop-append-le, take-append-drop, append-nil}
use Rattle.std.proofs.lemmas.List.Edits.{paste_all}
use borrow.Rule.Slice.PartMut.{put_mid}
use Rattle.std_defs.specs.Xts.{with_stealing}
use Rattle.std_defs.proofs.Joined.{part}

-- the bytes behind the first block come to the front, and then what stood there comes behind the first block
pub exchanged : (text moved back : List ℕ) (k : ℕ) → 16 ≤ length text → length text < 32 → moved ≡ copy_within text 16 (length text) 0
    → back ≡ take (length text - 16) (take 16 text) → k ≡ length text - 16
    → put_mid 16 k moved back ≡ (drop 16 text ++ drop (length text - 16) (take 16 text)) ++ take (length text - 16) text
exchanged text moved back k block less is_moved is_back wide =
    let r : ℕ = length text - 16 in
    let rest : length (drop 16 text) ≡ r = omega (arith, length-drop 16 text) in
    let front : length (take 16 text) ≡ 16 = omega (arith, length-take 16 text) in
    let left : drop r text ≡ drop r (take 16 text) ++ drop 16 text =
    ap (drop r) (sym (take-append-drop 16 text)) ∙ drop-append-le r (take 16 text) (drop 16 text) (omega arith) in
    let pasted : moved ≡ drop 16 text ++ (drop r (take 16 text) ++ drop 16 text) =
    is_moved ∙ paste_all text 0 (drop 16 text) r (sym rest)
    ∙ ap (λ (t : List ℕ). drop 16 text ++ t) (ap (λ (n : ℕ). drop n text) (zero-add r) ∙ left) in
    let whole : length (drop 16 text ++ drop r (take 16 text)) ≡ 16 = omega (arith, length-append (drop 16 text) (drop r (take 16 text)), length-drop r (take 16 text)) in
    let parts : moved ≡ (drop 16 text ++ drop r (take 16 text)) ++ (drop 16 text ++ []) =
    pasted ∙ sym (append_assoc (drop 16 text) (drop r (take 16 text)) (drop 16 text))
    ∙ ap (λ (t : List ℕ). (drop 16 text ++ drop r (take 16 text)) ++ t) (sym (append-nil (drop 16 text))) in
    ap (λ (t : List ℕ). put_mid 16 k t back) parts
    ∙ part 16 k (drop 16 text ++ drop r (take 16 text)) back (drop 16 text) [] whole (omega arith)
    ∙ append-nil ((drop 16 text ++ drop r (take 16 text)) ++ back)
    ∙ ap (λ (t : List ℕ). (drop 16 text ++ drop r (take 16 text)) ++ t) (is_back ∙ take-take r 16 text (omega arith))

-- a block turned, the exchange, and the block turned again
pub stolen : (first second : List ℕ → List ℕ) (text cc once both last : List ℕ) → ((b : List ℕ) → length (first b) ≡ 16) → 16 ≤ length text → length text < 32
    → cc ≡ first (take 16 text) → once ≡ cc ++ drop 16 text → both ≡ (drop 16 once ++ drop (length once - 16) (take 16 once)) ++ take (length once - 16) once
    → last ≡ second (take 16 both) → last ++ drop 16 both ≡ with_stealing first second text
unfolding with_stealing
stolen first second text cc once both last of_block block less is_cc is_once is_both is_last =
    let b : ℕ = length text - 16 in
    let long : length cc ≡ 16 = ap length is_cc ∙ of_block (take 16 text) in
    let rest : length (drop 16 text) ≡ b = omega (arith, length-drop 16 text) in
    let more : length once - 16 ≡ b = omega (arith, ap length is_once, length-append cc (drop 16 text)) in
    let behind : drop 16 once ≡ drop 16 text = ap (drop 16) is_once ∙ drop_at cc (drop 16 text) 16 long in
    let front : take 16 once ≡ cc = ap (take 16) is_once ∙ take_at cc (drop 16 text) 16 long in
    let kept : take b once ≡ take b cc = ap (take b) is_once ∙ take-append-le b cc (drop 16 text) (omega arith) in
    let is : both ≡ (drop 16 text ++ drop b cc) ++ take b cc =
    is_both ∙ ap₂ (λ (x y : List ℕ). x ++ y) (ap₂ (λ (x y : List ℕ). x ++ y) behind (ap₂ (λ (n : ℕ) (t : List ℕ). drop n t) more front)) (ap (λ (n : ℕ). take n once) more ∙ kept) in
    let whole : length (drop 16 text ++ drop b cc) ≡ 16 = omega (arith, length-append (drop 16 text) (drop b cc), length-drop b cc) in
    ap₂ (λ (x y : List ℕ). x ++ y)
    (is_last ∙ ap second (ap (take 16) is ∙ take_at (drop 16 text ++ drop b cc) (take b cc) 16 whole))
    (ap (drop 16) is ∙ drop_at (drop 16 text ++ drop b cc) (take b cc) 16 whole)
    ∙ ap (λ (t : List ℕ). second (drop 16 text ++ drop b t) ++ take b t) is_cc
