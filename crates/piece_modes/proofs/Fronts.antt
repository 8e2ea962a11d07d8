-- A walk over the first bytes of a text.
use Rattle.std.proofs.Common.{◌≡◌, ℕ, zero, suc, ◌-◌, ◌<◌, ◌≤◌, min, List, [], ◌++◌, length, take, drop, refl, sym, ap, subst, ◌∙◌, arith, ⊎_elim, length-append, length-drop, take_at, drop_at}
use Rattle.std.specs.List.{concat}
use Rattle.std.proofs.lemmas.Bool.{cases_lt}
use Rattle.std.proofs.lemmas.List.{take_min, drop_all}
use Rattle.piece_modes.specs.Front.{GoesOver}
use Rattle.piece_modes.specs.Pieces.{parts_of, text_over}
use Rattle.piece_modes.specs.declared.piece.PieceMut.{PieceMut}
use Rattle.piece_modes.proofs.Parts.{text_is}

pub some_left : (n : ℕ) → (n ≡ 0 → ⊥) → 0 < n
some_left zero not = absurd (not refl)
some_left (suc n) not = omega arith

-- a step over the first `count` bytes of a piece
pub goes_step : {W : Type 0} (makes : W → List ℕ → List ℕ → W → Type 0) (u v : W) (m count : ℕ) (piece front made : List ℕ)
    → 0 < m → count ≡ min m (length piece) → length front ≡ count → makes u (take count piece) front v → made ≡ front ++ drop count piece
    → GoesOver makes u m piece made v (m - count)
goes_step {W} makes u v m count piece front made some is long goes put =
    let total : length made ≡ length piece = omega (arith, ap length put, length-append front (drop count piece), length-drop count piece, long, is) in
    let old : take count piece ≡ take m piece = ap (λ (j : ℕ). take j piece) is ∙ take_min m piece in
    let new : front ≡ take m made =
    sym (take_at front (drop count piece) count long) ∙ ap (take count) (sym put) ∙ ap (λ (j : ℕ). take j made) (is ∙ ap (min m) (sym total)) ∙ take_min m made in
    record {
      left = omega (arith, is);
      long = total;
      rest = ⊎_elim
          (λ (h : m < length piece).
          let all : count ≡ m = omega (arith, is, h) in
          ap (drop m) put ∙ drop_at front (drop count piece) m (omega (arith, long, all)) ∙ ap (λ (j : ℕ). drop j piece) all)
          (λ (h : length piece ≤ m). drop_all m made (omega (arith, total, h)) ∙ sym (drop_all m piece h))
          (cases_lt m (length piece));
      stood = λ none. absurd (omega (arith, none, some));
      gone = λ _. subst (λ (x : List ℕ). makes u x (take m made) v) old (subst (λ (y : List ℕ). makes u (take count piece) y v) new goes);
    }

-- what a walk over all pieces made of their texts
module _ {W : Type 0} (makes : W → List ℕ → List ℕ → W → Type 0) (u v : W) (n k : ℕ) (old new : List PieceMut)
    (went : GoesOver makes u n (concat (parts_of old)) (concat (parts_of new)) v k) where
  pub front_made : makes u [] [] u → makes u (take n (text_over old)) (take n (text_over new)) v
  front_made stays =
      subst (λ (x : List ℕ). makes u (take n x) (take n (text_over new)) v) (sym (text_is old))
      (subst (λ (y : List ℕ). makes u (take n (concat (parts_of old))) (take n y) v) (sym (text_is new))
      (⊎_elim
      (λ (h : 0 < n). went.gone h)
      (λ (h : n ≤ 0).
      let none : n ≡ 0 = omega (arith, h) in
      subst (λ (j : ℕ). makes u (take j (concat (parts_of old))) (take j (concat (parts_of new))) v) (sym none)
      (subst (λ (z : W). makes u [] [] z) (sym (went.stood none)) stays))
      (cases_lt 0 n)))

  pub front_rest : drop n (text_over new) ≡ drop n (text_over old)
  front_rest = ap (drop n) (text_is new) ∙ went.rest ∙ sym (ap (drop n) (text_is old))
