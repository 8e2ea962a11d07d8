-- Turns of calls that are refused for more than one reason, and of one that passes on what it finds.
use Rattle.std.proofs.Common.{◌≡◌, ℕ, Bool, true, false, List, [], ◌∷◌, ◌++◌, refl, subst, Ok, Err}
use Rattle.std.specs.Prelude.{Result, OnOk, IfErr, MatchResult, MatchBool}
use Rattle.std.specs.Result.{is_ok}
use Rattle.turn_lock.specs.Turns.{Known, sees}
use Rattle.turn_lock.specs.Passes.{Added}
use Rattle.turn_lock.specs.PassLaws.{Meets, AtTurn, Enters, Leaves}
use Rattle.turn_lock.specs.TurnLaws.{one, leaves}

-- A call of the pass k, whose number is n, at its turn on h, which the value's method found as `old` and left as y.
module _ {E : Type 0} (by : E → ℕ) (Kept : List E → Type 0) {T : Type 0} (told : T → List E) (k m l : Known E) (h old : List E) (y : T) (n : ℕ) (own : n ≡ k.number) (from : old ≡ h) (same : m ≡ sees k h) (met : Meets by Kept k h) (kept : Kept (told y)) where
  -- it made an entry with an ask in it, of a caller who is allowed it, or was refused for one of two reasons
  pub refused_turn : {X F I : Type 0} (r : Result X F) (f : X → I → ℕ → List E → E) (V : I → Type 0) (P : List E → X → Type 0) (Allowed : List E → ℕ → Type 0) (Q : List E → F → Type 0) (R : List E → ℕ → F → Type 0) (added : Bool) → added ≡ is_ok r
      → MatchResult r (λ v. P old v × ((ask : I) × V ask × (told y ≡ old ++ f v ask n old ∷ []))) (λ _. told y ≡ old) → OnOk r (Allowed old n) → IfErr r (λ e. Q old e) → IfErr r (λ e. R old n e) → Added told by m y added l
      → AtTurn by Kept k (λ x. MatchResult r (λ v. P x v × Allowed x k.number × ((ask : I) × V ask × Enters Kept k x (f v ask k.number x) l)) (λ e. Q x e × R x k.number e × Leaves k x l))
  refused_turn (Ok v) f V P Allowed Q R added flag did allowed first second gave =
      (h, met, (subst (λ xs. P xs v) from did.0, subst (λ xs. Allowed xs k.number) from (subst (Allowed old) own allowed), (did.1.0, did.1.1, one by Kept told k m l h old y n own from same met kept (f v did.1.0) added flag did.1.2 gave)))
  refused_turn (Err e) f V P Allowed Q R added flag did allowed first second gave =
      (h, met, (subst (λ xs. Q xs e) from first, subst (λ xs. R xs k.number e) from (subst (λ j. R old j e) own second), leaves by Kept told k m l h y same added flag gave))

  -- it made an entry of a pipeline that it found, or found none
  pub passed_turn : (r : Bool) (f : ℕ → ℕ → List E → E) (C : List E → ℕ → Type 0) (N : List E → Type 0)
      → MatchBool r ((p : ℕ) × C old p × (told y ≡ old ++ f p n old ∷ [])) (N old × (told y ≡ old)) → Added told by m y r l
      → AtTurn by Kept k (λ x. MatchBool r ((p : ℕ) × C x p × Enters Kept k x (f p k.number x) l) (N x × Leaves k x l))
  passed_turn true f C N did gave =
      (h, met, (did.0, subst (λ xs. C xs did.0) from did.1, one by Kept told k m l h old y n own from same met kept (f did.0) true refl did.2 gave))
  passed_turn false f C N did gave = (h, met, (subst N from did.0, leaves by Kept told k m l h y same false refl gave))

  -- the same, at a turn at which something else was found to be so
  pub passed_after : (F : List E → Type 0) → F old → (r : Bool) (f : ℕ → ℕ → List E → E) (C : List E → ℕ → Type 0) (N : List E → Type 0)
      → MatchBool r ((p : ℕ) × C old p × (told y ≡ old ++ f p n old ∷ [])) (N old × (told y ≡ old)) → Added told by m y r l
      → AtTurn by Kept k (λ x. MatchBool r ((p : ℕ) × C x p × F x × Enters Kept k x (f p k.number x) l) (N x × F x × Leaves k x l))
  passed_after F so true f C N did gave =
      (h, met, (did.0, subst (λ xs. C xs did.0) from did.1, subst F from so, one by Kept told k m l h old y n own from same met kept (f did.0) true refl did.2 gave))
  passed_after F so false f C N did gave = (h, met, (subst N from did.0, subst F from so, leaves by Kept told k m l h y same false refl gave))
