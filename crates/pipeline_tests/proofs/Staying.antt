-- What a caller knows of a board after a call, by the board's laws.
use Rattle.std.proofs.Common.{◌≡◌, ◌≢◌, ℕ, Bool, true, false, List, [], ◌∷◌, ◌++◌, ◌⊎◌, inl, inr, subst}
use Rattle.std.specs.Prelude.{Result, Ok, Err, MatchResult, MatchBool}
use Rattle.board.specs.declared.entry.Shape.{Shape}
use Rattle.board.specs.declared.entry.BoardEntry.{BoardEntry}
use Rattle.board.specs.declared.entry.BoardEntry.TheVariants.{Born}
use Rattle.board.specs.Entries.{entries_of, is_close, caller_of}
use Rattle.board.specs.Legal.{MayFinish, LegalBoard}
use Rattle.board.specs.PipelineHistory.{Opens, StaysOpen, StaysManaged, SlipStays, IsOpenFor}

-- the history of a board after a call that appends one entry or none
abbrev pub MayAppend : {X : Type 0} → List X → List X → X → Type 0
MayAppend old new e = (new ≡ old ++ e ∷ []) ⊎ (new ≡ old)

pub drained : {X E : Type 0} (old new : List X) (e : X) (r : Result Bool E) → MatchResult r (λ all. MatchBool all (new ≡ old ++ e ∷ []) (new ≡ old)) (λ _. new ≡ old) → MayAppend old new e
drained old new e (Ok true) h = inl h
drained old new e (Ok false) h = inr h
drained old new e (Err x) h = inr h

pub done : {X T E : Type 0} (old new : List X) (e : X) (r : Result T E) → MatchResult r (λ _. new ≡ old ++ e ∷ []) (λ _. new ≡ old) → MayAppend old new e
done old new e (Ok t) h = inl h
done old new e (Err x) h = inr h

module _ {A : Type 0} (such : Shape → Bool) (born : (h : List (BoardEntry A)) (caller p : ℕ) (shape : Shape) → Opens such h caller p shape) where
  pub open_at_birth : (old new : List (BoardEntry A)) (caller p : ℕ) (shape : Shape) → new ≡ old ++ Born caller p shape ∷ [] → LegalBoard new → such shape ≡ true → IsOpenFor such new p caller
  open_at_birth old new caller p shape made legal is = rw made (born old caller p shape (subst (λ h. LegalBoard h) made legal) is)

module _ {A : Type 0} (such : Shape → Bool) (managed : (h : List (BoardEntry A)) (e : BoardEntry A) (p caller : ℕ) → StaysManaged h e p caller) (open_ : (h : List (BoardEntry A)) (e : BoardEntry A) (p : ℕ) → StaysOpen such h e p) where
  pub open_after : (old new : List (BoardEntry A)) (e : BoardEntry A) (p caller : ℕ) → MayAppend old new e → is_close e ≡ false → IsOpenFor such old p caller → IsOpenFor such new p caller
  open_after old new e p caller (inl more) c o = rw more (open_ old e p o.0 c, managed old e p caller o.1)
  open_after old new e p caller (inr same) c o = rw same o

module _ {A O : Type 0} (meaning : A → O) (stays : (h : List (BoardEntry A)) (e : BoardEntry A) (p caller n : ℕ) (out : O) → SlipStays meaning h e p caller n out) where
  -- a job that another caller took stays its own
  pub slip_after : (old new : List (BoardEntry A)) (e : BoardEntry A) (p caller n : ℕ) (out : O) → MayAppend old new e → LegalBoard new → caller_of e ≢ caller → MayFinish meaning (entries_of p old) caller n out → MayFinish meaning (entries_of p new) caller n out
  slip_after old new e p caller n out (inl more) legal other m = rw more (stays old e p caller n out (subst (λ h. LegalBoard h) more legal) other m)
  slip_after old new e p caller n out (inr same) legal other m = rw same m
