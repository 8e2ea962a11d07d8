-- What a pass knows of a board, at its turn.
use Rattle.std.proofs.Common.{◌≡◌, ℕ, ◌==◌, Bool, true, List, ◌++◌, Option, Some, None, refl, sym, ◌∙◌, subst, inl, inr, eq-eqb, eqb-true}
use Rattle.turn_lock.specs.Turns.{Known}
use Rattle.turn_lock.specs.PassLaws.{Meets}
use Rattle.board.specs.declared.entry.BoardEntry.{BoardEntry}
use Rattle.board.specs.declared.entry.Shape.{Shape}
use Rattle.board.specs.Shapes.{is_pad, has_queue, is_born, lists_of, width_born}
use Rattle.board.specs.Entries.{entries_of, birth, caller_of}
use Rattle.board.specs.Legal.{MaySubmit, MayManage, MayFinish, IsOpenAs, IsOpenPad, IsOpenQueue, IsOpen, is_shut, LegalBoard}
use Rattle.board.specs.PipelineHistory.{IsDrained}
use Rattle.board.specs.Others.{OthersCome, StaysKnown, OthersAlone, WorkLeavesKnown, WorkLeavesDrained, WorkLeavesOwn, OthersLeaveOpen, OthersLeaveSlips}
use Rattle.shared_board.specs.Knowledge.{HoldsAt}

-- what a board's value stands for
abbrev pub itself : {A : Type 0} → List (BoardEntry A) → List (BoardEntry A)
itself h = h

-- how many lists a pipeline was made with, told by its shape
lists_told : (b : Option (ℕ × Shape)) (n : ℕ) → is_born (λ shape. lists_of shape == n) b ≡ true → width_born b ≡ n
lists_told (Some (maker, shape)) n is = eqb-true (lists_of shape) n is
lists_told None n is = absurd cc

lists_are : (such : Shape → Bool) (b : Option (ℕ × Shape)) → is_born such b ≡ true → is_born (λ shape. lists_of shape == width_born b) b ≡ true
lists_are such (Some (maker, shape)) is = eq-eqb (lists_of shape) (lists_of shape) refl
lists_are such None is = absurd cc

-- is as before, where the pipeline is open as it was
pub same_width : {A : Type 0} (es after : List (BoardEntry A)) → ((such : Shape → Bool) → IsOpenAs such es → IsOpenAs such after) → IsOpenPad es → width_born (birth after) ≡ width_born (birth es)
same_width es after opened o =
    lists_told (birth after) (width_born (birth es)) (opened (λ shape. lists_of shape == width_born (birth es)) (lists_are is_pad (birth es) o.0, o.1)).0

module _ {A O : Type 0} (meaning : A → O) where
  abbrev BoardMeets : Known (BoardEntry A) → List (BoardEntry A) → Type 0
  BoardMeets k h = Meets caller_of (λ xs. LegalBoard xs) k h

  -- the board's law of what others leave
  pub record OthersLeave : Type 0 where
    pub alone : (h es : List (BoardEntry A)) (caller : ℕ) → OthersAlone h es caller
    pub mine : (h es : List (BoardEntry A)) (p caller : ℕ) → WorkLeavesKnown h es p caller
    pub drained : (h es : List (BoardEntry A)) (p caller : ℕ) → WorkLeavesDrained h es p caller
    pub own : (h es : List (BoardEntry A)) (caller : ℕ) → WorkLeavesOwn h es caller
    pub submitting : (h es : List (BoardEntry A)) (p caller : ℕ) → OthersLeaveOpen h es p caller
    pub slips : (h es : List (BoardEntry A)) (p caller n : ℕ) (out : O) → OthersLeaveSlips meaning h es p caller n out

  module _ (law : OthersLeave) (k : Known (BoardEntry A)) (h : List (BoardEntry A)) (m : BoardMeets k h) where
    -- the others' entries, as the law asks for them
    come : OthersCome k.seen m.others k.number
    come = (subst (λ xs. LegalBoard xs) m.goes_on m.kept, m.apart)

    back : (P : List (BoardEntry A) → Type 0) → P (k.seen ++ m.others) → P h
    back P p = subst P (sym m.goes_on) p

    known_here : (p : ℕ) → MayManage (entries_of p k.seen) k.number → StaysKnown k.seen h p k.number
    known_here p may = back (λ xs. StaysKnown k.seen xs p k.number) (law.mine k.seen m.others p k.number (law.alone k.seen m.others k.number come) may)

    open_here : (p : ℕ) → MayManage (entries_of p k.seen) k.number → IsOpen (entries_of p k.seen) → IsOpen (entries_of p h)
    open_here p may (inl o) = inl ((known_here p may).opened is_pad o)
    open_here p may (inr o) = inr ((known_here p may).opened has_queue o)

    pub holds_here : HoldsAt meaning k h
    holds_here = record {
      known = known_here;
      open_ = open_here;
      drained = λ p may o alone d. back (λ xs. IsDrained (entries_of p xs)) (law.drained k.seen m.others p k.number (law.alone k.seen m.others k.number come) may alone d);
      submits = λ p may. back (λ xs. MaySubmit (entries_of p xs) k.number) (law.submitting k.seen m.others p k.number come may).0;
      pad = λ p may o. back (λ xs. IsOpenPad (entries_of p xs)) ((law.submitting k.seen m.others p k.number come may).1 is_pad o);
      queue = λ p may o. back (λ xs. IsOpenQueue (entries_of p xs)) ((law.submitting k.seen m.others p k.number come may).1 has_queue o);
      slip = λ p n out may. back (λ xs. MayFinish meaning (entries_of p xs) k.number n out) (law.slips k.seen m.others p k.number n out come may);
      unshut = λ first open_. back (λ xs. is_shut xs ≡ is_shut k.seen) ((law.own k.seen m.others k.number (law.alone k.seen m.others k.number come)).1 first) ∙ open_;
    }
