-- A shared pipeline, and makers that have finished.
use Rattle.std.proofs.Common.{◌≡◌, ℕ, Bool, true, false, ◌||◌, List, [], ◌∷◌, ◌++◌, length, Option, Some, None, is_some, refl, sym, ◌∙◌, ap, subst, append-nil, append_assoc, inr}
use Rattle.std.specs.Prelude.{◌-◌, ◌^◌}
use Rattle.std.specs.List.{cons_option, filter_map}
use Rattle.std.proofs.lemmas.Bool.{or_left}
use Rattle.std.proofs.lemmas.List.Elements.{filter-append, filter_map-append}
use Rattle.std.proofs.lemmas.List.Folds.{list_any-append}
use Rattle.board.specs.declared.entry.Shape.{Shape}
use Rattle.board.specs.declared.entry.BoardEntry.{BoardEntry}
use Rattle.board.specs.declared.entry.BoardEntry.TheVariants.{Born, Submit, Take, Finish, Enq, Deq, Done, Hold, Go, Collect, Close, Share, Mask, Shut}
use Rattle.board.specs.Shapes.{is_born, width_born}
use Rattle.board.specs.Entries.{is_of, entries_of, submissions, first, birth_in, birth, masked_in, mask, last_or, is_close, is_closed, is_share, is_shared, front, caller_of}
use Rattle.board.specs.Legal.{IsRightFor, IsOpenAs, MayManage}
use Rattle.board.specs.Order.{AreRightForAfter}
use Rattle.board.specs.SharedPipelines.{SharedStays, MakersFinish}
use Rattle.board.proofs.Transfer.{each_right}
use Rattle.board.proofs.Closed.{closed_end}

both : (b : Bool) → b ≡ true → b ≡ false → ⊥
both b is isnt = let bad : true ≡ false = sym is ∙ isnt in cc

first_left : {X : Type 0} (xs ys : List X) → is_some (first xs) ≡ true → first (xs ++ ys) ≡ first xs
first_left [] ys some = absurd cc
first_left (x ∷ xs) ys some = refl

some_born : (such : Shape → Bool) (b : Option (ℕ × Shape)) → is_born such b ≡ true → is_some b ≡ true
some_born such (Some x) is = refl
some_born such None is = absurd cc

module _ {A : Type 0} where
  rights : (before xs ys : List (BoardEntry A)) → AreRightForAfter before (xs ++ ys) → AreRightForAfter (before ++ xs) ys
  rights before [] ys r = rw (append-nil before) r
  rights before (x ∷ xs) ys r = subst (λ b. AreRightForAfter b ys) (append_assoc before (x ∷ []) xs) (rights (before ++ x ∷ []) xs ys r.1)

  -- what is shared is neither closed nor masked
  not_undone : (es : List (BoardEntry A)) (e : BoardEntry A) → is_shared es ≡ true → IsRightFor es e → (is_close e ≡ false) × (masked_in e ≡ None)
  not_undone es (Born caller pipe shape) s r = (refl, refl)
  not_undone es (Submit caller pipe number ask) s r = (refl, refl)
  not_undone es (Take caller pipe number) s r = (refl, refl)
  not_undone es (Finish caller pipe number) s r = (refl, refl)
  not_undone es (Enq caller pipe ask backlog answer) s r = (refl, refl)
  not_undone es (Deq caller pipe number started) s r = (refl, refl)
  not_undone es (Done caller pipe number) s r = (refl, refl)
  not_undone es (Hold caller pipe) s r = (refl, refl)
  not_undone es (Go caller pipe) s r = (refl, refl)
  not_undone es (Collect caller pipe to) s r = (refl, refl)
  not_undone es (Close caller pipe) s r = absurd (both (is_shared es) s r.2)
  not_undone es (Share caller pipe) s r = (refl, refl)
  not_undone es (Mask caller pipe bits) s r = absurd (both (is_shared es) s r.2)
  not_undone es (Shut caller) s r = absurd r

  shared_more : (es more : List (BoardEntry A)) → is_shared es ≡ true → is_shared (es ++ more) ≡ true
  shared_more es more s = list_any-append is_share es more ∙ or_left (is_shared es) (is_shared more) s

  none_undone : (es more : List (BoardEntry A)) → is_shared es ≡ true → AreRightForAfter es more → (is_closed more ≡ false) × (filter_map masked_in more ≡ [])
  none_undone es [] s r = (refl, refl)
  none_undone es (e ∷ more) s r =
      let this = not_undone es e s r.0 in
      let later = none_undone (es ++ e ∷ []) more (shared_more es (e ∷ []) s) r.1 in
      (ap (λ b. b || is_closed more) this.0 ∙ later.0, ap (λ o. cons_option o (filter_map masked_in more)) this.1 ∙ later.1)

  birth_more : (es more : List (BoardEntry A)) → is_some (birth es) ≡ true → birth (es ++ more) ≡ birth es
  birth_more es more some = ap first (filter_map-append birth_in es more) ∙ first_left (filter_map birth_in es) (filter_map birth_in more) some

  stays : (such : Shape → Bool) (es more : List (BoardEntry A)) → AreRightForAfter [] (es ++ more) → is_shared es ≡ true → IsOpenAs such es
      → (is_shared (es ++ more) ≡ true) × IsOpenAs such (es ++ more) × (mask (es ++ more) ≡ mask es)
  stays such es more r s o =
      let undone = none_undone es more s (rights [] es more r) in
      let born = birth_more es more (some_born such (birth es) o.0) in (
        shared_more es more s,
        (ap (is_born such) born ∙ o.0, list_any-append is_close es more ∙ (ap (λ b. b || is_closed more) o.1 ∙ undone.0)),
        ap (λ b. last_or (2 ^ width_born b - 1) (filter_map masked_in (es ++ more))) born
            ∙ ap (last_or (2 ^ width_born (birth es) - 1)) (filter_map-append masked_in es more ∙ (ap (λ xs. filter_map masked_in es ++ xs) undone.1 ∙ append-nil (filter_map masked_in es))),
      )

  pub shared_stays : (such : Shape → Bool) (h es : List (BoardEntry A)) (p : ℕ) → SharedStays such h es p
  shared_stays such h es p legal s o =
      let parts : entries_of p (h ++ es) ≡ entries_of p h ++ entries_of p es = filter-append (is_of p) h es in
      let r : AreRightForAfter [] (entries_of p h ++ entries_of p es) = subst (AreRightForAfter []) parts (each_right [] (h ++ es) p legal) in
      let is = stays such (entries_of p h) (entries_of p es) r s o in
      record {
        shared = ap is_shared parts ∙ is.0;
        opened = subst (IsOpenAs such) (sym parts) is.1;
        masked = ap mask parts ∙ is.2;
        submits = λ caller may. (may.0, inr (ap is_shared parts ∙ is.0));
      }

  -- ---- makers that have finished

  first_made : (e : BoardEntry A) (es : List (BoardEntry A)) → IsRightFor [] e → MayManage (e ∷ es) (caller_of e)
  first_made (Born caller pipe shape) es r = (r.0, refl)
  first_made (Submit caller pipe number ask) es r = absurd cc
  first_made (Take caller pipe number) es r = absurd cc
  first_made (Finish caller pipe number) es r = absurd cc
  first_made (Enq caller pipe ask backlog answer) es r = absurd cc
  first_made (Deq caller pipe number started) es r = absurd cc
  first_made (Done caller pipe number) es r = absurd cc
  first_made (Hold caller pipe) es r = absurd cc
  first_made (Go caller pipe) es r = absurd cc
  first_made (Collect caller pipe to) es r = absurd r.0.1
  first_made (Close caller pipe) es r = absurd r.0.1
  first_made (Share caller pipe) es r = absurd r.0.1
  first_made (Mask caller pipe bits) es r = absurd r.0.1
  first_made (Shut caller) es r = absurd r

  finished_or : (es : List (BoardEntry A)) → AreRightForAfter [] es
      → ((caller : ℕ) → MayManage es caller → is_closed es ≡ false → front es ≡ length (submissions es)) → front es ≡ length (submissions es)
  finished_or [] r own = refl
  finished_or (e ∷ es) r own = by_closed (is_closed (e ∷ es)) refl
    where
      by_closed : (t : Bool) → is_closed (e ∷ es) ≡ t → front (e ∷ es) ≡ length (submissions (e ∷ es))
      by_closed true shut = closed_end (e ∷ es) r shut
      by_closed false open_ = own (caller_of e) (first_made e es r.0) open_

  pub makers_finish : (h : List (BoardEntry A)) → MakersFinish h
  makers_finish h legal own p = finished_or (entries_of p h) (each_right [] h p legal) (own p)
