-- What a pipeline accepted: entry by entry, and beside work alone.
use Rattle.std.proofs.Common.{◌≡◌, ◌⊎◌, ℕ, zero, suc, ◌<◌, ◌≤◌, Bool, true, false, List, [], ◌∷◌, ◌++◌, length, map, Option, Some, None, refl, sym, ◌∙◌, ap, subst, arith, append-nil, inl, inr}
use Rattle.std.specs.Prelude.{◌==◌, if◌then◌else◌}
use Rattle.std.specs.List.{list_all, filter_map, cons_option}
use Rattle.std.specs.Arc.{arc_value}
use Rattle.std.specs.Option.{option_map}
use Rattle.std.specs.declared.sync.Arc.{Arc}
use Rattle.std.specs.declared.alloc.Global.{Global}
use Rattle.std.proofs.lemmas.Bool.{cases_lt, and_parts, or_left}
use Rattle.std.proofs.lemmas.List.{map-append}
use Rattle.std.proofs.lemmas.List.Elements.{filter-append, filter_map-append}
use Rattle.std.proofs.lemmas.List.Folds.{list_any-append}
use Rattle.board.specs.declared.entry.BoardEntry.{BoardEntry}
use Rattle.board.specs.declared.entry.BoardEntry.TheVariants.{Born, Submit, Take, Finish, Enq, Deq, Done, Hold, Go, Collect, Close, Share, Mask, Shut}
use Rattle.board.specs.Entries.{is_of, entries_of, accepted_in, submissions, finished_in, finished, has, unbroken, front}
use Rattle.board.specs.PipelineHistory.{is_work}
use Rattle.board.specs.Alone.{WorkAccepts, WorkFinishes}
use Rattle.board.proofs.Fronts.{front_is_finished, front_is_greatest}

module _ {A : Type 0} where
  work_accepts : (e : BoardEntry A) → is_work e ≡ true → accepted_in e ≡ None
  work_accepts (Take caller pipe number) w = refl
  work_accepts (Finish caller pipe number) w = refl
  work_accepts (Deq caller pipe number started) w = refl
  work_accepts (Done caller pipe number) w = refl
  work_accepts (Born caller pipe shape) w = absurd cc
  work_accepts (Submit caller pipe number ask) w = absurd cc
  work_accepts (Enq caller pipe ask backlog answer) w = absurd cc
  work_accepts (Hold caller pipe) w = absurd cc
  work_accepts (Go caller pipe) w = absurd cc
  work_accepts (Collect caller pipe to) w = absurd cc
  work_accepts (Close caller pipe) w = absurd cc
  work_accepts (Share caller pipe) w = absurd cc
  work_accepts (Mask caller pipe bits) w = absurd cc
  work_accepts (Shut caller) w = absurd cc

  none_accepted : (p : ℕ) (es : List (BoardEntry A)) → list_all is_work es ≡ true → submissions (entries_of p es) ≡ []
  none_accepted p [] all = refl
  none_accepted p (e ∷ es) all =
      let parts = and_parts (is_work e) (list_all is_work es) all in
      by_of (is_of p e) (none_accepted p es parts.1)
    where
      by_of : (t : Bool) → submissions (entries_of p es) ≡ [] → submissions (if t then e ∷ entries_of p es else entries_of p es) ≡ []
      by_of true later = ap (λ o. cons_option o (submissions (entries_of p es))) (work_accepts e (and_parts (is_work e) (list_all is_work es) all).0) ∙ later
      by_of false later = later

  pub work_leaves_accepted : (h es : List (BoardEntry A)) (p : ℕ) → WorkAccepts h es p
  work_leaves_accepted h es p all =
      ap submissions (filter-append (is_of p) h es)
      ∙ (filter_map-append accepted_in (entries_of p h) (entries_of p es) ∙ (ap (λ xs. submissions (entries_of p h) ++ xs) (none_accepted p es all) ∙ append-nil (submissions (entries_of p h))))

unbroken_most : (ns : List ℕ) (n many : ℕ) → unbroken ns n many ≤ many
unbroken_most ns n zero = omega arith
unbroken_most ns n (suc many) = by_has (has n ns) (unbroken_most ns (suc n) many)
  where
    by_has : (t : Bool) → unbroken ns (suc n) many ≤ many → (if t then suc (unbroken ns (suc n) many) else 0) ≤ suc many
    by_has true later = omega arith
    by_has false later = omega arith

module _ {A : Type 0} where
  -- where no request came, what is finished stays so
  stays_finished : (es more : List (BoardEntry A)) → submissions (es ++ more) ≡ submissions es → front es ≡ length (submissions es) → front (es ++ more) ≡ length (submissions (es ++ more))
  stays_finished es more same all = by_front (cases_lt (front (es ++ more)) (length (submissions (es ++ more))))
    where
      n : ℕ
      n = front (es ++ more)

      by_front : (n < length (submissions (es ++ more))) ⊎ (length (submissions (es ++ more)) ≤ n) → n ≡ length (submissions (es ++ more))
      by_front (inr high) = (let most = unbroken_most (finished (es ++ more)) 0 (length (submissions (es ++ more))) in omega arith)
      by_front (inl low) =
          let len : length (submissions (es ++ more)) ≡ front es = ap length same ∙ sym all in
          let was : has n (finished es) ≡ true = front_is_finished es n (omega arith) in
          let is : has n (finished (es ++ more)) ≡ true = ap (has n) (filter_map-append finished_in es more) ∙ (list_any-append (λ m. m == n) (finished es) (finished more) ∙ or_left (has n (finished es)) (has n (finished more)) was) in
          let isnt : has n (finished (es ++ more)) ≡ false = front_is_greatest (es ++ more) low in
          absurd (let bad : true ≡ false = sym is ∙ isnt in cc)

  pub work_finishes : (h es : List (BoardEntry A)) (p : ℕ) → WorkFinishes h es p
  work_finishes h es p all was =
      let parts : entries_of p (h ++ es) ≡ entries_of p h ++ entries_of p es = filter-append (is_of p) h es in
      let same : submissions (entries_of p h ++ entries_of p es) ≡ submissions (entries_of p h) = ap submissions (sym parts) ∙ work_leaves_accepted h es p all in
      subst (λ xs. front xs ≡ length (submissions xs)) (sym parts) (stays_finished (entries_of p h) (entries_of p es) same was)

  -- ---- entry by entry

  asked_by : (ask : Option (Arc A Global)) (o : Option A) (b : Bool) (e : BoardEntry A) (es : List (BoardEntry A)) → option_map arc_value ask ≡ (if b then accepted_in e else None)
      → map arc_value (cons_option ask []) ≡ filter_map accepted_in (if b then e ∷ [] else [])
  asked_by None o true e es is = ap (λ x. cons_option x []) is
  asked_by (Some ask) o true e es is = ap (λ x. cons_option x []) is
  asked_by None o false e es is = refl
  asked_by (Some ask) o false e es is = absurd cc

  pub asks_more : (of : ℕ) (xs : List (BoardEntry A)) (e : BoardEntry A) (ask : Option (Arc A Global)) (a b : List (Arc A Global)) → map arc_value a ≡ submissions (entries_of of xs) → b ≡ a ++ cons_option ask []
      → option_map arc_value ask ≡ (if is_of of e then accepted_in e else None) → map arc_value b ≡ submissions (entries_of of (xs ++ e ∷ []))
  asks_more of xs e ask a b had is this =
      ap (map arc_value) is ∙ (map-append arc_value a (cons_option ask []) ∙ ((λ i. had i ++ asked_by ask None (is_of of e) e [] this i)
      ∙ sym (ap submissions (filter-append (is_of of) xs (e ∷ [])) ∙ filter_map-append accepted_in (entries_of of xs) (if is_of of e then e ∷ [] else []))))
