-- A board's history goes on by the script's calls and by work, and the plain pipelines with it.
use Rattle.std.proofs.Common.{◌≡◌, ◌≢◌, ℕ, zero, suc, ◌+◌, ◌<◌, ◌≤◌, ◌⊎◌, inl, inr, Bool, true, false, ◌&&◌, List, [], ◌∷◌, ◌++◌, length, set, refl, ap, sym, ◌∙◌, subst, arith, Option, Some, None, is_some, append-nil, append_assoc, length-append}
use Rattle.std.specs.Prelude.{slice_get, ◌==◌}
use Rattle.std.specs.List.{filter_map}
use Rattle.std.specs.Option.{option_map_or}
use Rattle.std.specs.Arc.{arc_value}
use Rattle.std.specs.declared.sync.Arc.{Arc}
use Rattle.std.specs.declared.alloc.Global.{Global}
use Rattle.std.proofs.lemmas.Bool.{eq-eqb, eqb-true}
use Rattle.board.specs.declared.entry.Shape.{Shape}
use Rattle.board.specs.declared.entry.Entered.{Entered}
use Rattle.board.specs.declared.entry.Entered.TheVariants.{InProgress, Busy, NoSpace}
use Rattle.board.specs.declared.entry.BoardEntry.{BoardEntry}
use Rattle.board.specs.declared.entry.BoardEntry.TheVariants.{Born, Submit, Take, Finish, Enq, Deq, Done, Hold, Go, Collect, Close, Share, Mask, Shut}
use Rattle.board.specs.Shapes.{is_pad, has_queue}
use Rattle.board.specs.Entries.{is_of, entries_of, birth_in, birth, accepted_in, submissions, front, is_held, delivered}
use Rattle.board.specs.HandedOut.{is_collect}
use Rattle.board.specs.Legal.{IsRight, IsRightFor, LegalBoard, AreRightAfter, pipelines}
use Rattle.board.specs.Order.{handed_out, completed, AreAllFinished}
use Rattle.board.specs.PipelineHistory.{is_work}
use Rattle.board.proofs.Lists.{filter_map-none, filter_map-some, length-numbers}
use Rattle.board.proofs.Keeping.{born_some, maker_some}
use Rattle.transforms.specs.declared.ask.Ask.{Ask}
use Rattle.dialogues.specs.BoardCalls.{BoardCall, Creates, Submits, Enqueues, Holds, Goes, Closes, Masks, asked_by, outcome}
use Rattle.sequential_model.specs.Pipelines.{Pipeline, new_pipeline, next_number, asked_more, now_held, let_go, all_delivered, at_pipe, at_pipe_by, pipelines_after, verdict_of}
use Rattle.sequential_model.proofs.Callbacks.{drained_from}
use Rattle.sequential_model.specs.Pipelines.{has_room}
use Rattle.sequential_model.specs.Laws.{ThereIs, IsTimelessCall, IsToldBy}
use Rattle.sequential_model.proofs.Behaving.{BoardLaws, behaves, held_same}
use Rattle.sequential_model.proofs.Standing.{is_all_done, IsPipelineOf, ArePipelinesOf}
use Rattle.sequential_model.proofs.Pipelines.{owed_count, on_lists, submitted, entered, dequeued, done_one, held_now, let_go_now, left_alone, delivers, collected_now, born_now, waits_as}

-- ---- lists of pipelines

length_set : (pipelines : List Pipeline) (p : ℕ) (pipeline : Pipeline) → length (set pipelines p pipeline) ≡ length pipelines
length_set [] p pipeline = refl
length_set (x ∷ pipelines) zero pipeline = refl
length_set (x ∷ pipelines) (suc p) pipeline = ap suc (length_set pipelines p pipeline)

get_set : (pipelines : List Pipeline) (p q : ℕ) (pipeline found : Pipeline) → slice_get (set pipelines p pipeline) q ≡ Some found → ((q ≡ p) × (found ≡ pipeline)) ⊎ ((q ≢ p) × (slice_get pipelines q ≡ Some found))
get_set [] p q pipeline found e = absurd cc
get_set (x ∷ pipelines) zero zero pipeline found e = inl (refl, (let f : pipeline ≡ found = cc in sym f))
get_set (x ∷ pipelines) zero (suc q) pipeline found e = inr ((λ f. absurd (omega (arith, f))), e)
get_set (x ∷ pipelines) (suc p) zero pipeline found e = inr ((λ f. absurd (omega (arith, f))), e)
get_set (x ∷ pipelines) (suc p) (suc q) pipeline found e = by (get_set pipelines p q pipeline found e)
  where
    by : ((q ≡ p) × (found ≡ pipeline)) ⊎ ((q ≢ p) × (slice_get pipelines q ≡ Some found)) → ((suc q ≡ suc p) × (found ≡ pipeline)) ⊎ ((suc q ≢ suc p) × (slice_get pipelines q ≡ Some found))
    by (inl r) = inl (ap suc r.0, r.1)
    by (inr r) = inr ((λ f. r.0 (omega (arith, f))), r.1)

get_last : (pipelines : List Pipeline) (q : ℕ) (new found : Pipeline) → slice_get (pipelines ++ new ∷ []) q ≡ Some found → ((q < length pipelines) × (slice_get pipelines q ≡ Some found)) ⊎ ((q ≡ length pipelines) × (found ≡ new))
get_last [] zero new found e = inr (refl, (let f : new ≡ found = cc in sym f))
get_last [] (suc q) new found e = absurd cc
get_last (x ∷ pipelines) zero new found e = inl (omega arith, e)
get_last (x ∷ pipelines) (suc q) new found e = by (get_last pipelines q new found e)
  where
    by : ((q < length pipelines) × (slice_get pipelines q ≡ Some found)) ⊎ ((q ≡ length pipelines) × (found ≡ new)) → ((suc q < suc (length pipelines)) × (slice_get pipelines q ≡ Some found)) ⊎ ((suc q ≡ suc (length pipelines)) × (found ≡ new))
    by (inl r) = inl (omega (arith, r.0), r.1)
    by (inr r) = inr (ap suc r.0, r.1)

-- ---- one entry of a pipeline

-- no pipeline is born, and none but this one has the entry
pub record IsAt (b : List (BoardEntry Ask)) (e : BoardEntry Ask) (p : ℕ) : Type 0 where
  pub here : is_of p e ≡ true
  pub unborn : birth_in e ≡ None
  pub right : IsRightFor (entries_of p b) e

-- a pipeline's first entry is its birth
never_first : (e : BoardEntry Ask) → birth_in e ≡ None → IsRightFor [] e → ⊥
never_first (Born caller pipe shape) u r = absurd cc
never_first (Submit caller pipe number ask) u r = let f = r.1.0 in absurd cc
never_first (Take caller pipe number) u r = let f = r.0.0 in absurd cc
never_first (Finish caller pipe number) u r = let f = r.0 in absurd cc
never_first (Enq caller pipe ask backlog answer) u r = let f = r.1.0 in absurd cc
never_first (Deq caller pipe number started) u r = let f = r.0.0 in absurd cc
never_first (Done caller pipe number) u r = let f = r.0 in absurd cc
never_first (Hold caller pipe) u r = r.0.1
never_first (Go caller pipe) u r = r.0.1
never_first (Collect caller pipe to) u r = r.0.1
never_first (Close caller pipe) u r = r.0.1
never_first (Share caller pipe) u r = r.0.1
never_first (Mask caller pipe mask) u r = r.0.1
never_first (Shut caller) u r = r

none_born : (b : List (BoardEntry Ask)) (e : BoardEntry Ask) (p : ℕ) → IsAt b e p → entries_of p b ≡ [] → ⊥
none_born b e p at none = never_first e at.unborn (subst (λ es. IsRightFor es e) none at.right)

count_same : (b : List (BoardEntry Ask)) (e : BoardEntry Ask) → birth_in e ≡ None → pipelines (b ++ e ∷ []) ≡ pipelines b
count_same b e unborn = ap length (filter_map-none birth_in b e unborn)

pub own_pipe : (p : ℕ) → (p == p) ≡ true
own_pipe p = eq-eqb p p refl

-- the plain pipelines after an entry, and what its call came to, if it is a call
abbrev pub Moves : List Pipeline → List (BoardEntry Ask) → BoardEntry Ask → Option BoardCall → Type 0
Moves pipelines b e None = ArePipelinesOf pipelines (b ++ e ∷ [])
Moves pipelines b e (Some call) = IsTimelessCall pipelines call → ArePipelinesOf (pipelines_after pipelines call) (b ++ e ∷ []) × IsToldBy pipelines call

within : (pipelines : List Pipeline) (p : ℕ) → (p < length pipelines) ⊎ (length pipelines ≤ p)
within [] p = inr (omega arith)
within (x ∷ pipelines) zero = inl (omega arith)
within (x ∷ pipelines) (suc p) = up (within pipelines p)
  where
    up : (p < length pipelines) ⊎ (length pipelines ≤ p) → (suc p < length (x ∷ pipelines)) ⊎ (length (x ∷ pipelines) ≤ suc p)
    up (inl q) = inl (omega (arith, q))
    up (inr q) = inr (omega (arith, q))

get_there : (pipelines : List Pipeline) (p : ℕ) → p < length pipelines → (pipeline : Pipeline) × (slice_get pipelines p ≡ Some pipeline)
get_there [] p lt = absurd (omega (arith, lt))
get_there (x ∷ pipelines) zero lt = (x, refl)
get_there (x ∷ pipelines) (suc p) lt = get_there pipelines p (omega (arith, lt))

-- a pipeline that was born is one of the plain ones
pub born_there : (pipelines : List Pipeline) (b : List (BoardEntry Ask)) (p : ℕ) → ArePipelinesOf pipelines b → is_some (birth (entries_of p b)) ≡ true → (pipeline : Pipeline) × (slice_get pipelines p ≡ Some pipeline)
born_there pipelines b p are born = by (within pipelines p)
  where
    by : (p < length pipelines) ⊎ (length pipelines ≤ p) → (pipeline : Pipeline) × (slice_get pipelines p ≡ Some pipeline)
    by (inl lt) = get_there pipelines p lt
    by (inr le) = absurd (let f : is_some {T = ℕ × Shape} None ≡ true = sym (ap (λ es. is_some (birth es)) (are.bare p le)) ∙ born in cc)

if_there : (pipelines : List Pipeline) (b : List (BoardEntry Ask)) (p : ℕ) (P : Pipeline → Type 0) → ArePipelinesOf pipelines b → is_some (birth (entries_of p b)) ≡ true → ((pipeline : Pipeline) → slice_get pipelines p ≡ Some pipeline → P pipeline) → ThereIs (slice_get pipelines p) P
if_there pipelines b p P are born f = by (slice_get pipelines p) refl (born_there pipelines b p are born)
  where
    by : (o : Option Pipeline) → slice_get pipelines p ≡ o → (pipeline : Pipeline) × (slice_get pipelines p ≡ Some pipeline) → ThereIs o P
    by None e t = absurd (let g : None ≡ Some t.0 = sym e ∙ t.1 in cc)
    by (Some pipeline) e t = f pipeline e

roomy_there : (backlog : Bool) (pipelines : List Pipeline) (p : ℕ) (pipeline : Pipeline) → slice_get pipelines p ≡ Some pipeline → option_map_or (has_room backlog) (slice_get pipelines p) true ≡ true → has_room backlog pipeline ≡ true
roomy_there backlog pipelines p pipeline some e = sym (ap (λ o. option_map_or (has_room backlog) o true) some) ∙ e

module _ (laws : BoardLaws) where
  bare_still : (pipelines : List Pipeline) (b : List (BoardEntry Ask)) (e : BoardEntry Ask) (p : ℕ) → IsAt b e p → ArePipelinesOf pipelines b → (q : ℕ) → length pipelines ≤ q → entries_of q (b ++ e ∷ []) ≡ []
  bare_still pipelines b e p at are q le = by (is_of q e) refl
    where
      by : (c : Bool) → is_of q e ≡ c → entries_of q (b ++ e ∷ []) ≡ []
      by false f = laws.leaves b e q f ∙ are.bare q le
      by true f = absurd (here (q == p) refl)
        where
          here : (d : Bool) → (q == p) ≡ d → ⊥
          here true g = let s : q ≡ p = eqb-true q p g in none_born b e p at (ap (λ n. entries_of n b) (sym s) ∙ are.bare q le)
          here false g =
              let ne : q ≢ p = λ s. absurd (let h : (q == p) ≡ true = eq-eqb q p s in cc) in
              let h : is_of q e ≡ false = laws.one e p q at.here ne in
              cc

  -- what stays as it is of the plain pipelines
  pub pipes_same : (pipelines : List Pipeline) (b : List (BoardEntry Ask)) (e : BoardEntry Ask) (p : ℕ) → IsAt b e p → ArePipelinesOf pipelines b → ((pipeline : Pipeline) → IsPipelineOf pipeline (entries_of p b) → IsPipelineOf pipeline (entries_of p b ++ e ∷ [])) → ArePipelinesOf pipelines (b ++ e ∷ [])
  pipes_same pipelines b e p at are step = record {
    count = are.count ∙ sym (count_same b e at.unborn);
    each = λ q pipeline found. by q pipeline found (q == p) refl;
    bare = bare_still pipelines b e p at are;
  }
    where
      by : (q : ℕ) (pipeline : Pipeline) → slice_get pipelines q ≡ Some pipeline → (c : Bool) → (q == p) ≡ c → IsPipelineOf pipeline (entries_of q (b ++ e ∷ []))
      by q pipeline found true g =
          let s : q ≡ p = eqb-true q p g in
          subst (λ n. IsPipelineOf pipeline (entries_of n (b ++ e ∷ []))) (sym s)
          (subst (λ es. IsPipelineOf pipeline es) (sym (laws.joins b e p at.here)) (step pipeline (subst (λ n. IsPipelineOf pipeline (entries_of n b)) s (are.each q pipeline found))))
      by q pipeline found false g =
          let ne : q ≢ p = λ s. absurd (let h : (q == p) ≡ true = eq-eqb q p s in cc) in
          subst (λ es. IsPipelineOf pipeline es) (sym (laws.leaves b e q (laws.one e p q at.here ne))) (are.each q pipeline found)

  -- what one of them becomes
  pipes_at : (pipelines : List Pipeline) (b : List (BoardEntry Ask)) (e : BoardEntry Ask) (p : ℕ) (change : Pipeline → Pipeline) → IsAt b e p → ArePipelinesOf pipelines b → ((pipeline : Pipeline) → slice_get pipelines p ≡ Some pipeline → IsPipelineOf pipeline (entries_of p b) → IsPipelineOf (change pipeline) (entries_of p b ++ e ∷ []))
      → ArePipelinesOf (at_pipe change p pipelines) (b ++ e ∷ [])
  pipes_at pipelines b e p change at are step = by_get (slice_get pipelines p) refl
    where
      others : (q : ℕ) (pipeline : Pipeline) → q ≢ p → slice_get pipelines q ≡ Some pipeline → IsPipelineOf pipeline (entries_of q (b ++ e ∷ []))
      others q pipeline ne found = subst (λ es. IsPipelineOf pipeline es) (sym (laws.leaves b e q (laws.one e p q at.here ne))) (are.each q pipeline found)

      by_get : (o : Option Pipeline) → slice_get pipelines p ≡ o → ArePipelinesOf (at_pipe_by change p pipelines o) (b ++ e ∷ [])
      by_get None none = record {
        count = are.count ∙ sym (count_same b e at.unborn);
        each = λ q pipeline found. others q pipeline (λ s. absurd (let f : None ≡ Some pipeline = sym none ∙ (ap (λ n. slice_get pipelines n) (sym s) ∙ found) in cc)) found;
        bare = bare_still pipelines b e p at are;
      }
      by_get (Some pipeline) some = record {
        count = length_set pipelines p (change pipeline) ∙ (are.count ∙ sym (count_same b e at.unborn));
        each = λ q found is. by q found (get_set pipelines p q (change pipeline) found is);
        bare = λ q le. bare_still pipelines b e p at are q (omega (arith, le, length_set pipelines p (change pipeline)));
      }
        where
          by : (q : ℕ) (found : Pipeline) → ((q ≡ p) × (found ≡ change pipeline)) ⊎ ((q ≢ p) × (slice_get pipelines q ≡ Some found)) → IsPipelineOf found (entries_of q (b ++ e ∷ []))
          by q found (inl r) =
              subst (λ n. IsPipelineOf found (entries_of n (b ++ e ∷ []))) (sym r.0)
              (subst (λ x. IsPipelineOf x (entries_of p (b ++ e ∷ []))) (sym r.1)
              (subst (λ es. IsPipelineOf (change pipeline) es) (sym (laws.joins b e p at.here)) (step pipeline some (are.each p pipeline some))))
          by q found (inr r) = others q found r.0 r.1

  -- ---- what each entry leaves

  pub handed_still : (b : List (BoardEntry Ask)) (e : BoardEntry Ask) (p : ℕ) → is_of p e ≡ true → is_collect e ≡ false → handed_out (entries_of p b ++ e ∷ []) ≡ handed_out (entries_of p b)
  handed_still b e p here none = ap handed_out (sym (laws.joins b e p here)) ∙ laws.nothing b e p none

  pub moves_born : (pipelines : List Pipeline) (b : List (BoardEntry Ask)) (by p : ℕ) (shape : Shape) → LegalBoard b → IsRight b (Born by p shape) → ArePipelinesOf pipelines b → Moves pipelines b (Born by p shape) (Some (Creates p shape))
  moves_born pipelines b by p shape legal r are still =
      let e : BoardEntry Ask = Born by p shape in
      let at : p ≡ length pipelines = r.0 ∙ sym are.count in (
        record {
          count = length-append pipelines (_ ∷ []) ∙ (ap (λ n. n + 1) are.count ∙ sym (ap length (filter_map-some birth_in b e (by, shape) refl) ∙ length-append (filter_map birth_in b) ((by, shape) ∷ [])));
          each = λ q pipeline found. each q pipeline at (get_last pipelines q (new_pipeline shape) pipeline found);
          bare = λ q le.
              let l : length pipelines + 1 ≤ q = omega (arith, le, length-append pipelines (new_pipeline shape ∷ [])) in
              laws.leaves b e q (laws.one e p q (own_pipe p) (λ s. absurd (omega (arith, s, at, l)))) ∙ are.bare q (omega (arith, l));
        },
        at,
      )
    where
      each : (q : ℕ) (pipeline : Pipeline) → p ≡ length pipelines → ((q < length pipelines) × (slice_get pipelines q ≡ Some pipeline)) ⊎ ((q ≡ length pipelines) × (pipeline ≡ new_pipeline shape)) → IsPipelineOf pipeline (entries_of q (b ++ Born by p shape ∷ []))
      each q pipeline at (inl f) =
          let e : BoardEntry Ask = Born by p shape in
          subst (λ es. IsPipelineOf pipeline es) (sym (laws.leaves b e q (laws.one e p q (own_pipe p) (λ s. absurd (omega (arith, s, at, f.0)))))) (are.each q pipeline f.1)
      each q pipeline at (inr f) =
          subst (λ n. IsPipelineOf pipeline (entries_of n (b ++ Born by p shape ∷ []))) (at ∙ sym f.0)
          (subst (λ x. IsPipelineOf x (entries_of p (b ++ Born by p shape ∷ []))) (sym f.1)
          (subst (λ es. IsPipelineOf (new_pipeline shape) es) (sym (laws.joins b (Born by p shape) p (own_pipe p))) (born_now laws (entries_of p b) by p shape r.1.1)))

  pub at_pipe_of : (b : List (BoardEntry Ask)) (e : BoardEntry Ask) (p : ℕ) → is_of p e ≡ true → birth_in e ≡ None → IsRight b e → IsAt b e p
  at_pipe_of b e p here unborn r = record { here = here; unborn = unborn; right = laws.alone b e p here r }

  pub moves_submit : (pipelines : List Pipeline) (b : List (BoardEntry Ask)) (by p n : ℕ) (ask : Arc Ask Global) → LegalBoard b → IsRight b (Submit by p n ask) → ArePipelinesOf pipelines b → Moves pipelines b (Submit by p n ask) (Some (Submits p n (asked_by (arc_value ask))))
  moves_submit pipelines b by p n ask legal r are still =
      let e : BoardEntry Ask = Submit by p n ask in (
        pipes_at pipelines b e p (asked_more (asked_by (arc_value ask))) (at_pipe_of b e p (own_pipe p) refl r) are
            (λ pipeline some o. submitted laws (entries_of p b) e (arc_value ask) pipeline r.1.1.0 (handed_still b e p (own_pipe p) refl) refl o),
        if_there pipelines b p (λ (pipeline : Pipeline). n ≡ next_number pipeline) are (born_some is_pad (birth (entries_of p b)) r.1.1.0) (λ pipeline some. r.1.2 ∙ sym (owed_count pipeline (entries_of p b) (are.each p pipeline some))),
      )

  pub moves_enter : (pipelines : List Pipeline) (b : List (BoardEntry Ask)) (by p : ℕ) (ask : Arc Ask Global) (backlog : Bool) (a : Entered) → LegalBoard b → IsRight b (Enq by p ask backlog a) → ArePipelinesOf pipelines b → Moves pipelines b (Enq by p ask backlog a) (Some (Enqueues p (asked_by (arc_value ask)) backlog a))
  moves_enter pipelines b by p ask backlog a legal r are still = (
    by_answer a r still,
    if_there pipelines b p (λ (pipeline : Pipeline). a ≡ verdict_of backlog pipeline) are (born_some has_queue (birth (entries_of p b)) r.1.1.0) (λ pipeline some. r.1.2 ∙ waits_as laws (entries_of p b) pipeline backlog (behaves laws b p legal) r.1.1.0 (roomy_there backlog pipelines p pipeline some still) (are.each p pipeline some)),
  )
    where
      accepts : (x : Entered) → IsRight b (Enq by p ask backlog x) → accepted_in (Enq by p ask backlog x) ≡ Some (arc_value ask) → option_map_or (has_room backlog) (slice_get pipelines p) true ≡ true → ArePipelinesOf (at_pipe (asked_more (asked_by (arc_value ask))) p pipelines) (b ++ Enq by p ask backlog x ∷ [])
      accepts x r' in_it m =
          let e : BoardEntry Ask = Enq by p ask backlog x in
          pipes_at pipelines b e p (asked_more (asked_by (arc_value ask))) (at_pipe_of b e p (own_pipe p) refl r') are
          (λ pipeline some o. entered laws (entries_of p b) by p ask backlog x pipeline (behaves laws b p legal) r'.1.1.0 r'.1.2 (handed_still b e p (own_pipe p) refl) in_it (held_same (entries_of p b) e refl) (roomy_there backlog pipelines p pipeline some m) o)

      by_answer : (x : Entered) → IsRight b (Enq by p ask backlog x) → option_map_or (has_room backlog) (slice_get pipelines p) true ≡ true → ArePipelinesOf (pipelines_after pipelines (Enqueues p (asked_by (arc_value ask)) backlog x)) (b ++ Enq by p ask backlog x ∷ [])
      by_answer (InProgress n) r' m = accepts (InProgress n) r' refl m
      by_answer (Busy n) r' m = accepts (Busy n) r' refl m
      by_answer NoSpace r' m =
          let e : BoardEntry Ask = Enq by p ask backlog NoSpace in
          pipes_same pipelines b e p (at_pipe_of b e p (own_pipe p) refl r') are
          (λ pipeline o. left_alone laws (entries_of p b) e pipeline (born_some has_queue (birth (entries_of p b)) r'.1.1.0) (handed_still b e p (own_pipe p) refl) refl refl refl refl refl (held_same (entries_of p b) e refl) o)

  pub moves_hold : (pipelines : List Pipeline) (b : List (BoardEntry Ask)) (by p : ℕ) → LegalBoard b → IsRight b (Hold by p) → ArePipelinesOf pipelines b → Moves pipelines b (Hold by p) (Some (Holds p))
  moves_hold pipelines b by p legal r are still =
      let e : BoardEntry Ask = Hold by p in (
        pipes_at pipelines b e p now_held (at_pipe_of b e p (own_pipe p) refl r) are
            (λ pipeline some o. held_now laws (entries_of p b) by p pipeline (behaves laws b p legal) r.1.1.0 (handed_still b e p (own_pipe p) refl) (ap is_held (sym (laws.joins b e p (own_pipe p))) ∙ (laws.holds b by p).0) o),
        tt,
      )

  pub moves_go : (pipelines : List Pipeline) (b : List (BoardEntry Ask)) (by p : ℕ) → LegalBoard b → IsRight b (Go by p) → ArePipelinesOf pipelines b → Moves pipelines b (Go by p) (Some (Goes p))
  moves_go pipelines b by p legal r are still =
      let e : BoardEntry Ask = Go by p in (
        pipes_at pipelines b e p let_go (at_pipe_of b e p (own_pipe p) refl r) are
            (λ pipeline some o. let_go_now laws (entries_of p b) by p pipeline (born_some has_queue (birth (entries_of p b)) r.1.1.0) (handed_still b e p (own_pipe p) refl) o),
        tt,
      )

  -- a collect where all is done hands out what a plain drain tells
  pub moves_collect : (pipelines : List Pipeline) (b : List (BoardEntry Ask)) (by p to : ℕ) → LegalBoard b → IsRight b (Collect by p to) → is_all_done (entries_of p b) ≡ true → ArePipelinesOf pipelines b
      → ArePipelinesOf (at_pipe all_delivered p pipelines) (b ++ Collect by p to ∷ []) × ThereIs (slice_get pipelines p) (λ (pipeline : Pipeline). delivered outcome (entries_of p b) to ≡ drained_from pipeline)
  moves_collect pipelines b by p to legal r done are =
      let e : BoardEntry Ask = Collect by p to in
      let all : AreAllFinished (entries_of p b) = laws.front_all (entries_of p b) (eqb-true (front (entries_of p b)) (length (submissions (entries_of p b))) done) in
      let out : length (completed (handed_out (entries_of p b ++ e ∷ []))) ≡ length (submissions (entries_of p b)) =
      ap (λ es. length (completed (handed_out es))) (sym (laws.joins b e p (own_pipe p)))
      ∙ (ap length (laws.all_out b p by to (laws.more b e legal r) all) ∙ length-numbers (length (submissions (entries_of p b)))) in
      let born : is_some (birth (entries_of p b)) ≡ true = maker_some (birth (entries_of p b)) by r.1.0.1 in (
        pipes_at pipelines b e p all_delivered (at_pipe_of b e p (own_pipe p) refl r) are
            (λ pipeline some o. collected_now laws (entries_of p b) by p to pipeline out (behaves laws b p legal) born r.1.2 done (held_same (entries_of p b) e refl) o),
        if_there pipelines b p (λ (pipeline : Pipeline). delivered outcome (entries_of p b) to ≡ drained_from pipeline) are born (λ pipeline some. delivers laws (entries_of p b) pipeline to (behaves laws b p legal) born r.1.2 done (are.each p pipeline some)),
      )

  pub moves_close : (pipelines : List Pipeline) (b : List (BoardEntry Ask)) (by p : ℕ) → LegalBoard b → IsRight b (Close by p) → ArePipelinesOf pipelines b → Moves pipelines b (Close by p) (Some (Closes p))
  moves_close pipelines b by p legal r are still =
      let e : BoardEntry Ask = Close by p in (
        pipes_same pipelines b e p (at_pipe_of b e p (own_pipe p) refl r) are
            (λ pipeline o. left_alone laws (entries_of p b) e pipeline (maker_some (birth (entries_of p b)) by r.1.0.1) (handed_still b e p (own_pipe p) refl) refl refl refl refl refl (held_same (entries_of p b) e refl) o),
        tt,
      )

  pub moves_mask : (pipelines : List Pipeline) (b : List (BoardEntry Ask)) (by p mask : ℕ) → LegalBoard b → IsRight b (Mask by p mask) → ArePipelinesOf pipelines b → Moves pipelines b (Mask by p mask) (Some (Masks p mask))
  moves_mask pipelines b by p mask legal r are still =
      let e : BoardEntry Ask = Mask by p mask in (
        pipes_same pipelines b e p (at_pipe_of b e p (own_pipe p) refl r) are
            (λ pipeline o. left_alone laws (entries_of p b) e pipeline (maker_some (birth (entries_of p b)) by r.1.0.1) (handed_still b e p (own_pipe p) refl) refl refl refl refl refl (held_same (entries_of p b) e refl) o),
        tt,
      )

  pub shut_same : (pipelines : List Pipeline) (b : List (BoardEntry Ask)) (by : ℕ) → ArePipelinesOf pipelines b → ArePipelinesOf pipelines (b ++ Shut by ∷ [])
  shut_same pipelines b by are = record {
    count = are.count ∙ sym (count_same b (Shut by) refl);
    each = λ q pipeline found. subst (λ es. IsPipelineOf pipeline es) (sym (laws.leaves b (Shut by) q refl)) (are.each q pipeline found);
    bare = λ q le. laws.leaves b (Shut by) q refl ∙ are.bare q le;
  }

  -- work leaves the plain pipelines
  pub moves_work : (pipelines : List Pipeline) (b : List (BoardEntry Ask)) (e : BoardEntry Ask) → LegalBoard b → IsRight b e → is_work e ≡ true → ArePipelinesOf pipelines b → ArePipelinesOf pipelines (b ++ e ∷ [])
  moves_work pipelines b (Take by p n) legal r work are =
      let e : BoardEntry Ask = Take by p n in
      pipes_same pipelines b e p (at_pipe_of b e p (own_pipe p) refl r) are (λ pipeline o. on_lists laws (entries_of p b) e pipeline r.1.0.0 (handed_still b e p (own_pipe p) refl) refl refl (held_same (entries_of p b) e refl) o)
  moves_work pipelines b (Finish by p n) legal r work are =
      let e : BoardEntry Ask = Finish by p n in
      pipes_same pipelines b e p (at_pipe_of b e p (own_pipe p) refl r) are (λ pipeline o. on_lists laws (entries_of p b) e pipeline r.1.0 (handed_still b e p (own_pipe p) refl) refl refl (held_same (entries_of p b) e refl) o)
  moves_work pipelines b (Deq by p n started) legal r work are =
      let e : BoardEntry Ask = Deq by p n started in
      pipes_same pipelines b e p (at_pipe_of b e p (own_pipe p) refl r) are (λ pipeline o. dequeued laws (entries_of p b) by p n started pipeline (behaves laws b p legal) r.1 (handed_still b e p (own_pipe p) refl) o)
  moves_work pipelines b (Done by p n) legal r work are =
      let e : BoardEntry Ask = Done by p n in
      pipes_same pipelines b e p (at_pipe_of b e p (own_pipe p) refl r) are (λ pipeline o. done_one laws (entries_of p b) by p n pipeline (behaves laws b p legal) r.1 (handed_still b e p (own_pipe p) refl) (held_same (entries_of p b) e refl) o)
  moves_work pipelines b (Born by p shape) legal r work are = absurd cc
  moves_work pipelines b (Submit by p n ask) legal r work are = absurd cc
  moves_work pipelines b (Enq by p ask backlog a) legal r work are = absurd cc
  moves_work pipelines b (Hold by p) legal r work are = absurd cc
  moves_work pipelines b (Go by p) legal r work are = absurd cc
  moves_work pipelines b (Collect by p to) legal r work are = absurd cc
  moves_work pipelines b (Close by p) legal r work are = absurd cc
  moves_work pipelines b (Share by p) legal r work are = absurd cc
  moves_work pipelines b (Mask by p mask) legal r work are = absurd cc
  moves_work pipelines b (Shut by) legal r work are = absurd cc

-- ---- calls one after the other

pub left_true : (a c : Bool) → (a && c) ≡ true → a ≡ true
left_true true c e = refl
left_true false c e = absurd cc

pub right_true : (a c : Bool) → (a && c) ≡ true → c ≡ true
right_true true c e = e
right_true false c e = absurd cc

pub split_right : (before h more : List (BoardEntry Ask)) → AreRightAfter before (h ++ more) → AreRightAfter before h × AreRightAfter (before ++ h) more
split_right before [] more r = (tt, subst (λ x. AreRightAfter x more) (sym (append-nil before)) r)
split_right before (e ∷ h) more r =
    let s = split_right (before ++ e ∷ []) h more r.1 in
    ((r.0, s.0), subst (λ x. AreRightAfter x more) (append_assoc before (e ∷ []) h) s.1)
