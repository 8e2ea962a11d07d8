-- One entry of a pipeline more, and the plain pipeline then.
use Rattle.std.proofs.Common.{◌≡◌, ℕ, zero, suc, ◌+◌, ◌<◌, ◌≤◌, ◌⊎◌, inl, inr, Bool, true, false, not, cond, ◌&&◌, ◌||◌, List, [], ◌∷◌, ◌++◌, length, drop, take, map, refl, ap, sym, ◌∙◌, subst, arith, Option, Some, None, is_some, length-append}
use Rattle.std.specs.Prelude.{nat_lt}
use Rattle.std.specs.List.{filter_map}
use Rattle.std.specs.Option.{option_map_or}
use Rattle.std.specs.Arc.{arc_value}
use Rattle.std.specs.declared.sync.Arc.{Arc}
use Rattle.std.specs.declared.alloc.Global.{Global}
use Rattle.std.proofs.lemmas.Bool.{cases_lt, eqb-true}
use Rattle.std.proofs.lemmas.Bool.Decides.{nat_tests}
use Rattle.std.proofs.lemmas.List.{map-append}
use Rattle.std.proofs.Math.Seq.{take-length}
use Rattle.std.proofs.lemmas.List.Elements.{filter_map-append}
use Rattle.board.specs.declared.entry.Shape.{Shape}
use Rattle.board.specs.declared.entry.Shape.TheVariants.{Pad, Queue, Chain}
use Rattle.board.specs.declared.entry.Entered.{Entered}
use Rattle.board.specs.declared.entry.Entered.TheVariants.{InProgress, Busy, NoSpace}
use Rattle.board.specs.declared.entry.BoardEntry.{BoardEntry}
use Rattle.board.specs.declared.entry.BoardEntry.TheVariants.{Born, Enq, Deq, Done, Hold, Go, Collect}
use Rattle.board.specs.Shapes.{is_pad, is_chain, is_serial, has_queue, has_lists, is_born, pad_born, queue_born, has_queue_born, lists_born, max_born}
use Rattle.board.specs.Entries.{Starts, Completes, birth, accepted_in, submissions, dequeued_in, dequeues, dequeued as let_out, taken_in, takings, finished_in, finished, has, front, completes_from, told, collected_in, collected, last_or, is_held, verdict, waiting, starts, callback_of, delivered}
use Rattle.board.specs.Legal.{IsRightFor}
use Rattle.board.specs.Order.{handed_out, completed, numbers_below, step_tells, backlogged_in, backlogged, AreAllFinished}
use Rattle.board.proofs.Lists.{filter_map-none, filter_map-some, has_only_below, last_or-append, low_number, taker_among}
use Rattle.board.proofs.Keeping.{born_some, has_queue_of_queue}
use Rattle.transforms.specs.declared.ask.Ask.{Ask}
use Rattle.dialogues.specs.BoardCalls.{Asked, asked_by, outcome}
use Rattle.sequential_model.specs.Pipelines.{Pipeline, new_pipeline, next_number, is_all_delivered, asked_more, now_held, let_go, all_delivered, verdict_at, verdict_of}
use Rattle.sequential_model.proofs.Callbacks.{drained, drained_from}
use Rattle.sequential_model.specs.Pipelines.{has_room}
use Rattle.sequential_model.proofs.Behaving.{BoardLaws, Behaves, pad_no_queue, queue_no_lists, lists_of_pad, lists_of_chain, line_of_chain, line_either, any_shape}
use Rattle.sequential_model.proofs.InLine.{left_before, all_left, calm_tells, calm_drain}
use Rattle.sequential_model.proofs.Standing.{is_all_done, bound_born, starts_of, IsPipelineOf}
use Rattle.sequential_model.proofs.Notices.{length_completes, untold_taken, untold_done, untold_more, untold_none, untold_all, queue_callbacks, pad_callbacks}

-- ---- lists

drop_append : {A : Type 0} (n : ℕ) (xs ys : List A) → n ≤ length xs → drop n (xs ++ ys) ≡ drop n xs ++ ys
drop_append zero xs ys le = refl
drop_append (suc n) [] ys le = absurd (omega (arith, le))
drop_append (suc n) (x ∷ xs) ys le = drop_append n xs ys (omega (arith, le))

length_drop : {A : Type 0} (n : ℕ) (xs : List A) → n ≤ length xs → n + length (drop n xs) ≡ length xs
length_drop zero xs le = omega arith
length_drop (suc n) [] le = absurd (omega (arith, le))
length_drop (suc n) (x ∷ xs) le = omega (arith, length_drop n xs (omega (arith, le)))

drop_all : {A : Type 0} (n : ℕ) (xs : List A) → n ≡ length xs → drop n xs ≡ []
drop_all n [] e = ap (λ k. drop k []) e
drop_all n (x ∷ xs) e = ap (λ k. drop k (x ∷ xs)) e ∙ drop_all (length xs) xs refl

length_map : (xs : List Ask) → length (map asked_by xs) ≡ length xs
length_map [] = refl
length_map (x ∷ xs) = ap suc (length_map xs)

-- ---- bounds

bound_of_line : (b : Option (ℕ × Shape)) → has_queue_born b ≡ true → bound_born b ≡ Some (max_born b)
bound_of_line None q = cc
bound_of_line (Some (maker, Pad lists)) q = cc
bound_of_line (Some (maker, Queue max)) q = refl
bound_of_line (Some (maker, Chain max lists)) q = refl

bound_of_pad : (b : Option (ℕ × Shape)) → pad_born b ≡ true → bound_born b ≡ None
bound_of_pad None q = cc
bound_of_pad (Some (maker, Pad lists)) q = refl
bound_of_pad (Some (maker, Queue max)) q = cc
bound_of_pad (Some (maker, Chain max lists)) q = cc

-- ---- numbers

-- how many are owed
pub owed_count : (pipeline : Pipeline) (es : List (BoardEntry Ask)) → IsPipelineOf pipeline es → next_number pipeline ≡ length (submissions es)
owed_count pipeline es o = omega (arith, length_drop pipeline.delivered (submissions es) o.within, length_map (drop pipeline.delivered (submissions es)), ap length o.asks)

-- ---- an entry that accepts nothing

unbacklogged : (e : BoardEntry Ask) → accepted_in e ≡ None → backlogged_in e ≡ None
unbacklogged (Enq caller pipe ask backlog (InProgress n)) a = refl
unbacklogged (Enq caller pipe ask backlog (Busy n)) a = absurd cc
unbacklogged (Enq caller pipe ask backlog NoSpace) a = refl
unbacklogged e a = refl

-- what a chain keeps: its requests fit its queue, and none is in the backlog
abbrev IsCalm : Pipeline → List (BoardEntry Ask) → Type 0
IsCalm pipeline es = (length (submissions es) ≤ pipeline.delivered + max_born (birth es)) × (backlogged es ≡ [])

module _ (laws : BoardLaws) where
  calm_still : (es : List (BoardEntry Ask)) (e : BoardEntry Ask) (pipeline pipeline' : Pipeline) → is_some (birth es) ≡ true → accepted_in e ≡ None → pipeline'.delivered ≡ pipeline.delivered → IsCalm pipeline es → IsCalm pipeline' (es ++ e ∷ [])
  calm_still es e pipeline pipeline' born a st calm =
      let be = laws.birth es e born in
      let se : submissions (es ++ e ∷ []) ≡ submissions es = filter_map-none accepted_in es e a in
      (rw (be, se, st) calm.0, filter_map-none backlogged_in es e (unbacklogged e a) ∙ calm.1)

  -- ---- an entry that accepts nothing, hands out nothing, and tells, takes and finishes nothing

  stays_quiet : (es : List (BoardEntry Ask)) (e : BoardEntry Ask) (pipeline pipeline' : Pipeline) → is_some (birth es) ≡ true → handed_out (es ++ e ∷ []) ≡ handed_out es
      → accepted_in e ≡ None → dequeued_in e ≡ None → finished_in e ≡ None → step_tells e ≡ None → collected_in e ≡ None
      → pipeline'.bound ≡ pipeline.bound → pipeline'.chained ≡ pipeline.chained → pipeline'.delivered ≡ pipeline.delivered → pipeline'.undelivered ≡ pipeline.undelivered
      → (pipeline'.held_throughout ≡ true → (has_queue_born (birth es) ≡ true) × (is_held (es ++ e ∷ []) ≡ true) × (let_out es ≡ pipeline.delivered))
      → IsPipelineOf pipeline es → IsPipelineOf pipeline' (es ++ e ∷ [])
  stays_quiet es e pipeline pipeline' born ho a t f n c sb sc st sa steady o =
      let be = laws.birth es e born in
      let se : submissions (es ++ e ∷ []) ≡ submissions es = filter_map-none accepted_in es e a in
      let te : let_out (es ++ e ∷ []) ≡ let_out es = ap length (filter_map-none dequeued_in es e t) in
      let fe : finished (es ++ e ∷ []) ≡ finished es = filter_map-none finished_in es e f in
      let ne : filter_map step_tells (es ++ e ∷ []) ≡ filter_map step_tells es = filter_map-none step_tells es e n in
      let ce : collected (es ++ e ∷ []) ≡ collected es = ap (last_or 0) (filter_map-none collected_in es e c) in
      record {
        chained = ap (λ b. is_born is_chain b) be ∙ (o.chained ∙ sym sc);
        bound = ap bound_born be ∙ (o.bound ∙ sym sb);
        handed = ap (λ ns. length (completed ns)) ho ∙ (o.handed ∙ sym st);
        within = rw (se, st) o.within;
        asks = rw (se, st) (o.asks ∙ sym sa);
        untold = λ q. rw (be, se, fe, te, ce, ne, st) (o.untold (sym (ap queue_born be) ∙ q));
        calm = λ k. calm_still es e pipeline pipeline' born a st (o.calm (sym sc ∙ k));
        steady = λ s. let r = steady s in (ap has_queue_born be ∙ r.0, r.1, te ∙ (r.2 ∙ sym st));
      }

  -- ---- on a pad or a chain

  -- an entry on a pad or a chain that accepts nothing, lets nothing out of the line and hands out nothing
  pub on_lists : (es : List (BoardEntry Ask)) (e : BoardEntry Ask) (pipeline : Pipeline) → lists_born (birth es) ≡ true → handed_out (es ++ e ∷ []) ≡ handed_out es → accepted_in e ≡ None → dequeued_in e ≡ None → is_held (es ++ e ∷ []) ≡ is_held es
      → IsPipelineOf pipeline es → IsPipelineOf pipeline (es ++ e ∷ [])
  on_lists es e pipeline lists ho a t he o =
      let born = born_some has_lists (birth es) lists in
      let be = laws.birth es e born in
      let te : let_out (es ++ e ∷ []) ≡ let_out es = ap length (filter_map-none dequeued_in es e t) in
      let se : submissions (es ++ e ∷ []) ≡ submissions es = filter_map-none accepted_in es e a in
      record {
        chained = ap (λ b. is_born is_chain b) be ∙ o.chained;
        bound = ap bound_born be ∙ o.bound;
        handed = ap (λ ns. length (completed ns)) ho ∙ o.handed;
        within = rw se o.within;
        asks = rw se o.asks;
        untold = λ q. absurd (queue_no_lists (birth es) (sym (ap queue_born be) ∙ q) lists);
        calm = λ k. calm_still es e pipeline pipeline born a refl (o.calm k);
        steady = λ s. let w = o.steady s in (ap has_queue_born be ∙ w.0, he ∙ w.1, te ∙ w.2);
      }

  -- one request more is owed
  more_asked : (pipeline : Pipeline) (es es' : List (BoardEntry Ask)) (ask : Ask) → submissions es' ≡ submissions es ++ ask ∷ [] → IsPipelineOf pipeline es → (pipeline.delivered ≤ length (submissions es')) × (map asked_by (drop pipeline.delivered (submissions es')) ≡ pipeline.undelivered ++ asked_by ask ∷ [])
  more_asked pipeline es es' ask se o = (
    omega (arith, o.within, ap length se, length-append (submissions es) (ask ∷ [])),
    ap (λ xs. map asked_by (drop pipeline.delivered xs)) se
        ∙ (ap (λ xs. map asked_by xs) (drop_append pipeline.delivered (submissions es) (ask ∷ []) o.within)
        ∙ (map-append asked_by (drop pipeline.delivered (submissions es)) (ask ∷ []) ∙ ap (λ xs. xs ++ asked_by ask ∷ []) o.asks)),
  )

  pub submitted : (es : List (BoardEntry Ask)) (e : BoardEntry Ask) (ask : Ask) (pipeline : Pipeline) → pad_born (birth es) ≡ true → handed_out (es ++ e ∷ []) ≡ handed_out es → accepted_in e ≡ Some ask → IsPipelineOf pipeline es → IsPipelineOf (asked_more (asked_by ask) pipeline) (es ++ e ∷ [])
  submitted es e ask pipeline pad ho a o =
      let be = laws.birth es e (born_some is_pad (birth es) pad) in
      let more = more_asked pipeline es (es ++ e ∷ []) ask (filter_map-some accepted_in es e ask a) o in
      record {
        chained = ap (λ b. is_born is_chain b) be ∙ o.chained;
        bound = ap bound_born be ∙ o.bound;
        handed = ap (λ ns. length (completed ns)) ho ∙ o.handed;
        within = more.0;
        asks = more.1;
        untold = λ q. absurd (queue_no_lists (birth es) (sym (ap queue_born be) ∙ q) (lists_of_pad (birth es) pad));
        calm = λ k. absurd (pad_no_queue (birth es) pad (line_of_chain (birth es) (o.chained ∙ k)));
        steady = λ s. absurd (pad_no_queue (birth es) pad (o.steady s).0);
      }

  -- ---- on a queue

  some_max : {A : Type 0} {x y : A} → Some x ≡ Some y → x ≡ y
  some_max e = cc

  below_test : (a b : ℕ) → nat_lt a b ≡ true → a < b
  below_test a b e = grind (arith, nat_tests)

  above_test : (a b : ℕ) → nat_lt a b ≡ false → b ≤ a
  above_test a b e = grind (arith, nat_tests)

  -- what a request that meets room finds: a queue that was held, or one that has a place
  abbrev Finds : Bool → Pipeline → List (BoardEntry Ask) → Type 0
  Finds backlog pipeline es =
      ((let_out es ≡ pipeline.delivered) × (not (pipeline.chained && backlog) ≡ true)) ⊎ (length (submissions es) + 1 ≤ pipeline.delivered + max_born (birth es))

  room : (backlog : Bool) (pipeline : Pipeline) (es : List (BoardEntry Ask)) → IsPipelineOf pipeline es → has_queue_born (birth es) ≡ true → has_room backlog pipeline ≡ true → Finds backlog pipeline es
  room backlog pipeline es o line roomy = by pipeline.held_throughout refl roomy
    where
      of_bound : (b : Option ℕ) → pipeline.bound ≡ b → option_map_or (λ max. nat_lt (length pipeline.undelivered) max) b true ≡ true → Finds backlog pipeline es
      of_bound None e r = absurd (let f : Some (max_born (birth es)) ≡ None = sym (bound_of_line (birth es) line) ∙ (o.bound ∙ e) in cc)
      of_bound (Some max) e r =
          let f : max_born (birth es) ≡ max = some_max (sym (bound_of_line (birth es) line) ∙ (o.bound ∙ e)) in
          let lt : length pipeline.undelivered < max = below_test (length pipeline.undelivered) max r in
          inr (omega (arith, f, lt, owed_count pipeline es o))

      by_backlog : (c : Bool) → not (pipeline.chained && backlog) ≡ c → pipeline.held_throughout ≡ true → (c || option_map_or (λ max. nat_lt (length pipeline.undelivered) max) pipeline.bound true) ≡ true → Finds backlog pipeline es
      by_backlog true e h r = inl ((o.steady h).2, e)
      by_backlog false e h r = of_bound pipeline.bound refl r

      by : (s : Bool) → pipeline.held_throughout ≡ s → ((s && not (pipeline.chained && backlog)) || option_map_or (λ max. nat_lt (length pipeline.undelivered) max) pipeline.bound true) ≡ true → Finds backlog pipeline es
      by true e r = by_backlog (not (pipeline.chained && backlog)) refl e r
      by false e r = of_bound pipeline.bound refl r

  -- so it leaves a queue's notices
  leaves_notices : (backlog : Bool) (pipeline : Pipeline) (es : List (BoardEntry Ask)) → Finds backlog pipeline es → (let_out es ≡ pipeline.delivered) ⊎ (length (submissions es) + 1 ≤ pipeline.delivered + max_born (birth es))
  leaves_notices backlog pipeline es (inl r) = inl r.0
  leaves_notices backlog pipeline es (inr calm) = inr calm

  in_progress : (n m : ℕ) (b c : Bool) → InProgress n ≡ cond b (InProgress m) (cond c (Busy m) NoSpace) → b ≡ true
  in_progress n m true c e = refl
  in_progress n m false true e = absurd cc
  in_progress n m false false e = absurd cc

  busy : (n m : ℕ) (b c : Bool) → Busy n ≡ cond b (InProgress m) (cond c (Busy m) NoSpace) → (b ≡ false) × (c ≡ true)
  busy n m true c e = absurd cc
  busy n m false true e = (refl, refl)
  busy n m false false e = absurd cc

  not_true : (a c : Bool) → a ≡ true → c ≡ true → not (a && c) ≡ true → ⊥
  not_true true true p q e = cc
  not_true true false p q e = cc
  not_true false c p q e = cc

  -- what a chain accepts fits its queue, and isn't in the backlog
  fits : (es : List (BoardEntry Ask)) (caller pipe : ℕ) (ask : Arc Ask Global) (backlog : Bool) (x : Entered) (pipeline : Pipeline) → Behaves es → has_queue_born (birth es) ≡ true → x ≡ verdict es backlog
      → accepted_in (Enq caller pipe ask backlog x) ≡ Some (arc_value ask) → Finds backlog pipeline es → IsPipelineOf pipeline es → pipeline.chained ≡ true
      → (length (submissions es) + 1 ≤ pipeline.delivered + max_born (birth es)) × (backlogged_in (Enq caller pipe ask backlog x) ≡ None)
  fits es caller pipe ask backlog (InProgress n) pipeline right line is a finds o k = (by finds, refl)
    where
      waits : waiting es < max_born (birth es)
      waits = below_test (waiting es) (max_born (birth es)) (in_progress n (length (submissions es)) (nat_lt (waiting es) (max_born (birth es))) backlog is)

      by : Finds backlog pipeline es → length (submissions es) + 1 ≤ pipeline.delivered + max_born (birth es)
      by (inl r) = let w = waits in omega (arith, w, r.0)
      by (inr calm) = calm
  fits es caller pipe ask backlog (Busy n) pipeline right line is a finds o k = absurd (by finds)
    where
      full : (nat_lt (waiting es) (max_born (birth es)) ≡ false) × (backlog ≡ true)
      full = busy n (length (submissions es)) (nat_lt (waiting es) (max_born (birth es))) backlog is

      by : Finds backlog pipeline es → ⊥
      by (inl r) = not_true pipeline.chained backlog k full.1 r.1
      by (inr calm) =
          let w : max_born (birth es) ≤ waiting es = above_test (waiting es) (max_born (birth es)) full.0 in
          absurd (omega (arith, calm, w, left_before es pipeline right line o))
  fits es caller pipe ask backlog NoSpace pipeline right line is a finds o k = absurd cc

  pub entered : (es : List (BoardEntry Ask)) (caller pipe : ℕ) (ask : Arc Ask Global) (backlog : Bool) (x : Entered) (pipeline : Pipeline) → Behaves es → has_queue_born (birth es) ≡ true → x ≡ verdict es backlog
      → handed_out (es ++ Enq caller pipe ask backlog x ∷ []) ≡ handed_out es → accepted_in (Enq caller pipe ask backlog x) ≡ Some (arc_value ask) → is_held (es ++ Enq caller pipe ask backlog x ∷ []) ≡ is_held es
      → has_room backlog pipeline ≡ true → IsPipelineOf pipeline es → IsPipelineOf (asked_more (asked_by (arc_value ask)) pipeline) (es ++ Enq caller pipe ask backlog x ∷ [])
  entered es caller pipe ask backlog x pipeline right line is ho a he roomy o =
      let e : BoardEntry Ask = Enq caller pipe ask backlog x in
      let be = laws.birth es e (born_some has_queue (birth es) line) in
      let se : submissions (es ++ e ∷ []) ≡ submissions es ++ arc_value ask ∷ [] = filter_map-some accepted_in es e (arc_value ask) a in
      let sl : length (submissions es ++ arc_value ask ∷ []) ≡ length (submissions es) + 1 = length-append (submissions es) (arc_value ask ∷ []) in
      let te : let_out (es ++ e ∷ []) ≡ let_out es = ap length (filter_map-none dequeued_in es e refl) in
      let fe : finished (es ++ e ∷ []) ≡ finished es = filter_map-none finished_in es e refl in
      let ne : filter_map step_tells (es ++ e ∷ []) ≡ filter_map step_tells es = filter_map-none step_tells es e refl in
      let ce : collected (es ++ e ∷ []) ≡ collected es = ap (last_or 0) (filter_map-none collected_in es e refl) in
      let more = more_asked pipeline es (es ++ e ∷ []) (arc_value ask) se o in
      let finds : Finds backlog pipeline es = room backlog pipeline es o line roomy in
      record {
        chained = ap (λ b. is_born is_chain b) be ∙ o.chained;
        bound = ap bound_born be ∙ o.bound;
        handed = ap (λ ns. length (completed ns)) ho ∙ o.handed;
        within = more.0;
        asks = more.1;
        untold = λ q.
            let u = untold_more (max_born (birth es)) (length (submissions es)) pipeline.delivered (length (finished es)) (let_out es) (drop (collected es) (filter_map step_tells es)) (leaves_notices backlog pipeline es finds) (o.untold (sym (ap queue_born be) ∙ q)) in
            rw (be, se, sl, fe, te, ce, ne) u;
        calm = λ k.
            let fit = fits es caller pipe ask backlog x pipeline right line is a finds o k in
            (rw (be, se, sl) fit.0, filter_map-none backlogged_in es e fit.1 ∙ (o.calm k).1);
        steady = λ s. let r = o.steady s in (ap has_queue_born be ∙ r.0, he ∙ r.1, te ∙ r.2);
      }

  -- of what a legal queue told so much is collected at most
  collected_within : (es : List (BoardEntry Ask)) → Behaves es → queue_born (birth es) ≡ true → collected es ≤ length (filter_map step_tells es)
  collected_within es right q = subst (λ ns. collected es ≤ length ns) (right.queue q) right.within

  started_told : (es : List (BoardEntry Ask)) (caller pipe number : ℕ) (started : Option ℕ) → started ≡ starts es number → filter_map {X = BoardEntry Ask} step_tells (Deq caller pipe number started ∷ []) ≡ starts_of (max_born (birth es)) (length (submissions es)) number
  started_told es caller pipe number started e = ap (λ s. filter_map {X = BoardEntry Ask} step_tells (Deq caller pipe number s ∷ [])) e ∙ by (nat_lt (number + max_born (birth es)) (length (submissions es)))
    where
      by : (b : Bool) → filter_map {X = BoardEntry Ask} step_tells (Deq caller pipe number (cond b (Some (number + max_born (birth es))) None) ∷ []) ≡ cond b (Starts (number + max_born (birth es)) ∷ []) []
      by true = refl
      by false = refl

  -- a request leaves the queue
  served : (es : List (BoardEntry Ask)) (caller pipe number : ℕ) (started : Option ℕ) (pipeline : Pipeline) → Behaves es → IsRightFor es (Deq caller pipe number started) → handed_out (es ++ Deq caller pipe number started ∷ []) ≡ handed_out es
      → queue_born (birth es) ≡ true → IsPipelineOf pipeline es → IsPipelineOf pipeline (es ++ Deq caller pipe number started ∷ [])
  served es caller pipe number started pipeline right r ho q o =
      let e : BoardEntry Ask = Deq caller pipe number started in
      let next = r.2 q in
      let be = laws.birth es e (born_some is_serial (birth es) q) in
      let se : submissions (es ++ e ∷ []) ≡ submissions es = filter_map-none accepted_in es e refl in
      let te : let_out (es ++ e ∷ []) ≡ let_out es + 1 = ap length (filter_map-some dequeued_in es e (number, caller) refl) ∙ length-append (dequeues es) ((number, caller) ∷ []) in
      let fe : finished (es ++ e ∷ []) ≡ finished es = filter_map-none finished_in es e refl in
      let ce : collected (es ++ e ∷ []) ≡ collected es = ap (last_or 0) (filter_map-none collected_in es e refl) in
      let ne : filter_map step_tells (es ++ e ∷ []) ≡ filter_map step_tells es ++ starts_of (max_born (birth es)) (length (submissions es)) (length (finished es)) =
      filter_map-append step_tells es (e ∷ [])
      ∙ ap (λ xs. filter_map step_tells es ++ xs) (started_told es caller pipe number started r.5 ∙ ap (λ k. starts_of (max_born (birth es)) (length (submissions es)) k) (r.4 ∙ sym next)) in
      let u = untold_taken (max_born (birth es)) (length (submissions es)) pipeline.delivered (length (finished es)) (let_out es) (drop (collected es) (filter_map step_tells es)) (sym next) (o.untold q) in
      let de = drop_append (collected es) (filter_map step_tells es) (starts_of (max_born (birth es)) (length (submissions es)) (length (finished es))) (collected_within es right q) in
      record {
        chained = ap (λ b. is_born is_chain b) be ∙ o.chained;
        bound = ap bound_born be ∙ o.bound;
        handed = ap (λ ns. length (completed ns)) ho ∙ o.handed;
        within = rw se o.within;
        asks = rw se o.asks;
        untold = λ q'. rw (be, se, fe, te, ce, ne, de) u;
        calm = λ k. absurd (queue_no_lists (birth es) q (lists_of_chain (birth es) (o.chained ∙ k)));
        steady = λ s. absurd (let f : true ≡ false = sym (o.steady s).1 ∙ r.1 in cc);
      }

  -- a chain's request goes on to its pad
  goes_on : (es : List (BoardEntry Ask)) (caller pipe number : ℕ) (started : Option ℕ) (pipeline : Pipeline) → is_held es ≡ false → handed_out (es ++ Deq caller pipe number started ∷ []) ≡ handed_out es
      → is_born is_chain (birth es) ≡ true → IsPipelineOf pipeline es → IsPipelineOf pipeline (es ++ Deq caller pipe number started ∷ [])
  goes_on es caller pipe number started pipeline unheld ho chain o =
      let e : BoardEntry Ask = Deq caller pipe number started in
      let born = born_some is_chain (birth es) chain in
      let be = laws.birth es e born in
      let se : submissions (es ++ e ∷ []) ≡ submissions es = filter_map-none accepted_in es e refl in
      record {
        chained = ap (λ b. is_born is_chain b) be ∙ o.chained;
        bound = ap bound_born be ∙ o.bound;
        handed = ap (λ ns. length (completed ns)) ho ∙ o.handed;
        within = rw se o.within;
        asks = rw se o.asks;
        untold = λ q. absurd (queue_no_lists (birth es) (sym (ap queue_born be) ∙ q) (lists_of_chain (birth es) chain));
        calm = λ k. calm_still es e pipeline pipeline born refl refl (o.calm k);
        steady = λ s. absurd (let f : true ≡ false = sym (o.steady s).1 ∙ unheld in cc);
      }

  -- a request leaves the line
  pub dequeued : (es : List (BoardEntry Ask)) (caller pipe number : ℕ) (started : Option ℕ) (pipeline : Pipeline) → Behaves es → IsRightFor es (Deq caller pipe number started) → handed_out (es ++ Deq caller pipe number started ∷ []) ≡ handed_out es
      → IsPipelineOf pipeline es → IsPipelineOf pipeline (es ++ Deq caller pipe number started ∷ [])
  dequeued es caller pipe number started pipeline right r ho o = by (line_either (birth es) r.0.0)
    where
      by : (queue_born (birth es) ≡ true) ⊎ (is_born is_chain (birth es) ≡ true) → IsPipelineOf pipeline (es ++ Deq caller pipe number started ∷ [])
      by (inl q) = served es caller pipe number started pipeline right r ho q o
      by (inr chain) = goes_on es caller pipe number started pipeline r.1 ho chain o

  -- the request that a queue runs is the one after those that are done
  running : (es : List (BoardEntry Ask)) (caller pipe number : ℕ) → Behaves es → IsRightFor es (Done caller pipe number) → (number ≡ length (finished es)) × (let_out es ≡ length (finished es) + 1)
  running es caller pipe number right r =
      let q = r.0 in
      let v = right.serial q in
      let took : takings es ≡ dequeues es = ap (λ b. cond b (dequeues es) (filter_map taken_in es)) q in
      let among : has number (map (λ (t : ℕ × ℕ). t.0) (dequeues es)) ≡ true = subst (λ ts. has number (map (λ (t : ℕ × ℕ). t.0) ts) ≡ true) took (taker_among (takings es) number caller r.1) in
      let high : number < let_out es = has_only_below (let_out es) number (subst (λ ns. has number ns ≡ true) right.numbers among) in
      let a = v.2 in
      let low : length (finished es) ≤ number = low_number (length (finished es)) number (subst (λ ns. has number ns ≡ false) v.0 r.2) (cases_lt number (length (finished es))) in
      (omega (arith, high, a, low), omega (arith, high, a, low))

  -- it is done
  pub done_one : (es : List (BoardEntry Ask)) (caller pipe number : ℕ) (pipeline : Pipeline) → Behaves es → IsRightFor es (Done caller pipe number) → handed_out (es ++ Done caller pipe number ∷ []) ≡ handed_out es → is_held (es ++ Done caller pipe number ∷ []) ≡ is_held es
      → IsPipelineOf pipeline es → IsPipelineOf pipeline (es ++ Done caller pipe number ∷ [])
  done_one es caller pipe number pipeline right r ho he o =
      let e : BoardEntry Ask = Done caller pipe number in
      let q = r.0 in
      let now = running es caller pipe number right r in
      let be = laws.birth es e (born_some is_serial (birth es) q) in
      let se : submissions (es ++ e ∷ []) ≡ submissions es = filter_map-none accepted_in es e refl in
      let te : let_out (es ++ e ∷ []) ≡ let_out es = ap length (filter_map-none dequeued_in es e refl) in
      let fe : finished (es ++ e ∷ []) ≡ finished es ++ number ∷ [] = filter_map-some finished_in es e number refl in
      let fl : length (finished es ++ number ∷ []) ≡ length (finished es) + 1 = length-append (finished es) (number ∷ []) in
      let ce : collected (es ++ e ∷ []) ≡ collected es = ap (last_or 0) (filter_map-none collected_in es e refl) in
      let ne : filter_map step_tells (es ++ e ∷ []) ≡ filter_map step_tells es ++ Completes (length (finished es)) ∷ [] =
      filter_map-some step_tells es e (Completes number) refl ∙ ap (λ k. filter_map step_tells es ++ Completes k ∷ []) now.0 in
      let u = untold_done (max_born (birth es)) (length (submissions es)) pipeline.delivered (length (finished es)) (let_out es) (drop (collected es) (filter_map step_tells es)) now.1 (o.untold q) in
      let de = drop_append (collected es) (filter_map step_tells es) (Completes (length (finished es)) ∷ []) (collected_within es right q) in
      record {
        chained = ap (λ b. is_born is_chain b) be ∙ o.chained;
        bound = ap bound_born be ∙ o.bound;
        handed = ap (λ ns. length (completed ns)) ho ∙ o.handed;
        within = rw se o.within;
        asks = rw se o.asks;
        untold = λ q'. rw (be, se, fe, fl, te, ce, ne, de) u;
        calm = λ k. absurd (queue_no_lists (birth es) q (lists_of_chain (birth es) (o.chained ∙ k)));
        steady = λ s. let w = o.steady s in (ap has_queue_born be ∙ w.0, he ∙ w.1, te ∙ w.2);
      }

  -- ---- held, and let go

  none_owed : (pipeline : Pipeline) (es : List (BoardEntry Ask)) → Behaves es → has_queue_born (birth es) ≡ true → is_all_delivered pipeline.undelivered ≡ true → IsPipelineOf pipeline es → let_out es ≡ pipeline.delivered
  none_owed pipeline es right line none o =
      let queued = right.queued in
      omega (arith, queued, left_before es pipeline right line o, owed_count pipeline es o, empty pipeline.undelivered none)
    where
      empty : (asks : List Asked) → is_all_delivered asks ≡ true → length asks ≡ 0
      empty [] e = refl
      empty (x ∷ asks) e = absurd cc

  pub held_now : (es : List (BoardEntry Ask)) (caller pipe : ℕ) (pipeline : Pipeline) → Behaves es → has_queue_born (birth es) ≡ true → handed_out (es ++ Hold caller pipe ∷ []) ≡ handed_out es → is_held (es ++ Hold caller pipe ∷ []) ≡ true
      → IsPipelineOf pipeline es → IsPipelineOf (now_held pipeline) (es ++ Hold caller pipe ∷ [])
  held_now es caller pipe pipeline right line ho he o =
      stays_quiet es (Hold caller pipe) pipeline (now_held pipeline) (born_some has_queue (birth es) line) ho refl refl refl refl refl refl refl refl refl (λ s. by pipeline.held_throughout refl s) o
    where
      by : (b : Bool) → pipeline.held_throughout ≡ b → (b || is_all_delivered pipeline.undelivered) ≡ true → (has_queue_born (birth es) ≡ true) × (is_held (es ++ Hold caller pipe ∷ []) ≡ true) × (let_out es ≡ pipeline.delivered)
      by true e s = let w = o.steady e in (w.0, he, w.2)
      by false e s = (line, he, none_owed pipeline es right line s o)

  pub let_go_now : (es : List (BoardEntry Ask)) (caller pipe : ℕ) (pipeline : Pipeline) → is_some (birth es) ≡ true → handed_out (es ++ Go caller pipe ∷ []) ≡ handed_out es → IsPipelineOf pipeline es → IsPipelineOf (let_go pipeline) (es ++ Go caller pipe ∷ [])
  let_go_now es caller pipe pipeline born ho o = stays_quiet es (Go caller pipe) pipeline (let_go pipeline) born ho refl refl refl refl refl refl refl refl refl (λ s. absurd cc) o

  -- an entry that is no matter
  pub left_alone : (es : List (BoardEntry Ask)) (e : BoardEntry Ask) (pipeline : Pipeline) → is_some (birth es) ≡ true → handed_out (es ++ e ∷ []) ≡ handed_out es → accepted_in e ≡ None → dequeued_in e ≡ None → finished_in e ≡ None → step_tells e ≡ None → collected_in e ≡ None
      → is_held (es ++ e ∷ []) ≡ is_held es → IsPipelineOf pipeline es → IsPipelineOf pipeline (es ++ e ∷ [])
  left_alone es e pipeline born ho a t f n c he o = stays_quiet es e pipeline pipeline born ho a t f n c refl refl refl refl (λ s. let w = o.steady s in (w.0, he ∙ w.1, w.2)) o

  -- ---- collected where all is done

  completed_first : (n many c : ℕ) → c ≤ many → length (completed (take c (completes_from n many))) ≡ c
  completed_first n many zero le = refl
  completed_first n zero (suc c) le = absurd (omega (arith, le))
  completed_first n (suc many) (suc c) le = ap suc (completed_first (suc n) many c (omega (arith, le)))

  -- of a pipeline that told completions alone as much is handed out as is collected
  counts_collected : (es : List (BoardEntry Ask)) (pipeline : Pipeline) → Behaves es → told es ≡ completes_from 0 (front es) → IsPipelineOf pipeline es → collected es ≡ pipeline.delivered
  counts_collected es pipeline right told_all o =
      let few : collected es ≤ front es = subst (λ n. collected es ≤ n) (ap length told_all ∙ length_completes 0 (front es)) right.within in
      sym (completed_first 0 (front es) (collected es) few)
      ∙ (ap (λ ns. length (completed (take (collected es) ns))) (sym told_all) ∙ (ap (λ ns. length (completed ns)) (sym right.handed) ∙ o.handed))

  -- a queue on which all is done has taken and finished all
  all_finished : (es : List (BoardEntry Ask)) → Behaves es → queue_born (birth es) ≡ true → AreAllFinished es → (length (finished es) ≡ length (submissions es)) × (let_out es ≡ length (submissions es))
  all_finished es right q all =
      let few = (right.serial q).1 in
      let queued = right.queued in
      let most : length (submissions es) ≤ length (finished es) = by (cases_lt (length (finished es)) (length (submissions es))) (right.serial q).0 in
      (omega (arith, few, queued, most), omega (arith, few, queued, most))
    where
      by : (length (finished es) < length (submissions es)) ⊎ (length (submissions es) ≤ length (finished es)) → finished es ≡ numbers_below (length (finished es)) → length (submissions es) ≤ length (finished es)
      by (inr le) order = le
      by (inl lt) order =
          let h : length (finished es) < length (finished es) = has_only_below (length (finished es)) (length (finished es)) (subst (λ ns. has (length (finished es)) ns ≡ true) order (all (length (finished es)) lt)) in
          absurd (omega (arith, h))

  -- what a collect hands out then is what a plain drain tells
  pub delivers : (es : List (BoardEntry Ask)) (pipeline : Pipeline) (to : ℕ) → Behaves es → is_some (birth es) ≡ true → to ≡ length (told es) → is_all_done es ≡ true → IsPipelineOf pipeline es → delivered outcome es to ≡ drained_from pipeline
  delivers es pipeline to right born to_all done o = by (any_shape (birth es) born)
    where
      front_all : front es ≡ length (submissions es)
      front_all = eqb-true (front es) (length (submissions es)) done

      many : pipeline.delivered + length pipeline.undelivered ≡ length (submissions es)
      many = owed_count pipeline es o

      whole : take to (told es) ≡ told es
      whole = ap (λ n. take n (told es)) to_all ∙ take-length (told es)

      -- completions alone were told
      completions : told es ≡ completes_from 0 (front es) → delivered outcome es to ≡ drained None pipeline.delivered pipeline.undelivered
      completions told_all =
          (λ i. filter_map (callback_of outcome (submissions es)) (drop (counts_collected es pipeline right told_all o i) (whole i)))
          ∙ (ap (λ ns. filter_map (callback_of outcome (submissions es)) (drop pipeline.delivered ns)) (told_all ∙ ap (completes_from 0) front_all)
          ∙ (pad_callbacks (submissions es) pipeline.delivered (length pipeline.undelivered) many
          ∙ ap (λ asks. drained None pipeline.delivered asks) o.asks))

      by : (pad_born (birth es) ≡ true) ⊎ ((queue_born (birth es) ≡ true) ⊎ (is_born is_chain (birth es) ≡ true)) → delivered outcome es to ≡ drained_from pipeline
      by (inl pad) = completions (right.pad pad) ∙ ap (λ b. drained b pipeline.delivered pipeline.undelivered) (sym (bound_of_pad (birth es) pad) ∙ o.bound)
      by (inr (inr chain)) =
          let calm = o.calm (sym o.chained ∙ chain) in
          completions (calm_tells es right calm.1)
          ∙ (sym (calm_drain (max_born (birth es)) pipeline.delivered pipeline.undelivered (omega (arith, calm.0, many)))
          ∙ ap (λ b. drained b pipeline.delivered pipeline.undelivered) (sym (bound_of_line (birth es) (line_of_chain (birth es) chain)) ∙ o.bound))
      by (inr (inl q)) =
          let f = all_finished es right q (laws.front_all es front_all) in
          let u = untold_all (max_born (birth es)) (length (submissions es)) pipeline.delivered (length (finished es)) (let_out es) (drop (collected es) (filter_map step_tells es)) f.0 (omega (arith, f.1)) (o.untold q) in
          ap (λ ns. filter_map (callback_of outcome (submissions es)) (drop (collected es) ns)) (whole ∙ right.queue q)
          ∙ (ap (λ ns. filter_map (callback_of outcome (submissions es)) ns) u.2
          ∙ (queue_callbacks (submissions es) (max_born (birth es)) pipeline.delivered u.0 (drop pipeline.delivered (submissions es)) refl u.1
          ∙ (λ i. drained ((sym (bound_of_line (birth es) (has_queue_of_queue (birth es) q)) ∙ o.bound) i) pipeline.delivered (o.asks i))))

  pub collected_now : (es : List (BoardEntry Ask)) (caller pipe to : ℕ) (pipeline : Pipeline) → length (completed (handed_out (es ++ Collect caller pipe to ∷ []))) ≡ length (submissions es) → Behaves es → is_some (birth es) ≡ true → to ≡ length (told es) → is_all_done es ≡ true
      → is_held (es ++ Collect caller pipe to ∷ []) ≡ is_held es → IsPipelineOf pipeline es → IsPipelineOf (all_delivered pipeline) (es ++ Collect caller pipe to ∷ [])
  collected_now es caller pipe to pipeline out right born to_all done he o =
      let e : BoardEntry Ask = Collect caller pipe to in
      let be = laws.birth es e born in
      let se : submissions (es ++ e ∷ []) ≡ submissions es = filter_map-none accepted_in es e refl in
      let te : let_out (es ++ e ∷ []) ≡ let_out es = ap length (filter_map-none dequeued_in es e refl) in
      let fe : finished (es ++ e ∷ []) ≡ finished es = filter_map-none finished_in es e refl in
      let ne : filter_map step_tells (es ++ e ∷ []) ≡ filter_map step_tells es = filter_map-none step_tells es e refl in
      let ce : collected (es ++ e ∷ []) ≡ to = ap (last_or 0) (filter_map-some collected_in es e to refl) ∙ last_or-append 0 (filter_map collected_in es) to in
      let many : next_number pipeline ≡ length (submissions es) = owed_count pipeline es o in
      let front_all : front es ≡ length (submissions es) = eqb-true (front es) (length (submissions es)) done in
      let all : AreAllFinished es = laws.front_all es front_all in
      record {
        chained = ap (λ b. is_born is_chain b) be ∙ o.chained;
        bound = ap bound_born be ∙ o.bound;
        handed = out ∙ sym many;
        within = rw se (omega (arith, many));
        asks = rw se (ap (λ xs. map asked_by xs) (drop_all (next_number pipeline) (submissions es) many));
        untold = λ q.
            let queue : queue_born (birth es) ≡ true = sym (ap queue_born be) ∙ q in
            let f = all_finished es right queue all in
            let none : drop to (filter_map step_tells es) ≡ [] = drop_all to (filter_map step_tells es) (to_all ∙ ap length (right.queue queue)) in
            rw (be, se, te, fe, ce, ne, none, f.0, f.1, many) (untold_none (max_born (birth es)) (length (submissions es)) (length (submissions es)));
        calm = λ k. (rw (be, se) (omega (arith, many)), filter_map-none backlogged_in es e refl ∙ (o.calm k).1);
        steady = λ s. let w = o.steady s in (ap has_queue_born be ∙ w.0, he ∙ w.1, te ∙ (all_left es right w.0 front_all ∙ sym many));
      }

  -- ---- born

  pub born_now : (es : List (BoardEntry Ask)) (caller pipe : ℕ) (shape : Shape) → es ≡ [] → IsPipelineOf (new_pipeline shape) (es ++ Born caller pipe shape ∷ [])
  born_now [] caller pipe shape e = record {
    chained = refl;
    bound = refl;
    handed = refl;
    within = omega arith;
    asks = refl;
    untold = λ q. untold_none (max_born (Some (caller, shape))) 0 0;
    calm = λ k. (omega arith, refl);
    steady = λ s. absurd cc;
  }
  born_now (x ∷ es) caller pipe shape e = absurd cc

  -- ---- verdicts

  -- a request that meets room is answered by what is owed as by what waits
  pub waits_as : (es : List (BoardEntry Ask)) (pipeline : Pipeline) (backlog : Bool) → Behaves es → has_queue_born (birth es) ≡ true → has_room backlog pipeline ≡ true → IsPipelineOf pipeline es → verdict es backlog ≡ verdict_of backlog pipeline
  waits_as es pipeline backlog right line roomy o =
      (λ i. cond (nat_lt (waiting es) (max_born (birth es))) (InProgress (number i)) (cond backlog (Busy (number i)) NoSpace))
      ∙ (ap (λ b. cond b (InProgress (next_number pipeline)) (cond backlog (Busy (next_number pipeline)) NoSpace)) (by (room backlog pipeline es o line roomy))
      ∙ ap (λ b. verdict_at (next_number pipeline) (length pipeline.undelivered) backlog b) (sym (bound_of_line (birth es) line) ∙ o.bound))
    where
      number : length (submissions es) ≡ next_number pipeline
      number = sym (owed_count pipeline es o)

      same_tests : (a b m : ℕ) → a ≡ b → nat_lt a m ≡ nat_lt b m
      same_tests a b m e = ap (λ x. nat_lt x m) e

      both_less : (a b m : ℕ) → a < m → b < m → nat_lt a m ≡ nat_lt b m
      both_less a b m p r = grind (arith, nat_tests)

      by : Finds backlog pipeline es → nat_lt (waiting es) (max_born (birth es)) ≡ nat_lt (length pipeline.undelivered) (max_born (birth es))
      by (inl none) = same_tests (waiting es) (length pipeline.undelivered) (max_born (birth es)) (omega (arith, none.0, number))
      by (inr calm) =
          both_less (waiting es) (length pipeline.undelivered) (max_born (birth es)) (omega (arith, calm, left_before es pipeline right line o, right.queued)) (omega (arith, calm, number))
