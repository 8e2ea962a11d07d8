-- What the collects of a pipeline deliver, for any meaning.
use Rattle.std.proofs.Common.{◌≡◌, ℕ, zero, suc, ◌+◌, Option, Some, None, List, [], ◌∷◌, ◌++◌, length, map, take, slice_get, refl, sym, ◌∙◌, ap, subst, arith, append-nil, zero-add}
use Rattle.std.specs.Prelude.{filter}
use Rattle.std.specs.List.{filter_map, cons_option}
use Rattle.std.proofs.lemmas.Bool.{eq-eqb}
use Rattle.std.proofs.lemmas.List.{take_all, length-map}
use Rattle.std.proofs.lemmas.List.Elements.{filter_map-append}
use Rattle.kc_base.specs.declared.callback_list.Callback.{Callback}
use Rattle.kc_base.specs.declared.callback_list.Callback.TheVariants as callback
use Rattle.padata_core.specs.Pad.{done_from}
use Rattle.board.specs.declared.entry.BoardEntry.{BoardEntry}
use Rattle.board.specs.declared.entry.BoardEntry.TheVariants.{Born, Submit, Take, Finish, Enq, Deq, Done, Hold, Go, Collect, Close, Share, Mask, Shut}
use Rattle.board.specs.Entries.{Notice, Starts, Completes, entries_of, accepted_in, submissions, completion, meaning_at, callback_of, front, told, collected}
use Rattle.board.specs.HandedOut.{is_completion}
use Rattle.board.specs.Legal.{LegalBoard}
use Rattle.board.specs.Order.{handed_out, AreRightForAfter, completed, numbers_below}
use Rattle.board.proofs.Transfer.{each_right, entries-more, before_last}
use Rattle.board.proofs.Handing.{handed_in_order}
use Rattle.board.proofs.Keeping.{orderly}
use Rattle.board.proofs.KeptEntering.{meaning-more}
use Rattle.collect_laws.specs.Delivered.{delivered_by, delivered_after, all_completed, all_due, DeliversTold, DeliversTheFirst, DeliversAllFinished, DeliversAll}
use Rattle.collect_laws.proofs.Reading.{Stays, read_in, read_after, reads_all, collect_tells, first_of}

callback_stays : {A O : Type 0} (meaning : A → O) → Stays (callback_of meaning)
callback_stays meaning asks more (Starts n) l = refl
callback_stays meaning asks more (Completes n) l = ap (completion n) (meaning-more meaning asks more n l)

by_reads : {A O : Type 0} (meaning : A → O) (es : List (BoardEntry A)) (e : BoardEntry A) → delivered_by meaning es e ≡ read_in (callback_of meaning) es e
by_reads meaning es (Collect caller pipe to) = refl
by_reads meaning es (Born caller pipe shape) = refl
by_reads meaning es (Submit caller pipe number ask) = refl
by_reads meaning es (Take caller pipe number) = refl
by_reads meaning es (Finish caller pipe number) = refl
by_reads meaning es (Enq caller pipe ask backlog answer) = refl
by_reads meaning es (Deq caller pipe number started) = refl
by_reads meaning es (Done caller pipe number) = refl
by_reads meaning es (Hold caller pipe) = refl
by_reads meaning es (Go caller pipe) = refl
by_reads meaning es (Close caller pipe) = refl
by_reads meaning es (Share caller pipe) = refl
by_reads meaning es (Mask caller pipe bits) = refl
by_reads meaning es (Shut caller) = refl

after_reads : {A O : Type 0} (meaning : A → O) (before es : List (BoardEntry A)) → delivered_after meaning before es ≡ read_after (callback_of meaning) before es
after_reads meaning before [] = refl
after_reads meaning before (e ∷ es) =
    ap (λ cs. cs ++ delivered_after meaning (before ++ e ∷ []) es) (by_reads meaning before e)
    ∙ ap (λ cs. read_in (callback_of meaning) before e ++ cs) (after_reads meaning (before ++ e ∷ []) es)

pub delivers_told : {A O : Type 0} (meaning : A → O) (h : List (BoardEntry A)) (p : ℕ) → DeliversTold meaning h p
delivers_told meaning h p legal =
    after_reads meaning [] (entries_of p h) ∙ reads_all (callback_of meaning) (callback_stays meaning) (entries_of p h) (each_right [] h p legal)

-- ---- the completions among them

get_done : {O : Type 0} (m : ℕ) (outs : List O) (n : ℕ) → completion (m + n) (slice_get outs n) ≡ slice_get (done_from m outs) n
get_done m [] n = refl
get_done m (out ∷ outs) zero = ap (λ k. Some (callback.Done k out)) (let e : m + 0 ≡ m = omega arith in e)
get_done m (out ∷ outs) (suc n) =
    ap (λ k. completion k (slice_get outs n)) (let e : m + suc n ≡ (m + 1) + n = omega arith in e) ∙ get_done (m + 1) outs n

done_step : {O : Type 0} (n : ℕ) (o : Option O) (cs ds : List (Callback O)) → filter is_completion cs ≡ ds → filter is_completion (cons_option (completion n o) cs) ≡ cons_option (completion n o) ds
done_step n None cs ds e = e
done_step n (Some out) cs ds e = ap (λ xs. callback.Done n out ∷ xs) e

completions_of : {A O : Type 0} (meaning : A → O) (asks : List A) (ns : List Notice) → filter is_completion (filter_map (callback_of meaning asks) ns) ≡ filter_map (slice_get (done_from 0 (map meaning asks))) (completed ns)
completions_of meaning asks [] = refl
completions_of meaning asks (Starts n ∷ ns) = completions_of meaning asks ns
completions_of meaning asks (Completes n ∷ ns) =
    done_step n (meaning_at meaning asks n) (filter_map (callback_of meaning asks) ns) (filter_map (slice_get (done_from 0 (map meaning asks))) (completed ns)) (completions_of meaning asks ns)
    ∙ ap (λ o. cons_option o (filter_map (slice_get (done_from 0 (map meaning asks))) (completed ns)))
    (ap (λ k. completion k (meaning_at meaning asks n)) (sym (zero-add n)) ∙ get_done 0 (map meaning asks) n)

first_due : {A O : Type 0} (meaning : A → O) (h : List (BoardEntry A)) (p k : ℕ) → LegalBoard h → completed (take (collected (entries_of p h)) (told (entries_of p h))) ≡ numbers_below k → all_completed meaning (entries_of p h) ≡ take k (all_due meaning (entries_of p h))
first_due meaning h p k legal is =
    let es = entries_of p h in
    ap (filter is_completion) (delivers_told meaning h p legal)
    ∙ (completions_of meaning (submissions es) (take (collected es) (told es))
    ∙ (ap (filter_map (slice_get (all_due meaning es))) is ∙ first_of (all_due meaning es) k))

pub delivers_first : {A O : Type 0} (meaning : A → O) (h : List (BoardEntry A)) (p : ℕ) → DeliversTheFirst meaning h p
delivers_first meaning h p legal =
    let es = entries_of p h in
    let right = each_right [] h p legal in
    let k = length (completed (handed_out es)) in
    (k, first_due meaning h p k legal (ap completed (sym (orderly es right).telling.front_of) ∙ handed_in_order es right))

pub delivers_finished : {A O : Type 0} (meaning : A → O) (h : List (BoardEntry A)) (caller p to : ℕ) → DeliversAllFinished meaning h caller p to
delivers_finished {A} meaning h caller p to legal =
    let es = entries_of p h in
    let e : BoardEntry A = Collect caller p to in
    let more : entries_of p (h ++ e ∷ []) ≡ es ++ e ∷ [] = entries-more h p e (eq-eqb p p refl) in
    let right : AreRightForAfter [] (es ++ e ∷ []) = subst (λ xs. AreRightForAfter [] xs) more (each_right [] (h ++ e ∷ []) p legal) in
    let same : all_due meaning (entries_of p (h ++ e ∷ [])) ≡ all_due meaning es =
    ap (all_due meaning) more ∙ ap (λ xs. done_from 0 (map meaning xs)) (filter_map-append accepted_in es (e ∷ []) ∙ append-nil (submissions es)) in
    first_due meaning (h ++ e ∷ []) p (front es) legal
    (ap (λ xs. completed (take (collected xs) (told xs))) more ∙ collect_tells es caller p to right (each_right [] h p (before_last [] h e legal)))
    ∙ ap (take (front es)) same

length-done : {O : Type 0} (m : ℕ) (outs : List O) → length (done_from m outs) ≡ length outs
length-done m [] = refl
length-done m (out ∷ outs) = ap suc (length-done (m + 1) outs)

pub delivers_all : {A O : Type 0} (meaning : A → O) (h : List (BoardEntry A)) (caller p to : ℕ) → DeliversAll meaning h caller p to
delivers_all meaning h caller p to legal all =
    let asks = submissions (entries_of p h) in
    delivers_finished meaning h caller p to legal
    ∙ take_all (front (entries_of p h)) (all_due meaning (entries_of p h)) (let l = length-done 0 (map meaning asks) in let k = length-map asks meaning in omega arith)
