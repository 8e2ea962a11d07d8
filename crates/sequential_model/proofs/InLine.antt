-- A pipeline in front of which a queue stands: what left the queue, and what a chain told whose backlog was empty.
use Rattle.std.proofs.Common.{◌≡◌, ℕ, zero, suc, ◌+◌, ◌<◌, ◌≤◌, true, false, cond, List, [], ◌∷◌, ◌++◌, length, map, refl, ap, sym, ◌∙◌, subst, arith, Some, None}
use Rattle.std.specs.Prelude.{◌==◌, nat_le}
use Rattle.std.proofs.lemmas.Bool.{eq-eqb, or_left}
use Rattle.std.proofs.lemmas.Bool.Decides.{nat_tests}
use Rattle.std.proofs.lemmas.List.{map-append}
use Rattle.kc_base.specs.declared.callback_list.Callback.TheVariants.{Started, Done}
use Rattle.board.specs.declared.entry.BoardEntry.{BoardEntry}
use Rattle.board.specs.Shapes.{has_queue_born}
use Rattle.board.specs.Entries.{Notice, Starts, Completes, birth, submissions, dequeued, has, front, completes_from, told}
use Rattle.board.specs.Order.{completed, started, backlogged, numbers_below}
use Rattle.transforms.specs.declared.ask.Ask.{Ask}
use Rattle.transforms.specs.Finish.{finished_of}
use Rattle.dialogues.specs.BoardCalls.{Asked}
use Rattle.dialogues.specs.RequestCommands.{value_of}
use Rattle.sequential_model.specs.Pipelines.{Pipeline}
use Rattle.sequential_model.proofs.Behaving.{Behaves}
use Rattle.sequential_model.proofs.Callbacks.{drained}
use Rattle.sequential_model.proofs.Standing.{IsPipelineOf}

-- ---- what left the line

passed_line : (es : List (BoardEntry Ask)) → Behaves es → has_queue_born (birth es) ≡ true → front es ≤ dequeued es
passed_line es right line = subst (λ b. front es ≤ cond b (dequeued es) (length (submissions es))) line right.passed

-- what was handed out had left the line
pub left_before : (es : List (BoardEntry Ask)) (pipeline : Pipeline) → Behaves es → has_queue_born (birth es) ≡ true → IsPipelineOf pipeline es → pipeline.delivered ≤ dequeued es
left_before es pipeline right line o =
    let few = right.waits in
    omega (arith, few, o.handed, passed_line es right line)

-- where all is done, all left it
pub all_left : (es : List (BoardEntry Ask)) → Behaves es → has_queue_born (birth es) ≡ true → front es ≡ length (submissions es) → dequeued es ≡ length (submissions es)
all_left es right line done =
    let most = right.queued in
    omega (arith, most, done, passed_line es right line)

-- ---- what a chain told

none_has : (ns : List ℕ) → ((n : ℕ) → has n ns ≡ true → ⊥) → ns ≡ []
none_has [] f = refl
none_has (n ∷ ns) f = absurd (f n (or_left (n == n) (has n ns) (eq-eqb n n refl)))

all_complete : (ns : List Notice) → started ns ≡ [] → ns ≡ map Completes (completed ns)
all_complete [] e = refl
all_complete (Starts n ∷ ns) e = absurd cc
all_complete (Completes n ∷ ns) e = ap (λ xs. Completes n ∷ xs) (all_complete ns e)

completes_more : (n k : ℕ) → completes_from n (suc k) ≡ completes_from n k ++ Completes (n + k) ∷ []
completes_more n zero = let e : n ≡ n + 0 = omega arith in ap (λ m. Completes m ∷ []) e
completes_more n (suc k) =
    let e : suc n + k ≡ n + suc k = omega arith in
    ap (λ ns. Completes n ∷ ns) (completes_more (suc n) k ∙ ap (λ m. completes_from (suc n) k ++ Completes m ∷ []) e)

completes_below : (n : ℕ) → map Completes (numbers_below n) ≡ completes_from 0 n
completes_below zero = refl
completes_below (suc n) =
    let e : n ≡ 0 + n = omega arith in
    map-append Completes (numbers_below n) (n ∷ [])
    ∙ (ap (λ ns. ns ++ Completes n ∷ []) (completes_below n) ∙ (ap (λ m. completes_from 0 n ++ Completes m ∷ []) e ∙ sym (completes_more 0 n)))

-- a pipeline that accepted nothing into a backlog tells the completions up to its front
pub calm_tells : (es : List (BoardEntry Ask)) → Behaves es → backlogged es ≡ [] → told es ≡ completes_from 0 (front es)
calm_tells es right none = all_complete (told es) unstarted ∙ (ap (λ ns. map Completes ns) right.order ∙ completes_below (front es))
  where
    unstarted : started (told es) ≡ []
    unstarted = none_has (started (told es)) (λ n s. absurd (let f : has n [] ≡ true = subst (λ ns. has n ns ≡ true) none (right.starts n s) in cc))

-- ---- drains

is_not_le : (a b : ℕ) → b < a → nat_le a b ≡ false
is_not_le a b lt = grind (arith, nat_tests)

-- where no more are owed than fit a queue, a drain tells of none that it has started
pub calm_drain : (max n : ℕ) (asks : List Asked) → length asks ≤ max → drained (Some max) n asks ≡ drained None n asks
calm_drain max n [] le = refl
calm_drain max n (a ∷ later) le =
    let none = is_not_le max (length later) (omega (arith, le)) in
    let rest = calm_drain max (n + 1) later (omega (arith, le)) in
    λ i. cond (none i) (Started (n + max) ∷ []) [] ++ Done n (finished_of (value_of a)) ∷ rest i
