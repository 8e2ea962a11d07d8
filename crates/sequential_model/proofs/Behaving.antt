-- What the laws of a board say of the entries of one pipeline.
use Rattle.std.proofs.Common.{◌≡◌, ℕ, ◌+◌, ◌≤◌, ◌⊎◌, inl, inr, true, false, List, [], ◌∷◌, ◌++◌, length, map, take, refl, ap, sym, ◌∙◌, subst, arith, Option, Some, None, is_some, append-nil, append_assoc, length-append}
use Rattle.std.specs.List.{filter_map}
use Rattle.board.specs.declared.entry.Shape.{Shape}
use Rattle.board.specs.declared.entry.Shape.TheVariants.{Pad, Queue, Chain}
use Rattle.board.specs.declared.entry.BoardEntry.{BoardEntry}
use Rattle.board.specs.declared.entry.BoardEntry.TheVariants.{Collect}
use Rattle.board.specs.Shapes.{is_pad, is_serial, is_chain, is_born, pad_born, queue_born, has_queue_born, lists_born}
use Rattle.board.specs.Entries.{entries_of, submissions, dequeues, dequeued, passed_on, finished, has, front, completes_from, tells, told_after, told, collected_in, collected, last_or, held_in, is_held}
use Rattle.board.specs.NextEntry.{GoesOn, IsRightAlone, AreRightAlone, IsOfOne, LeavesBirth, LeaveInOrder, FrontIsPassed, RunsOneByOne}
use Rattle.board.specs.HandedOut.{HandsNothing}
use Rattle.board.specs.Legal.{Is, IsRightFor, LegalBoard}
use Rattle.board.specs.Order.{handed_out, completed, started, backlogged, numbers_below, step_tells, AreRightForAfter, KeepsOrder, HandsOutTold, WaitsForEach, HandsOutAll, FrontIsAll, PadTellsFront, QueueTellsSteps, StartsBackloggedAlone}
use Rattle.board.specs.PipelineHistory.{Joins, LeavesOthers, Holds}
use Rattle.board.proofs.Lists.{filter_map-none, filter_map-some, last_or-append}
use Rattle.transforms.specs.declared.ask.Ask.{Ask}

-- the laws
pub record BoardLaws : Type 0 where
  pub more : (h : List (BoardEntry Ask)) (e : BoardEntry Ask) → GoesOn h e
  pub alone : (h : List (BoardEntry Ask)) (e : BoardEntry Ask) (p : ℕ) → IsRightAlone h e p
  pub each : (h : List (BoardEntry Ask)) (p : ℕ) → AreRightAlone h p
  pub one : (e : BoardEntry Ask) (p q : ℕ) → IsOfOne e p q
  pub birth : (es : List (BoardEntry Ask)) (e : BoardEntry Ask) → LeavesBirth es e
  pub joins : (h : List (BoardEntry Ask)) (e : BoardEntry Ask) (p : ℕ) → Joins h e p
  pub leaves : (h : List (BoardEntry Ask)) (e : BoardEntry Ask) (p : ℕ) → LeavesOthers h e p
  pub nothing : (h : List (BoardEntry Ask)) (e : BoardEntry Ask) (p : ℕ) → HandsNothing h e p
  pub holds : (h : List (BoardEntry Ask)) (caller p : ℕ) → Holds h caller p
  pub pads : (h : List (BoardEntry Ask)) (p : ℕ) → PadTellsFront h p
  pub queues : (h : List (BoardEntry Ask)) (q : ℕ) → QueueTellsSteps h q
  pub order : (h : List (BoardEntry Ask)) (p : ℕ) → KeepsOrder h p
  pub handed : (h : List (BoardEntry Ask)) (p : ℕ) → HandsOutTold h p
  pub waits : (h : List (BoardEntry Ask)) (p : ℕ) → WaitsForEach h p
  pub starts : (h : List (BoardEntry Ask)) (p n : ℕ) → StartsBackloggedAlone h p n
  pub all_out : (h : List (BoardEntry Ask)) (p caller to : ℕ) → HandsOutAll h p caller to
  pub front_all : (es : List (BoardEntry Ask)) → FrontIsAll es
  pub leave : (h : List (BoardEntry Ask)) (p : ℕ) → LeaveInOrder h p
  pub passed : (h : List (BoardEntry Ask)) (p : ℕ) → FrontIsPassed h p
  pub serial : (h : List (BoardEntry Ask)) (q : ℕ) → RunsOneByOne h q

-- so these entries are those of a pipeline of a legal history
pub record Behaves (es : List (BoardEntry Ask)) : Type 0 where
  pub pad : Is is_pad es → told es ≡ completes_from 0 (front es)
  pub queue : Is is_serial es → told es ≡ filter_map step_tells es
  pub order : completed (told es) ≡ numbers_below (front es)
  pub handed : handed_out es ≡ take (collected es) (told es)
  pub waits : length (completed (handed_out es)) ≤ front es
  pub starts : (n : ℕ) → has n (started (told es)) ≡ true → has n (backlogged es) ≡ true
  pub within : collected es ≤ length (told es)
  pub numbers : map (λ (t : ℕ × ℕ). t.0) (dequeues es) ≡ numbers_below (dequeued es)
  pub queued : dequeued es ≤ length (submissions es)
  pub passed : front es ≤ passed_on es
  pub serial : Is is_serial es
      → (finished es ≡ numbers_below (length (finished es)))
      × (length (finished es) ≤ dequeued es)
      × (dequeued es ≤ length (finished es) + 1)

-- ---- no more is collected than was told

told_more : (before xs : List (BoardEntry Ask)) (e : BoardEntry Ask) → told_after before (xs ++ e ∷ []) ≡ told_after before xs ++ tells (before ++ xs) e
told_more before [] e = append-nil (tells before e) ∙ ap (λ es. tells es e) (sym (append-nil before))
told_more before (x ∷ xs) e =
    ap (λ ns. tells before x ++ ns) (told_more (before ++ x ∷ []) xs e ∙ ap (λ es. told_after (before ++ x ∷ []) xs ++ tells es e) (append_assoc before (x ∷ []) xs))
    ∙ sym (append_assoc (tells before x) (told_after (before ++ x ∷ []) xs) (tells (before ++ x ∷ xs) e))

collects_told : (es : List (BoardEntry Ask)) (e : BoardEntry Ask) → IsRightFor es e → (collected_in e ≡ None) ⊎ (collected_in e ≡ Some (length (told es)))
collects_told es (Collect caller pipe to) r = inr (ap (λ (n : ℕ). Some n) r.2)
collects_told es e r = inl refl

within_step : (es : List (BoardEntry Ask)) (e : BoardEntry Ask) → IsRightFor es e → collected es ≤ length (told es) → collected (es ++ e ∷ []) ≤ length (told (es ++ e ∷ []))
within_step es e r le = by (collects_told es e r)
  where
    grows : length (told es) ≤ length (told (es ++ e ∷ []))
    grows = let t = ap length (told_more [] es e) in let l = length-append (told es) (tells es e) in omega arith

    by : (collected_in e ≡ None) ⊎ (collected_in e ≡ Some (length (told es))) → collected (es ++ e ∷ []) ≤ length (told (es ++ e ∷ []))
    by (inl none) =
        let c : collected (es ++ e ∷ []) ≡ collected es = ap (last_or 0) (filter_map-none collected_in es e none) in
        let g = grows in
        omega arith
    by (inr some) =
        let c : collected (es ++ e ∷ []) ≡ length (told es) = ap (last_or 0) (filter_map-some collected_in es e (length (told es)) some) ∙ last_or-append 0 (filter_map collected_in es) (length (told es)) in
        let g = grows in
        omega arith

within_run : (before es : List (BoardEntry Ask)) → collected before ≤ length (told before) → AreRightForAfter before es → collected (before ++ es) ≤ length (told (before ++ es))
within_run before [] le r = subst (λ xs. collected xs ≤ length (told xs)) (sym (append-nil before)) le
within_run before (e ∷ es) le r = subst (λ xs. collected xs ≤ length (told xs)) (append_assoc before (e ∷ []) es) (within_run (before ++ e ∷ []) es (within_step before e r.0 le) r.1)

pub behaves : BoardLaws → (b : List (BoardEntry Ask)) (p : ℕ) → LegalBoard b → Behaves (entries_of p b)
behaves laws b p legal = record {
  pad = laws.pads b p legal;
  queue = laws.queues b p legal;
  order = laws.order b p legal;
  handed = laws.handed b p legal;
  waits = laws.waits b p legal;
  starts = λ n. laws.starts b p n legal;
  within = within_run [] (entries_of p b) (omega arith) (laws.each b p legal);
  numbers = (laws.leave b p legal).0;
  queued = (laws.leave b p legal).1;
  passed = laws.passed b p legal;
  serial = laws.serial b p legal;
}

pub held_same : (es : List (BoardEntry Ask)) (e : BoardEntry Ask) → held_in e ≡ None → is_held (es ++ e ∷ []) ≡ is_held es
held_same es e none = ap (last_or false) (filter_map-none held_in es e none)

-- ---- births

-- a pad has no line, a queue no lists, and a chain is neither
pub pad_no_queue : (b : Option (ℕ × Shape)) → pad_born b ≡ true → has_queue_born b ≡ true → ⊥
pad_no_queue None p q = cc
pad_no_queue (Some (maker, Pad lists)) p q = cc
pad_no_queue (Some (maker, Queue max)) p q = cc
pad_no_queue (Some (maker, Chain max lists)) p q = cc

pub queue_no_lists : (b : Option (ℕ × Shape)) → queue_born b ≡ true → lists_born b ≡ true → ⊥
queue_no_lists None p q = cc
queue_no_lists (Some (maker, Pad lists)) p q = cc
queue_no_lists (Some (maker, Queue max)) p q = cc
queue_no_lists (Some (maker, Chain max lists)) p q = cc

pub lists_of_pad : (b : Option (ℕ × Shape)) → pad_born b ≡ true → lists_born b ≡ true
lists_of_pad None p = cc
lists_of_pad (Some (maker, Pad lists)) p = refl
lists_of_pad (Some (maker, Queue max)) p = cc
lists_of_pad (Some (maker, Chain max lists)) p = cc

pub line_of_chain : (b : Option (ℕ × Shape)) → is_born is_chain b ≡ true → has_queue_born b ≡ true
line_of_chain None c = cc
line_of_chain (Some (maker, Pad lists)) c = cc
line_of_chain (Some (maker, Queue max)) c = cc
line_of_chain (Some (maker, Chain max lists)) c = refl

pub lists_of_chain : (b : Option (ℕ × Shape)) → is_born is_chain b ≡ true → lists_born b ≡ true
lists_of_chain None c = cc
lists_of_chain (Some (maker, Pad lists)) c = cc
lists_of_chain (Some (maker, Queue max)) c = cc
lists_of_chain (Some (maker, Chain max lists)) c = refl

-- what has a line is a queue or a chain
pub line_either : (b : Option (ℕ × Shape)) → has_queue_born b ≡ true → (queue_born b ≡ true) ⊎ (is_born is_chain b ≡ true)
line_either None h = cc
line_either (Some (maker, Pad lists)) h = absurd cc
line_either (Some (maker, Queue max)) h = inl refl
line_either (Some (maker, Chain max lists)) h = inr refl

-- what is made is a pad, a queue or a chain
pub any_shape : (b : Option (ℕ × Shape)) → is_some b ≡ true → (pad_born b ≡ true) ⊎ ((queue_born b ≡ true) ⊎ (is_born is_chain b ≡ true))
any_shape None h = cc
any_shape (Some (maker, Pad lists)) h = inl refl
any_shape (Some (maker, Queue max)) h = inr (inl refl)
any_shape (Some (maker, Chain max lists)) h = inr (inr refl)
