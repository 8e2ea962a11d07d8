-- A board's history goes on by the script's calls and by work: what the calls came to.
use Rattle.std.proofs.Common.{◌≡◌, ℕ, Bool, true, cond, List, [], ◌∷◌, ◌++◌, map, drop, refl, ap, sym, ◌∙◌, subst, Option, Some, None}
use Rattle.std.specs.Prelude.{slice_get, ◌==◌, ◌≤◌}
use Rattle.std.specs.List.{list_all}
use Rattle.std.specs.Arc.{arc_value}
use Rattle.std.proofs.lemmas.List.Elements.{recursion_from_All}
use Rattle.kc_base.specs.declared.callback_list.Callback.{Callback}
use Rattle.board.specs.declared.entry.BoardEntry.{BoardEntry}
use Rattle.board.specs.declared.entry.BoardEntry.TheVariants.{Born, Submit, Take, Finish, Enq, Deq, Done, Hold, Go, Collect, Close, Share, Mask, Shut}
use Rattle.board.specs.Entries.{entries_of, submissions, delivered, caller_of}
use Rattle.board.specs.Legal.{IsRight, LegalBoard, AreRightAfter}
use Rattle.transforms.specs.declared.ask.Ask.{Ask}
use Rattle.transforms.specs.declared.request.Finished.{Finished}
use Rattle.dialogues.specs.BoardCalls.{BoardCall, Creates, Submits, Enqueues, Holds, Goes, Collects, Closes, Shares, Masks, Shuts, asked_by, outcome, collected_to, notice_of, board_call_of, board_calls_from, board_calls}
use Rattle.dialogues.specs.RegistryCalls.{prepend}
use Rattle.sequential_model.specs.Laws.{ThereIs, AreToldBy, RepliesArePlain}
use Rattle.sequential_model.specs.Pipelines.{Pipeline, drained, drained_from, pipelines_after}
use Rattle.sequential_model.proofs.Behaving.{BoardLaws}
use Rattle.sequential_model.proofs.Callbacks.{drained_from as drained_by_number}
use Rattle.sequential_model.proofs.Crew.{crew_works}
use Rattle.sequential_model.proofs.Lines.{drained_lines}
use Rattle.sequential_model.proofs.Posting.{Moves, moves_born, moves_submit, moves_enter, moves_hold, moves_go, moves_collect, moves_close, moves_mask, moves_work, shut_same, left_true, right_true}
use Rattle.sequential_model.proofs.Standing.{IsPipelineOf, ArePipelinesOf, is_ours}

-- ---- one entry

own_call : (pipelines : List Pipeline) (b : List (BoardEntry Ask)) (e : BoardEntry Ask) (c : Bool) (call : BoardCall) → c ≡ true → Moves pipelines b e (Some call) → Moves pipelines b e (cond c (Some call) None)
own_call pipelines b e c call is moves = subst (λ x. Moves pipelines b e (cond x (Some call) None)) (sym is) moves

notices_of : (pipeline : Pipeline) (es : List (BoardEntry Ask)) (callbacks : List (Callback Finished)) → IsPipelineOf pipeline es → callbacks ≡ drained_by_number pipeline → map (notice_of (submissions es)) callbacks ≡ drained_from pipeline
notices_of pipeline es callbacks o e =
    ap (λ cs. map (notice_of (submissions es)) cs) (e ∙ ap (λ xs. drained_by_number (record pipeline { undelivered = xs })) (sym o.asks))
    ∙ (drained_lines (submissions es) pipeline.bound pipeline.delivered (drop pipeline.delivered (submissions es)) refl ∙ ap (λ xs. drained pipeline.bound xs) o.asks)

module _ (laws : BoardLaws) where
  collects : (pipelines : List Pipeline) (b : List (BoardEntry Ask)) (by p to : ℕ) → LegalBoard b → IsRight b (Collect by p to) → ArePipelinesOf pipelines b → Moves pipelines b (Collect by p to) (Some (Collects p (collected_to (entries_of p b) to)))
  collects pipelines b by p to legal r are done =
      let m = moves_collect laws pipelines b by p to legal r done are in
      (m.0, told (slice_get pipelines p) refl m.1)
    where
      told : (o : Option Pipeline) → slice_get pipelines p ≡ o → ThereIs o (λ pipeline. delivered outcome (entries_of p b) to ≡ drained_by_number pipeline)
          → ThereIs o (λ pipeline. map (notice_of (submissions (entries_of p b))) (delivered outcome (entries_of p b) to) ≡ drained_from pipeline)
      told None e q = q
      told (Some pipeline) e q = notices_of pipeline (entries_of p b) (delivered outcome (entries_of p b) to) (are.each p pipeline e) q

  -- one entry that is work or the script's
  entry_moves : (pipelines : List Pipeline) (b : List (BoardEntry Ask)) (e : BoardEntry Ask) → LegalBoard b → IsRight b e → is_ours e ≡ true → ArePipelinesOf pipelines b → Moves pipelines b e (board_call_of 0 b e)
  entry_moves pipelines b (Born by p shape) legal r ours are = own_call pipelines b (Born by p shape) (by == 0) (Creates p shape) ours (moves_born laws pipelines b by p shape legal r are)
  entry_moves pipelines b (Submit by p n ask) legal r ours are = own_call pipelines b (Submit by p n ask) (by == 0) (Submits p n (asked_by (arc_value ask))) ours (moves_submit laws pipelines b by p n ask legal r are)
  entry_moves pipelines b (Enq by p ask backlog a) legal r ours are = own_call pipelines b (Enq by p ask backlog a) (by == 0) (Enqueues p (asked_by (arc_value ask)) backlog a) ours (moves_enter laws pipelines b by p ask backlog a legal r are)
  entry_moves pipelines b (Hold by p) legal r ours are = own_call pipelines b (Hold by p) (by == 0) (Holds p) ours (moves_hold laws pipelines b by p legal r are)
  entry_moves pipelines b (Go by p) legal r ours are = own_call pipelines b (Go by p) (by == 0) (Goes p) ours (moves_go laws pipelines b by p legal r are)
  entry_moves pipelines b (Collect by p to) legal r ours are = own_call pipelines b (Collect by p to) (by == 0) (Collects p (collected_to (entries_of p b) to)) ours (collects pipelines b by p to legal r are)
  entry_moves pipelines b (Close by p) legal r ours are = own_call pipelines b (Close by p) (by == 0) (Closes p) ours (moves_close laws pipelines b by p legal r are)
  entry_moves pipelines b (Share by p) legal r ours are = own_call pipelines b (Share by p) (by == 0) (Shares p) ours (λ still. absurd still)
  entry_moves pipelines b (Mask by p mask) legal r ours are = own_call pipelines b (Mask by p mask) (by == 0) (Masks p mask) ours (moves_mask laws pipelines b by p mask legal r are)
  entry_moves pipelines b (Shut by) legal r ours are = own_call pipelines b (Shut by) (by == 0) Shuts ours (λ still. (shut_same laws pipelines b by are, tt))
  entry_moves pipelines b (Take by p n) legal r ours are = moves_work laws pipelines b (Take by p n) legal r refl are
  entry_moves pipelines b (Finish by p n) legal r ours are = moves_work laws pipelines b (Finish by p n) legal r refl are
  entry_moves pipelines b (Deq by p n started) legal r ours are = moves_work laws pipelines b (Deq by p n started) legal r refl are
  entry_moves pipelines b (Done by p n) legal r ours are = moves_work laws pipelines b (Done by p n) legal r refl are

  -- ---- one after the other

  told_calls : (more b : List (BoardEntry Ask)) (pipelines : List Pipeline) → LegalBoard b → AreRightAfter b more → list_all is_ours more ≡ true → ArePipelinesOf pipelines b → AreToldBy pipelines (board_calls_from 0 b more)
  told_calls [] b pipelines legal rights ours are = tt
  told_calls (e ∷ more) b pipelines legal rights ours are =
      by (board_call_of 0 b e) (entry_moves pipelines b e legal rights.0 (left_true (is_ours e) (list_all is_ours more) ours) are)
      (λ pipelines' are'. told_calls more (b ++ e ∷ []) pipelines' (laws.more b e legal rights.0) rights.1 (right_true (is_ours e) (list_all is_ours more) ours) are')
    where
      by : (o : Option BoardCall) → Moves pipelines b e o → ((pipelines' : List Pipeline) → ArePipelinesOf pipelines' (b ++ e ∷ []) → AreToldBy pipelines' (board_calls_from 0 (b ++ e ∷ []) more))
          → AreToldBy pipelines (prepend o (board_calls_from 0 (b ++ e ∷ []) more))
      by None moves later = later pipelines moves
      by (Some call) moves later = λ still.
          let t = moves still in
          (t.1, later (pipelines_after pipelines call) t.0)

first_pipelines : ArePipelinesOf [] []
first_pipelines = record { count = refl; each = λ p pipeline found. absurd cc; bare = λ p le. refl }

pub replies_are_plain : BoardLaws → RepliesArePlain
unfolding board_calls
replies_are_plain laws b legal crew = told_calls laws b [] [] tt legal (crew_works [] b legal (recursion_from_All (λ (e : BoardEntry Ask). caller_of e ≤ 16) b crew)) first_pipelines
