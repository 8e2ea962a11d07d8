-- `free`: a close and a reference given back are its dialogue.
use Rattle.std.proofs.Common.{◌≡◌, ℕ, true, false, List, [], ◌∷◌, ◌++◌, length, Option, Some, None, sym, ap, subst, ◌∙◌}
use Rattle.std.specs.Prelude.{nat_lt}
use Rattle.kc_base.specs.declared.error_numbers.Errno.{Errno}
use Rattle.kc_base.specs.declared.error_numbers.Errno.TheVariants.{EBUSY}
use Rattle.alg_registry.specs.declared.entry.RegEntry.{RegEntry}
use Rattle.board.specs.declared.entry.BoardEntry.{BoardEntry}
use Rattle.reply_text.specs.declared.answers.Answer.{Answer}
use Rattle.reply_text.specs.declared.answers.Answer.TheVariants as said
use Rattle.transforms.specs.declared.ask.Ask.{Ask}
use Rattle.turn_lock.specs.Turns.{Known}
use Rattle.dialogues.specs.RegistryCalls.{Puts}
use Rattle.dialogues.specs.AllocAndFree.{free, closes, releases}
use Rattle.dialogues.specs.Dialogues.{Dialogue, Posts, says, answers_errno, for_live, missing}
use Rattle.dialogues.specs.Questions.{Put, Close}
use Rattle.dialogues.specs.ScriptState.{ScriptState, Live, PipelineState, live_of, shared_of, without}
use Rattle.board.specs.Legal.{LegalBoard}
use Rattle.script_session.specs.TransformChanges.{close_calls, has_undelivered, Released}
use Rattle.recorded_calls.proofs.Boarding.{called-more}
use Rattle.script_session.specs.States.{ReferencesMatch, PipelinesMatch}
use Rattle.recorded_calls.specs.RegistryCalls.{Asked}
use Rattle.recorded_calls.specs.Pipelines.{Called}
use Rattle.script_session.specs.PerformedDialogue.{Done}
use Rattle.script_session.proofs.Arms.{unless-not, unless-so}
use Rattle.script_session.proofs.Rules.{says-done, asks-done, posts-done}

releases-done : (script_state : ScriptState) (n : ℕ) (live : Live) (k k' : Known RegEntry) (b : Known (BoardEntry Ask)) (answers answers' : List Answer) → Asked k k' (Puts live.id ∷ [])
    → ReferencesMatch (without script_state live.label).lives k' → PipelinesMatch (without script_state live.label) b → answers' ≡ answers ++ said.Ok n ∷ [] → Done (releases script_state n live) k b k' b (without script_state live.label) answers answers'
releases-done script_state n live k k' b answers answers' put stands posted e =
    asks-done k k' k' b b (Put live.id) tt (λ done. says (without script_state live.label) (said.Ok n)) (without script_state live.label) answers answers' put
    (says-done k' b (without script_state live.label) (said.Ok n ∷ []) answers answers' stands posted e)

-- what a release of the transform, and then its reference given back, come to
-- others went on, and nothing was called
called-none-done : (d : Dialogue) (k k' : Known RegEntry) (b b' : Known (BoardEntry Ask)) (after : ScriptState) (answers answers' : List Answer) → Called b b' [] → Done d k b' k' b' after answers answers'
    → Done d k b k' b' after answers answers'
called-none-done d k k' b b' after answers answers' called done =
    record {
      turn = done.turn;
      is = done.is;
      asked = done.asked;
      called = called-more b b' b' [] done.turn.board called done.called;
      ends = done.ends;
      says = done.says;
      stands = done.stands;
      posted = done.posted;
    }

pub free-done : (script_state : ScriptState) (n : ℕ) (label : List ℕ) (live : Live) (k k' : Known RegEntry) (b b' : Known (BoardEntry Ask)) (answers answers' : List Answer) → live_of script_state label ≡ Some live → live.label ≡ label
    → has_undelivered live.pipe ≡ false → LegalBoard b.seen → Released live b b' → Asked k k' (Puts live.id ∷ []) → ReferencesMatch (without script_state label).lives k' → PipelinesMatch (without script_state label) b' → answers' ≡ answers ++ said.Ok n ∷ []
    → Done (free script_state n label) k b k' b' (without script_state label) answers answers'
free-done script_state n label live k k' b b' answers answers' found same paid legal released put stands posted e =
    let after : ScriptState = without script_state live.label in
    let stands' : ReferencesMatch after.lives k' = subst (λ l. ReferencesMatch (without script_state l).lives k') (sym same) stands in
    let posted' : PipelinesMatch after b' = subst (λ l. PipelinesMatch (without script_state l) b') (sym same) posted in
    let rest = releases-done script_state n live k k' b' answers answers' put stands' posted' e in
    subst (λ l. Done (free script_state n label) k b k' b' (without script_state l) answers answers') same
    (subst (λ o. Done (for_live script_state n o (missing (shared_of script_state label)) (λ l. closes script_state n l l.pipe)) k b k' b' after answers answers') (sym found)
    (by_pipe live.pipe paid released.called rest))
  where
    by_pipe : (pipe : Option PipelineState) → has_undelivered pipe ≡ false → Called b b' (close_calls pipe) → Done (releases script_state n live) k b' k' b' (without script_state live.label) answers answers'
        → Done (closes script_state n live pipe) k b k' b' (without script_state live.label) answers answers'
    by_pipe None owed called rest = called-none-done (releases script_state n live) k k' b b' (without script_state live.label) answers answers' called rest
    by_pipe (Some pipe) owed called rest =
        subst (λ d. Done d k b k' b' (without script_state live.label) answers answers') (sym (unless-not script_state n (nat_lt pipe.delivered (length pipe.lines)) EBUSY [] (Posts (Close pipe.number) (λ done. releases script_state n live)) owed))
        (posts-done k k' b b' b' (Close pipe.number) tt (λ done. releases script_state n live) (without script_state live.label) answers answers' called rest)

-- the refusals of a label without a transform, and of one that owes
pub free-nobody : (script_state : ScriptState) (n : ℕ) (label : List ℕ) (errno : Errno) → live_of script_state label ≡ None → errno ≡ missing (shared_of script_state label) → free script_state n label ≡ answers_errno script_state n errno
free-nobody script_state n label errno none why =
    ap (λ o. for_live script_state n o (missing (shared_of script_state label)) (λ l. closes script_state n l l.pipe)) none ∙ ap (λ e. answers_errno script_state n e) (sym why)

pub free-owing : (script_state : ScriptState) (n : ℕ) (label : List ℕ) (live : Live) → live_of script_state label ≡ Some live → has_undelivered live.pipe ≡ true → free script_state n label ≡ answers_errno script_state n EBUSY
free-owing script_state n label live found owed = ap (λ o. for_live script_state n o (missing (shared_of script_state label)) (λ l. closes script_state n l l.pipe)) found ∙ by_pipe live.pipe owed
  where
    by_pipe : (pipe : Option PipelineState) → has_undelivered pipe ≡ true → closes script_state n live pipe ≡ answers_errno script_state n EBUSY
    by_pipe None e = absurd cc
    by_pipe (Some pipe) e = unless-so script_state n (nat_lt pipe.delivered (length pipe.lines)) EBUSY [] (Posts (Close pipe.number) (λ done. releases script_state n live)) e
