-- A settled script prints what is plain.
use Rattle.std.proofs.Common.{◌≡◌, ℕ, ◌+◌, Bool, true, false, ◌&&◌, List, [], ◌∷◌, ap, sym, ◌∙◌, subst, refl, Option, Some, None, IsSome, append_assoc}
use Rattle.std.proofs.Common.{◌≤◌, arith}
use Rattle.std.proofs.lemmas.Bool.{and_parts}
use Rattle.std.proofs.lemmas.Bool.Decides.{nat_tests}
use Rattle.std.specs.List.{flat_map, list_all}
use Rattle.script_text.specs.declared.commands.Command.{Command}
use Rattle.script_text.specs.declared.commands.Command.TheVariants as command
use Rattle.script_text.specs.declared.commands.Line.TheVariants as line
use Rattle.script_text.specs.declared.commands.Line.{Line}
use Rattle.reply_text.specs.Answers.{text_of}
use Rattle.dialogues.specs.Dialogues.{Dialogue, Ends, Says, Asks, Posts}
use Rattle.dialogues.specs.GoingOn.{InTurnByOne}
use Rattle.dialogues.specs.InTurn.{AreInTurn}
use Rattle.dialogues.specs.Lines.{line_dialogue, lines_dialogue, script}
use Rattle.dialogues.specs.PipelineCommands.{end}
use Rattle.dialogues.specs.Questions.{reg_call, board_call}
use Rattle.dialogues.specs.RegistryCalls.{reg_calls}
use Rattle.dialogues.specs.Texts.{turn_in}
use Rattle.dialogues.specs.Transcripts.{Transcript, transcript_of, IsTranscript}
use Rattle.dialogues.specs.ScriptState.{ScriptState, start}
use Rattle.dialogues.specs.Widths.{command_width, width_of, widest}
use Rattle.sequential_model.specs.Laws.{AnswersArePlain, AreAnsweredBy, RepliesArePlain, AreToldBy}
use Rattle.sequential_model.specs.Pipelines.{Pipeline, reply_in, is_timeless, pipelines_after}
use Rattle.sequential_model.specs.Registry.{PlainRegistry, first_registry, answer_in, registry_after}
use Rattle.settled_scripts.specs.PrintedText.{PrintsPlain}
use Rattle.settled_scripts.specs.PlainRuns.{passed_then, PassesFollow, PostsFollow, TurnsArePlain}
use Rattle.settled_scripts.specs.Settled.{Passed, saying, if_timeless, is_settled_line, pass, passed, plain_text}
use Rattle.settled_scripts.proofs.Plain.{turn_plain}
use Rattle.settled_scripts.proofs.Workers.{line_same}

-- ---- one dialogue after another

and_assoc : (a b c : Bool) → (a && (b && c)) ≡ ((a && b) && c)
and_assoc true b c = refl
and_assoc false b c = refl

passed_same : (p q : Passed) → p.answers ≡ q.answers → p.after ≡ q.after → p.registry ≡ q.registry → p.pipelines ≡ q.pipelines → p.timeless ≡ q.timeless → p ≡ q
passed_same p q a w k o s = λ i. record { answers = a i; after = w i; registry = k i; pipelines = o i; timeless = s i }

pub passes_follow : PassesFollow
passes_follow (Ends after) later registry pipelines = refl
passes_follow (Says answers next) later registry pipelines =
    ap (saying answers) (passes_follow next later registry pipelines)
    ∙ passed_same _ _ (sym (append_assoc answers (pass next registry pipelines).answers _)) refl refl refl refl
passes_follow (Asks q next) later registry pipelines = passes_follow (next (answer_in registry q)) later (registry_after registry (reg_call q (answer_in registry q))) pipelines
passes_follow (Posts q next) later registry pipelines =
    let now : List Pipeline = pipelines_after pipelines (board_call q (reply_in pipelines q)) in
    ap (if_timeless (is_timeless pipelines q)) (passes_follow (next (reply_in pipelines q)) later registry now)
    ∙ passed_same _ _ refl refl refl refl (and_assoc (is_timeless pipelines q) (pass (next (reply_in pipelines q)) registry now).timeless _)

pub posts_follow : PostsFollow
posts_follow (Ends after) later registry pipelines = refl
posts_follow (Says answers next) later registry pipelines = posts_follow next later registry pipelines
posts_follow (Asks q next) later registry pipelines = posts_follow (next (answer_in registry q)) later (registry_after registry (reg_call q (answer_in registry q))) pipelines
posts_follow (Posts q next) later registry pipelines =
    let call = board_call q (reply_in pipelines q) in
    ap (λ calls. call ∷ calls) (posts_follow (next (reply_in pipelines q)) later registry (pipelines_after pipelines call))

-- ---- lines

-- the plain pass of settled lines is the same for every number of workers
lines_same : (workers : ℕ) (script_state : ScriptState) (n : ℕ) (lines : List Line) → list_all is_settled_line lines ≡ true → (registry : PlainRegistry) (pipelines : List Pipeline) → pass (lines_dialogue workers script_state n lines end) registry pipelines ≡ pass (lines_dialogue 0 script_state n lines end) registry pipelines
lines_same workers script_state n [] settled registry pipelines = refl
lines_same workers script_state n (next ∷ lines) settled registry pipelines =
    let parts = and_parts (is_settled_line next) (list_all is_settled_line lines) settled in
    let later : ℕ → ScriptState → Dialogue = λ beside after. lines_dialogue beside after (n + 1) lines end in
    let p : Passed = pass (line_dialogue 0 script_state n next) registry pipelines in
    passes_follow (line_dialogue workers script_state n next) (later workers) registry pipelines
    ∙ (ap (λ (q : Passed). passed_then q (later workers)) (line_same workers script_state n next parts.0 registry pipelines)
    ∙ (ap (λ (q : Passed). saying p.answers (if_timeless p.timeless q)) (lines_same workers p.after (n + 1) lines parts.1 p.registry p.pipelines)
    ∙ sym (passes_follow (line_dialogue 0 script_state n next) (later 0) registry pipelines)))

its_walk : (o : Option ScriptState) → IsSome o → (after : ScriptState) × (o ≡ Some after)
its_walk None s = absurd cc
its_walk (Some after) s = (after, refl)

-- ---- a settled script has one look at once

width_settled : (next : Line) → is_settled_line next ≡ true → width_of next ≤ 1
width_settled line.Nothing is = omega arith
width_settled line.Malformed is = omega arith
width_settled (line.Cmd c) is = by c is
  where
    by : (c : Command) → is_settled_line (line.Cmd c) ≡ true → command_width c ≤ 1
    by (command.Probe names) settled = grind (settled, arith, nat_tests)
    by c settled = omega arith

widest_settled : (lines : List Line) → list_all is_settled_line lines ≡ true → widest lines ≤ 1
widest_settled [] all = omega arith
widest_settled (next ∷ lines) all =
    let both = and_parts (is_settled_line next) (list_all is_settled_line lines) all in
    let first = width_settled next both.0 in
    let later = widest_settled lines both.1 in
    omega arith

-- ---- the law

pub prints_plain : AnswersArePlain → RepliesArePlain → InTurnByOne → PrintsPlain
unfolding plain_text
prints_plain answers replies narrow workers lines r b text settled legal made callers legal_board board_callers in_turn is =
    let turn : Transcript = turn_in workers (start 0) 0 lines r b in
    let same : pass (script workers (start 0) lines) first_registry [] ≡ passed lines = lines_same workers (start 0) 1 lines settled.lines_settled first_registry [] in
    let after = its_walk turn.after is.ended in
    let its : IsTranscript (script workers (start 0) lines) turn =
    ap (λ calls. transcript_of (script workers (start 0) lines) calls turn.board) is.registry ∙ ap (λ calls. transcript_of (script workers (start 0) lines) (reg_calls 0 r) calls) is.board in
    let strictly = narrow (widest lines) 0 (reg_calls 0 r) [] r (widest_settled lines settled.lines_settled) in_turn in
    let answered : AreAnsweredBy first_registry turn.registry = answers turn.registry r legal made callers (subst (λ calls. AreInTurn 0 calls [] r) (sym is.registry) strictly) in
    let told : AreToldBy [] turn.board = subst (λ calls. AreToldBy [] calls) (sym is.board) (replies b legal_board board_callers) in
    let said = turn_plain (script workers (start 0) lines) turn after.0 first_registry [] its after.1 answered told (ap (λ (p : Passed). p.timeless) same ∙ settled.timeless) in
    is.text_is ∙ ap (λ answers. flat_map text_of answers) (said.answers ∙ ap (λ (p : Passed). p.answers) same)

pub turns_are_plain : AnswersArePlain → RepliesArePlain → InTurnByOne → TurnsArePlain
turns_are_plain answers replies narrow d turn r b legal made callers legal_board board_callers in_turn is ended registry board timeless =
    let after = its_walk turn.after ended in
    let strictly = narrow 1 0 (reg_calls 0 r) [] r (omega arith) in_turn in
    let answered : AreAnsweredBy first_registry turn.registry = answers turn.registry r legal made callers (subst (λ calls. AreInTurn 0 calls [] r) (sym registry) strictly) in
    let told : AreToldBy [] turn.board = subst (λ calls. AreToldBy [] calls) (sym board) (replies b legal_board board_callers) in
    turn_plain d turn after.0 first_registry [] is after.1 answered told timeless
