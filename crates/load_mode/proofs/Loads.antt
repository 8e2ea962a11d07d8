-- What a load comes to over two histories.
use Rattle.std.proofs.Common.{◌≡◌, ℕ, suc, ◌+◌, ◌≤◌, true, ◌&&◌, List, [], ◌∷◌, ◌++◌, length, map, refl, ap, sym, ◌∙◌, subst, arith}
use Rattle.std.specs.List.{flat_map}
use Rattle.std.proofs.lemmas.Grind.{flat_map-append}
use Rattle.sha2.specs.Sha256.{sha256}
use Rattle.std_defs.specs.Authenc.{blob, is_blob, blob_keys, cipher_key_length, mac_key_length}
use Rattle.alg_names.specs.Spelled.{tree_of}
use Rattle.board.specs.declared.entry.BoardEntry.{BoardEntry}
use Rattle.board.specs.declared.entry.Shape.TheVariants.{Pad}
use Rattle.board.specs.Entries.{entries_of, submissions, completes_from}
use Rattle.templates.specs.Table.{table}
use Rattle.templates.specs.Words.{template_named}
use Rattle.templates.specs.Resolution.{weight}
use Rattle.transforms.specs.declared.ask.Ask.{Ask}
use Rattle.script_text.specs.declared.commands.Line.{Line}
use Rattle.dialogues.specs.AllocAndFree.{lists_beside}
use Rattle.dialogues.specs.BoardCalls.{Asked, asked_by, Creates, board_calls}
use Rattle.dialogues.specs.Dialogues.{Dialogue, Ends, Says, Asks, Posts, followed}
use Rattle.dialogues.specs.Lines.{line_dialogue, lines_dialogue}
use Rattle.dialogues.specs.PipelineCommands.{end}
use Rattle.dialogues.specs.ScriptState.{ScriptState, start}
use Rattle.sequential_model.specs.Registry.{PlainRegistry, first_registry}
use Rattle.settled_scripts.specs.PlainRuns.{posted, PassesFollow, PostsFollow, TurnsArePlain}
use Rattle.settled_scripts.specs.Settled.{Passed, pass, saying, if_timeless}
use Rattle.load_mode.specs.Requests.{drawn_requests, load_requests, of_a, of_g, digest_of}
use Rattle.load_mode.specs.Lines.{opening, request_lines, load_dialogue}
use Rattle.load_mode.specs.Turns.{bytes_told, IsLoadedWith, LoadsComeTo}
use Rattle.load_mode.proofs.Passing.{walk_at, pads, Comes, come, told_of}
use Rattle.load_mode.proofs.Summing.{BoardLaws, Summary, none_yet, summary, Sums, board-sums}
use Rattle.load_mode.proofs.Values.{all-sized, all-drawn, values_of_a, values_of_g}

-- ---- the opening

-- one dialogue after another after another
followed-then : (d : Dialogue) (f g : ScriptState → Dialogue) → followed (followed d f) g ≡ followed d (λ script_state. followed (f script_state) g)
followed-then (Ends after) f g = refl
followed-then (Says answers next) f g = ap (Says answers) (followed-then next f g)
followed-then (Asks question next) f g = λ i. Asks question (λ answer. followed-then (next answer) f g i)
followed-then (Posts question next) f g = λ i. Posts question (λ answer. followed-then (next answer) f g i)

-- what follows on lines follows on their dialogue
lines-then : (workers : ℕ) (script_state : ScriptState) (n : ℕ) (lines : List Line) (rest : ScriptState → Dialogue) → lines_dialogue workers script_state n lines rest ≡ followed (lines_dialogue workers script_state n lines Ends) rest
lines-then workers script_state n [] rest = refl
lines-then workers script_state n (line ∷ lines) rest =
    (λ i. followed (line_dialogue workers script_state n line) (λ after. lines-then workers after (n + 1) lines rest i))
    ∙ sym (followed-then (line_dialogue workers script_state n line) (λ after. lines_dialogue workers after (n + 1) lines Ends) rest)

abbrev opening_dialogue : ℕ → Dialogue
opening_dialogue workers = lines_dialogue workers (start 0) 0 opening Ends

-- it as it passes
abbrev opened : ℕ → Passed
opened workers = pass (opening_dialogue workers) first_registry []

abbrev opened_walk : ScriptState
opened_walk = walk_at 6 9 [] [] 0 0

opened-after : (workers : ℕ) → (opened workers).after ≡ opened_walk
unfolding table template_named tree_of weight blob is_blob blob_keys cipher_key_length mac_key_length
opened-after workers = refl

opened-pads : (workers : ℕ) → (opened workers).pipelines ≡ pads [] []
unfolding table template_named tree_of weight blob is_blob blob_keys cipher_key_length mac_key_length
opened-pads workers = refl

opened-timeless : (workers : ℕ) → (opened workers).timeless ≡ true
unfolding table template_named tree_of weight blob is_blob blob_keys cipher_key_length mac_key_length
opened-timeless workers = refl

opened-told : (workers : ℕ) → flat_map bytes_told (opened workers).answers ≡ []
unfolding table template_named tree_of weight blob is_blob blob_keys cipher_key_length mac_key_length
opened-told workers = refl

opened-posts : (workers : ℕ) → posted (opening_dialogue workers) first_registry [] ≡ Creates 0 (Pad (lists_beside workers)) ∷ Creates 1 (Pad (lists_beside workers)) ∷ []
unfolding table template_named tree_of weight blob is_blob blob_keys cipher_key_length mac_key_length
opened-posts workers = refl

-- ---- the whole load

length-asked : (asks : List Ask) → length (map asked_by asks) ≡ length asks
length-asked [] = refl
length-asked (ask ∷ asks) = ap suc (length-asked asks)

module _ (passes : PassesFollow) (posts : PostsFollow) (workers seed count : ℕ) (few : count ≤ 100000) where
  abbrev rest : ScriptState → Dialogue
  rest script_state = lines_dialogue workers script_state 0 (request_lines seed count) end

  abbrev registry : PlainRegistry
  registry = (opened workers).registry

  abbrev left : Passed
  left = pass (rest opened_walk) registry (pads [] [])

  abbrev on_a : List Asked
  on_a = of_a (load_requests seed count)

  abbrev on_g : List Asked
  on_g = of_g (load_requests seed count)

  comes : Comes registry (rest opened_walk) [] [] on_a on_g
  comes =
      let drawn = all-drawn count seed in
      come registry workers 6 9 (drawn_requests seed count) 0 0 0 [] [] [] [] (all-sized count seed) (omega arith) (omega arith)

  whole-passes : pass (load_dialogue workers seed count) first_registry [] ≡ saying (opened workers).answers (if_timeless (opened workers).timeless left)
  whole-passes =
      ap (λ d. pass d first_registry []) (lines-then workers (start 0) 0 opening rest)
      ∙ (passes (opening_dialogue workers) rest first_registry []
      ∙ (λ i. saying (opened workers).answers (if_timeless (opened workers).timeless (pass (rest (opened-after workers i)) registry (opened-pads workers i)))))

  whole-posts : posted (load_dialogue workers seed count) first_registry [] ≡ Creates 0 (Pad (lists_beside workers)) ∷ Creates 1 (Pad (lists_beside workers)) ∷ posted (rest opened_walk) registry (pads [] [])
  whole-posts =
      ap (λ d. posted d first_registry []) (lines-then workers (start 0) 0 opening rest)
      ∙ (posts (opening_dialogue workers) rest first_registry []
      ∙ (λ i. opened-posts workers i ++ posted (rest (opened-after workers i)) registry (opened-pads workers i)))

  timeless : (pass (load_dialogue workers seed count) first_registry []).timeless ≡ true
  timeless = ap (λ (p : Passed). p.timeless) whole-passes ∙ (λ i. opened-timeless workers i && comes.timeless i)

  told : flat_map bytes_told (pass (load_dialogue workers seed count) first_registry []).answers ≡ flat_map told_of on_a ++ flat_map told_of on_g
  told =
      ap (λ (p : Passed). flat_map bytes_told p.answers) whole-passes
      ∙ (flat_map-append bytes_told (opened workers).answers left.answers
      ∙ (λ i. opened-told workers i ++ comes.told i))

  digest-is : sha256 (flat_map bytes_told (pass (load_dialogue workers seed count) first_registry []).answers) ≡ digest_of (load_requests seed count)
  digest-is = ap sha256 (told ∙ (λ k. values_of_a 0 (drawn_requests seed count) k ++ values_of_g 0 (drawn_requests seed count) k))

  abbrev all_of : List Asked → Summary
  all_of asks = record { is_pad = true; asks = asks; all = true }

  sum-a : summary 0 none_yet (posted (load_dialogue workers seed count) first_registry []) ≡ all_of on_a
  sum-a = ap (summary 0 none_yet) whole-posts ∙ comes.on_a (all_of [])

  sum-g : summary 1 none_yet (posted (load_dialogue workers seed count) first_registry []) ≡ all_of on_g
  sum-g = ap (summary 1 none_yet) whole-posts ∙ comes.on_g (all_of [])

-- a pad of which all was collected
loaded : (p : ℕ) (b : List (BoardEntry Ask)) (asks : List Asked) → Sums (entries_of p b) (record { is_pad = true; asks = asks; all = true }) → IsLoadedWith asks p b
loaded p b asks sums = record {
  accepted = sums.asks;
  handed_out = sums.all refl refl ∙ ap (completes_from 0) (sym (length-asked (submissions (entries_of p b))) ∙ ap length sums.asks);
}

pub loads_come_to : BoardLaws → TurnsArePlain → PassesFollow → PostsFollow → LoadsComeTo
loads_come_to laws plain passes posts workers seed count r b digest few legal made callers legal_board board_callers is =
    let d = load_dialogue workers seed count in
    let passed = plain d is.turn r b legal made callers legal_board board_callers is.in_turn is.is is.ended is.registry is.board (timeless passes posts workers seed count few) in
    let calls : board_calls 0 b ≡ posted d first_registry [] = sym is.board ∙ passed.calls in
    let sums : (p : ℕ) → Sums (entries_of p b) (summary p none_yet (posted d first_registry [])) =
    λ p. subst (λ cs. Sums (entries_of p b) (summary p none_yet cs)) calls (board-sums laws p b legal_board board_callers) in (
      is.digest_is ∙ (ap (λ answers. sha256 (flat_map bytes_told answers)) passed.answers ∙ digest-is passes posts workers seed count few),
      record {
        on_a = loaded 0 b (of_a (load_requests seed count)) (subst (Sums (entries_of 0 b)) (sum-a passes posts workers seed count few) (sums 0));
        on_g = loaded 1 b (of_g (load_requests seed count)) (subst (Sums (entries_of 1 b)) (sum-g passes posts workers seed count few) (sums 1));
      },
    )
