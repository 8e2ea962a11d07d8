-- A load as it passes where it is alone.
use Rattle.std.proofs.Common.{◌≡◌, ℕ, suc, ◌+◌, ◌*◌, ◌^◌, ◌<◌, ◌≤◌, Bool, true, false, ◌||◌, ◌&&◌, not, List, [], ◌∷◌, ◌++◌, length, map, refl, ap, sym, ◌∙◌, subst, arith, Some, None, append-nil, append_assoc}
use Rattle.std.specs.Prelude.{◌==◌, if◌then◌else◌, nat_le, nat_lt, All, take}
use Rattle.std.specs.List.{flat_map}
use Rattle.std.proofs.lemmas.Bool.{eq-eqb}
use Rattle.std.proofs.lemmas.Bool.Decides.{nat_tests}
use Rattle.std.proofs.lemmas.Grind.{flat_map-append}
use Rattle.std.proofs.lemmas.List.Elements.{All-head, All-tail}
use Rattle.kc_base.specs.declared.error_numbers.Errno.{Errno}
use Rattle.kc_base.specs.declared.error_numbers.Errno.TheVariants.{EINPROGRESS, EINVAL, E2BIG}
use Rattle.script_text.specs.declared.commands.Command.TheVariants as command
use Rattle.script_text.specs.declared.commands.Line.TheVariants.{Cmd}
use Rattle.templates.specs.declared.driver_plans.AesForm.TheVariants.{AesGeneric}
use Rattle.templates.specs.declared.driver_plans.GhashForm.TheVariants.{GhashGeneric}
use Rattle.templates.specs.declared.driver_plans.Plan.TheVariants.{AuthencCbc, Gcm}
use Rattle.transforms.specs.Cuts.{in_one}
use Rattle.transforms.specs.declared.request.Dir.TheVariants.{Enc}
use Rattle.transforms.specs.declared.request.Request.{Request}
use Rattle.transforms.specs.Asked.{takes}
use Rattle.transforms.specs.Finish.{finished_of}
use Rattle.reply_text.specs.declared.answers.Answer.TheVariants as said
use Rattle.reply_text.specs.declared.origin.Origin.{Origin}
use Rattle.dialogues.specs.BoardCalls.{origin_by, Asked}
use Rattle.dialogues.specs.Dialogues.{Dialogue, Says, Posts, followed, answers_errno, unless}
use Rattle.dialogues.specs.Lines.{line_dialogue, lines_dialogue}
use Rattle.dialogues.specs.PipelineCommands.{end, completion_said, notice_said, completions, said_at_end}
use Rattle.dialogues.specs.Questions.{Submit}
use Rattle.dialogues.specs.RequestCommands.{request_of, size_of, is_too_big, value_of, asked_of, hands_in, requests_in}
use Rattle.dialogues.specs.ScriptState.{ScriptState, Live, PipelineState}
use Rattle.sequential_model.specs.Pipelines.{Pipeline, drained}
use Rattle.sequential_model.specs.Registry.{PlainRegistry}
use Rattle.settled_scripts.specs.PlainRuns.{posted}
use Rattle.settled_scripts.specs.Settled.{pass}
use Rattle.load_mode.specs.Requests.{Drawn, cipher_key, key_of_a, is_on_a, asked_on_a, asked_on_g, asked_for, asked_from, of_a, of_g}
use Rattle.load_mode.specs.Lines.{label_of_a, label_of_g, request_line}
use Rattle.load_mode.specs.Turns.{bytes_told}
use Rattle.load_mode.proofs.Summing.{Summary, asked_more, summary}

-- ---- the two transforms, and their pads

-- a line of the load, whose client is the first
abbrev at_line : ℕ → Origin
at_line n = record { client = 0; line = n }

abbrev pipe_at : ℕ → List Origin → PipelineState
pipe_at number lines = record { number = number; bound = None; held = false; mask_is_empty = false; lines = lines; delivered = 0 }

abbrev live_a : ℕ → List Origin → Live
live_a id lines = record { label = label_of_a; id = id; plan = AuthencCbc AesGeneric; key = Some key_of_a; tag_size = 32; pipe = Some (pipe_at 0 lines) }

abbrev live_g : ℕ → List Origin → Live
live_g id lines = record { label = label_of_g; id = id; plan = Gcm AesGeneric GhashGeneric; key = Some cipher_key; tag_size = 16; pipe = Some (pipe_at 1 lines) }

abbrev pub walk_at : ℕ → ℕ → List Origin → List Origin → ℕ → ℕ → ScriptState
walk_at i j la lg q v = record { client = 0; shared = []; lives = live_a i la ∷ live_g j lg ∷ []; requests = q; bytes = v }

abbrev pad_with : List Asked → Pipeline
pad_with asks = record { bound = None; chained = false; delivered = 0; undelivered = asks; held_throughout = false }

abbrev pub pads : List Asked → List Asked → List Pipeline
pads xs ys = pad_with xs ∷ pad_with ys ∷ []

-- ---- one request

unless-none : (script_state : ScriptState) (n : ℕ) (c : Bool) (errno : Errno) (rest : Dialogue) → c ≡ false → unless script_state n ((c, errno) ∷ []) rest ≡ rest
unless-none script_state n c errno rest e = ap (λ t. if t then answers_errno script_state n errno else rest) e

fits : (q v : ℕ) → q < 2 ^ 20 → v ≤ 2 ^ 26 → (nat_le (2 ^ 20) q || nat_lt (2 ^ 26) v) ≡ false
fits q v few small = grind (few, small, arith, nat_tests)

module _ (workers i j : ℕ) (la lg : List Origin) (q v n : ℕ) (iv aad text : List ℕ) (few : q < 2 ^ 20) (small : v + (length iv + length aad + length text) ≤ 2 ^ 26) where
  abbrev script_state : ScriptState
  script_state = walk_at i j la lg q v

  abbrev asks : Request
  asks = request_of Enc iv aad (in_one text)

  dialogue-a : length iv ≡ 16 → line_dialogue workers script_state n (Cmd (command.Enc label_of_a iv aad (in_one text) false)) ≡ Posts (Submit 0 (asked_of script_state n (live_a i la) key_of_a asks)) λ number. answers_errno (walk_at i j (la ++ at_line n ∷ []) lg (q + 1) (v + size_of asks)) n EINPROGRESS
  dialogue-a sized =
      let live = live_a i la in
      let asked = asked_of script_state n live key_of_a asks in
      unless-none script_state n (not (takes live.plan live.tag_size asks)) EINVAL (requests_in script_state n live asked false live.pipe) (ap (λ t. not (t && true)) (eq-eqb (length iv) 16 sized))
      ∙ unless-none script_state n (is_too_big script_state asks) E2BIG (hands_in script_state n live (pipe_at 0 la) asked false None) (fits q (v + size_of asks) few small)

  dialogue-g : length iv ≡ 12 → line_dialogue workers script_state n (Cmd (command.Enc label_of_g iv aad (in_one text) false)) ≡ Posts (Submit 1 (asked_of script_state n (live_g j lg) cipher_key asks)) λ number. answers_errno (walk_at i j la (lg ++ at_line n ∷ []) (q + 1) (v + size_of asks)) n EINPROGRESS
  dialogue-g sized =
      let live = live_g j lg in
      let asked = asked_of script_state n live cipher_key asks in
      unless-none script_state n (not (takes live.plan live.tag_size asks)) EINVAL (requests_in script_state n live asked false live.pipe) (ap (λ t. not (t && true)) (eq-eqb (length iv) 12 sized))
      ∙ unless-none script_state n (is_too_big script_state asks) E2BIG (hands_in script_state n live (pipe_at 1 lg) asked false None) (fits q (v + size_of asks) few small)

-- ---- what completions tell

-- of one request
abbrev pub told_of : Asked → List ℕ
told_of asked = bytes_told (completion_said (origin_by asked) (finished_of (value_of asked)))

drain-told : (xs : List Asked) → flat_map bytes_told (map notice_said (drained None xs)) ≡ flat_map told_of xs
drain-told [] = refl
drain-told (asked ∷ xs) = ap (λ l. told_of asked ++ l) (drain-told xs)

last-told : (label : List ℕ) (count : ℕ) → flat_map bytes_told (if count == 0 then [] else said.End label count ∷ []) ≡ []
last-told label count = by (count == 0)
  where
    by : (t : Bool) → flat_map bytes_told (if t then [] else said.End label count ∷ []) ≡ []
    by true = refl
    by false = refl

end-told : (label : List ℕ) (xs : List Asked) → flat_map bytes_told (said_at_end label (drained None xs)) ≡ flat_map told_of xs
end-told label xs =
    flat_map-append bytes_told (map notice_said (drained None xs)) (if completions (drained None xs) == 0 then [] else said.End label (completions (drained None xs)) ∷ [])
    ∙ ((λ k. drain-told xs k ++ last-told label (completions (drained None xs)) k) ∙ append-nil (flat_map told_of xs))

-- ---- all of them

-- the lists of a drawn request are as long as it says
pub record IsSized (d : Drawn) : Type 0 where
  pub iv : length d.iv ≡ 16
  pub iv_of_g : length (take 12 d.iv) ≡ 12
  pub associated : length d.associated ≤ 8
  pub text : length d.text ≤ 256

module _ (registry : PlainRegistry) where
  -- What is left of a load comes to this, where its pads hold these requests already: the completions tell of those and
  -- of what is asked yet, which is also what the calls ask; and the last collects hand all out.
  pub record Comes (d : Dialogue) (xs ys more_a more_g : List Asked) : Type 0 where
    pub told : flat_map bytes_told (pass d registry (pads xs ys)).answers ≡ flat_map told_of (xs ++ more_a) ++ flat_map told_of (ys ++ more_g)
    pub timeless : (pass d registry (pads xs ys)).timeless ≡ true
    pub on_a : (s : Summary) → summary 0 s (posted d registry (pads xs ys)) ≡ record { is_pad = s.is_pad; asks = s.asks ++ more_a; all = true }
    pub on_g : (s : Summary) → summary 1 s (posted d registry (pads xs ys)) ≡ record { is_pad = s.is_pad; asks = s.asks ++ more_g; all = true }

  abbrev with_asks : Summary → List Asked → Summary
  with_asks s asks = record { is_pad = s.is_pad; asks = asks; all = true }

  ends : (i j : ℕ) (la lg : List Origin) (q v : ℕ) (xs ys : List Asked) → Comes (end (walk_at i j la lg q v)) xs ys [] []
  ends i j la lg q v xs ys = record {
    told =
        flat_map-append bytes_told (said_at_end label_of_a (drained None xs)) (said_at_end label_of_g (drained None ys) ++ [])
        ∙ (λ k.
        (end-told label_of_a xs ∙ ap (flat_map told_of) (sym (append-nil xs))) k
        ++ (ap (flat_map bytes_told) (append-nil (said_at_end label_of_g (drained None ys))) ∙ (end-told label_of_g ys ∙ ap (flat_map told_of) (sym (append-nil ys)))) k);
    timeless = refl;
    on_a = λ s. ap (with_asks s) (sym (append-nil s.asks));
    on_g = λ s. ap (with_asks s) (sym (append-nil s.asks));
  }

  asks-a : (n : ℕ) (d : Dialogue) (asked : Asked) (xs ys more_a more_g : List Asked) → Comes d (xs ++ asked ∷ []) ys more_a more_g
      → Comes (Posts (Submit 0 asked) λ number. Says (said.Refused n EINPROGRESS ∷ []) d) xs ys (asked ∷ more_a) more_g
  asks-a n d asked xs ys more_a more_g comes = record {
    told = comes.told ∙ ap (λ l. flat_map told_of l ++ flat_map told_of (ys ++ more_g)) (append_assoc xs (asked ∷ []) more_a);
    timeless = comes.timeless;
    on_a = λ s. comes.on_a (asked_more asked s) ∙ ap (with_asks s) (append_assoc s.asks (asked ∷ []) more_a);
    on_g = comes.on_g;
  }

  asks-g : (n : ℕ) (d : Dialogue) (asked : Asked) (xs ys more_a more_g : List Asked) → Comes d xs (ys ++ asked ∷ []) more_a more_g
      → Comes (Posts (Submit 1 asked) λ number. Says (said.Refused n EINPROGRESS ∷ []) d) xs ys more_a (asked ∷ more_g)
  asks-g n d asked xs ys more_a more_g comes = record {
    told = comes.told ∙ ap (λ l. flat_map told_of (xs ++ more_a) ++ flat_map told_of l) (append_assoc ys (asked ∷ []) more_g);
    timeless = comes.timeless;
    on_a = comes.on_a;
    on_g = λ s. comes.on_g (asked_more asked s) ∙ ap (with_asks s) (append_assoc s.asks (asked ∷ []) more_g);
  }

  module _ (workers i j : ℕ) where
    abbrev left_at : List Origin → List Origin → ℕ → ℕ → ℕ → List Asked → Dialogue
    left_at la lg q v n asks = lines_dialogue workers (walk_at i j la lg q v) n (map request_line asks) end

    -- a request and what follows on it
    module _ (d : Drawn) (ds : List Drawn) (n q v : ℕ) (la lg : List Origin) (xs ys : List Asked) (first : IsSized d) (few : q + suc (length ds) ≤ 100000) (small : v + 280 * suc (length ds) ≤ 28000000) where
      abbrev later : ScriptState → Dialogue
      later after = lines_dialogue workers after (n + 1) (map request_line (asked_from (n + 1) ds)) end

      abbrev rest : List Asked
      rest = asked_from (n + 1) ds

      abbrev here : ScriptState
      here = walk_at i j la lg q v

      abbrev CameOut : Asked → Type 0
      CameOut asked = Comes (followed (line_dialogue workers here n (request_line asked)) later) xs ys (of_a (asked ∷ rest)) (of_g (asked ∷ rest))

      abbrev Later : Type 0
      Later = (q' v' : ℕ) (la' lg' : List Origin) (xs' ys' : List Asked) → q' + length ds ≤ 100000 → v' + 280 * length ds ≤ 28000000 → Comes (left_at la' lg' q' v' (n + 1) rest) xs' ys' (of_a rest) (of_g rest)

      came-a : Later → is_on_a n ≡ true → CameOut (asked_on_a n d)
      came-a go is =
          let asked = asked_on_a n d in
          let v' = v + (length d.iv + length d.associated + length d.text) in
          let more = go (q + 1) v' (la ++ at_line n ∷ []) lg (xs ++ asked ∷ []) ys (omega arith) (omega (arith, first.iv, first.associated, first.text)) in
          subst (λ t. Comes (followed (line_dialogue workers here n (Cmd (command.Enc (if t then label_of_a else label_of_g) d.iv d.associated (in_one d.text) false))) later) xs ys (if t then asked ∷ of_a rest else of_a rest) (if not t then asked ∷ of_g rest else of_g rest)) (sym is)
          (subst (λ D. Comes (followed D later) xs ys (asked ∷ of_a rest) (of_g rest)) (sym (dialogue-a workers i j la lg q v n d.iv d.associated d.text (omega arith) (omega (arith, first.iv, first.associated, first.text)) first.iv))
          (asks-a n (later (walk_at i j (la ++ at_line n ∷ []) lg (q + 1) v')) asked xs ys (of_a rest) (of_g rest) more))

      came-g : Later → is_on_a n ≡ false → CameOut (asked_on_g n d)
      came-g go is =
          let asked = asked_on_g n d in
          let iv = take 12 d.iv in
          let v' = v + (length iv + length d.associated + length d.text) in
          let more = go (q + 1) v' la (lg ++ at_line n ∷ []) xs (ys ++ asked ∷ []) (omega arith) (omega (arith, first.iv_of_g, first.associated, first.text)) in
          subst (λ t. Comes (followed (line_dialogue workers here n (Cmd (command.Enc (if t then label_of_a else label_of_g) iv d.associated (in_one d.text) false))) later) xs ys (if t then asked ∷ of_a rest else of_a rest) (if not t then asked ∷ of_g rest else of_g rest)) (sym is)
          (subst (λ D. Comes (followed D later) xs ys (of_a rest) (asked ∷ of_g rest)) (sym (dialogue-g workers i j la lg q v n iv d.associated d.text (omega arith) (omega (arith, first.iv_of_g, first.associated, first.text)) first.iv_of_g))
          (asks-g n (later (walk_at i j la (lg ++ at_line n ∷ []) (q + 1) v')) asked xs ys (of_a rest) (of_g rest) more))

      came : Later → (t : Bool) → is_on_a n ≡ t → CameOut (asked_for n d)
      came go true is = subst (λ t. CameOut (if t then asked_on_a n d else asked_on_g n d)) (sym is) (came-a go is)
      came go false is = subst (λ t. CameOut (if t then asked_on_a n d else asked_on_g n d)) (sym is) (came-g go is)

    pub come : (ds : List Drawn) (n q v : ℕ) (la lg : List Origin) (xs ys : List Asked) → All IsSized ds → q + length ds ≤ 100000 → v + 280 * length ds ≤ 28000000
        → Comes (left_at la lg q v n (asked_from n ds)) xs ys (of_a (asked_from n ds)) (of_g (asked_from n ds))
    come [] n q v la lg xs ys sized few small = ends i j la lg q v xs ys
    come (d ∷ ds) n q v la lg xs ys sized few small =
        came d ds n q v la lg xs ys (All-head IsSized d ds sized) few small
        (λ q' v' la' lg' xs' ys' few' small'. come ds (n + 1) q' v' la' lg' xs' ys' (All-tail IsSized d ds sized) few' small')
        (is_on_a n) refl
