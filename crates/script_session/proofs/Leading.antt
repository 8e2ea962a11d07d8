-- Parts of the end of input, one after another.
use Rattle.std.proofs.Common.{◌≡◌, ℕ, true, false, List, [], ◌∷◌, ◌++◌, map, Option, Some, None, refl, sym, ap, ◌∙◌, append_assoc}
use Rattle.std.specs.Prelude.{if◌then◌else◌}
use Rattle.reply_text.specs.declared.answers.Answer.{Answer}
use Rattle.dialogues.specs.BoardCalls.{BoardCall, Notice, Goes, Collects}
use Rattle.dialogues.specs.Dialogues.{Dialogue, Says, Posts}
use Rattle.dialogues.specs.PipelineCommands.{lets_go, let_all_go, drains_at_end, drain_all, said_at_end}
use Rattle.dialogues.specs.Questions.{Go, Drain}
use Rattle.dialogues.specs.Transcripts.{joined, transcript_of}
use Rattle.dialogues.specs.ScriptState.{Live, PipelineState}
use Rattle.dialogues.proofs.Leading.{joined-assoc}
use Rattle.script_session.specs.EndOfInput.{LeadsBy, part, place_of}

pub leads-nothing : LeadsBy (λ rest. rest) [] []
leads-nothing = λ rest r b. refl

pub leads-then : (first later : Dialogue → Dialogue) (a c : List BoardCall) (x y : List Answer) → LeadsBy first a x → LeadsBy later c y → LeadsBy (λ rest. first (later rest)) (a ++ c) (x ++ y)
leads-then first later a c x y one two = λ rest r b.
    ap (transcript_of (first (later rest)) r) (append_assoc a c b)
    ∙ (one (later rest) r (c ++ b) ∙ (ap (joined (part a x)) (two rest r b) ∙ sym (joined-assoc (part a x) (part c y) (transcript_of rest r b))))

pub leads-same : (d e : Dialogue → Dialogue) (calls : List BoardCall) (said : List Answer) → ((rest : Dialogue) → e rest ≡ d rest) → LeadsBy d calls said → LeadsBy e calls said
leads-same d e calls said same leads = λ rest r b. ap (λ x. transcript_of x r (calls ++ b)) (same rest) ∙ leads rest r b

-- ---- one transform

pub goes-none : (pipe : Option PipelineState) → pipe ≡ None → LeadsBy (lets_go pipe) [] []
goes-none pipe none = leads-same (λ rest. rest) (lets_go pipe) [] [] (λ rest. ap (λ p. lets_go p rest) none) leads-nothing

pub goes-free : (of : Option PipelineState) (pipe : PipelineState) → of ≡ Some pipe → pipe.held ≡ false → LeadsBy (lets_go of) [] []
goes-free of pipe has free =
    leads-same (λ rest. rest) (lets_go of) [] [] (λ rest. ap (λ p. lets_go p rest) has ∙ ap (λ t. if t then (Posts (Go pipe.number) λ done. rest) else rest) free) leads-nothing

pub goes-held : (of : Option PipelineState) (pipe : PipelineState) → of ≡ Some pipe → pipe.held ≡ true → LeadsBy (lets_go of) (Goes pipe.number ∷ []) []
goes-held of pipe has held =
    leads-same (λ rest. Posts (Go pipe.number) λ done. rest) (lets_go of) (Goes pipe.number ∷ []) [] (λ rest. ap (λ p. lets_go p rest) has ∙ ap (λ t. if t then (Posts (Go pipe.number) λ done. rest) else rest) held) (λ rest r b. refl)

pub drains-none : (label : List ℕ) (pipe : Option PipelineState) → pipe ≡ None → LeadsBy (drains_at_end label pipe) [] []
drains-none label pipe none = leads-same (λ rest. rest) (drains_at_end label pipe) [] [] (λ rest. ap (λ p. drains_at_end label p rest) none) leads-nothing

pub drains-some : (label : List ℕ) (of : Option PipelineState) (pipe : PipelineState) (notices : List Notice) → of ≡ Some pipe
    → LeadsBy (drains_at_end label of) (Collects pipe.number (record { notices = notices; all_done = true }) ∷ []) (said_at_end label notices)
drains-some label of pipe notices has =
    leads-same (λ rest. Posts (Drain pipe.number) λ told. Says (said_at_end label told) rest) (drains_at_end label of) (Collects pipe.number (record { notices = notices; all_done = true }) ∷ []) (said_at_end label notices)
    (λ rest. ap (λ p. drains_at_end label p rest) has) (λ rest r b. refl)

-- ---- one transform more

pub let-split : (before later : List Live) (live : Live) (rest : Dialogue) → let_all_go (before ++ live ∷ later) rest ≡ let_all_go before (lets_go live.pipe (let_all_go later rest))
let-split [] later live rest = refl
let-split (x ∷ before) later live rest = ap (lets_go x.pipe) (let-split before later live rest)

pub let-more : (before : List Live) (live : Live) (rest : Dialogue) → let_all_go (before ++ live ∷ []) rest ≡ let_all_go before (lets_go live.pipe rest)
let-more before live rest = let-split before [] live rest

pub drain-split : (before later : List Live) (live : Live) (rest : Dialogue) → drain_all (before ++ live ∷ later) rest ≡ drain_all before (drains_at_end live.label live.pipe (drain_all later rest))
drain-split [] later live rest = refl
drain-split (x ∷ before) later live rest = ap (drains_at_end x.label x.pipe) (drain-split before later live rest)

pub drain-more : (before : List Live) (live : Live) (rest : Dialogue) → drain_all (before ++ live ∷ []) rest ≡ drain_all before (drains_at_end live.label live.pipe rest)
drain-more before live rest = drain-split before [] live rest

-- ---- by labels and numbers alone

abbrev drains_by : List ℕ → Option ℕ → Dialogue → Dialogue
drains_by label None rest = rest
drains_by label (Some number) rest = Posts (Drain number) λ notices. Says (said_at_end label notices) rest

abbrev drain_places : List (List ℕ × Option ℕ) → Dialogue → Dialogue
drain_places [] rest = rest
drain_places (place ∷ places) rest = drains_by place.0 place.1 (drain_places places rest)

drains-places : (lives : List Live) (rest : Dialogue) → drain_all lives rest ≡ drain_places (map place_of lives) rest
drains-places [] rest = refl
drains-places (live ∷ lives) rest = by_pipe live.pipe ∙ ap (drains_by (place_of live).0 (place_of live).1) (drains-places lives rest)
  where
    by_pipe : (pipe : Option PipelineState) → drains_at_end live.label pipe (drain_all lives rest) ≡ drains_by live.label (place_of (record live { pipe = pipe })).1 (drain_all lives rest)
    by_pipe None = refl
    by_pipe (Some pipe) = refl

-- the end of input is that of each list of transforms with the same labels and pipelines
pub drains-same : (lives lives' : List Live) (rest : Dialogue) → map place_of lives' ≡ map place_of lives → drain_all lives' rest ≡ drain_all lives rest
drains-same lives lives' rest same = drains-places lives' rest ∙ (ap (λ ps. drain_places ps rest) same ∙ sym (drains-places lives rest))
