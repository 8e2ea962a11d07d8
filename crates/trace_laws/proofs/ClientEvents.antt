-- The events of several scripts at once can be read back.
use Rattle.std.proofs.Common.{◌≡◌, ◌≤◌, ◌<◌, ◌+◌, ◌-◌, ℕ, suc, zero, List, [], ◌∷◌, length, map, refl, sym, ap, subst, arith, inl, inr}
use Rattle.std.specs.List.{All}
use Rattle.std.proofs.lemmas.Bool.{cases_lt}
use Rattle.std.proofs.lemmas.List.Elements.{All-head, All-tail, All-nil, All-cons, All-append}
use Rattle.alg_registry.specs.declared.entry.RegEntry.{RegEntry}
use Rattle.alg_registry.specs.Rows.{caller_of}
use Rattle.board.specs.declared.entry.BoardEntry.{BoardEntry}
use Rattle.dialogues.specs.RegistryCalls.{reg_calls}
use Rattle.dialogues.specs.BoardCalls.{board_calls}
use Rattle.dialogues.specs.Texts.{IsClientText, AreFirstTexts}
use Rattle.dialogues.specs.Transcripts.{Transcript}
use Rattle.dialogues.specs.ScriptState.{ScriptState, Live, start, start_beside}
use Rattle.script_text.specs.Lines.{lines_of}
use Rattle.script_text.specs.Parts.{cut_lines, behind_mark, parts_of}
use Rattle.script_text.specs.Script.{script_of}
use Rattle.transforms.specs.declared.ask.Ask.{Ask}
use Rattle.client_texts.specs.Outputs.{AreClientTexts, IsOutputBy}
use Rattle.client_texts.specs.OneList.{IsOneOf}
use Rattle.trace_laws.specs.Clients.{ClientTracesCanBeRead}
use Rattle.trace_laws.specs.DriverNames.{AsksOfWord}
use Rattle.trace_laws.proofs.Asking.{EntryOf, entries_of_calls, beside_asks_of_words, part_asks_of_words, closing_asks_of_words}
use Rattle.trace_laws.proofs.Events.{IsNamed, script_alone, events_have_text, are_events}
use Rattle.trace_laws.proofs.Words.{lines_name_words}

-- each part but the first is a client's
parts_many : (clients : ℕ) (lines : List (List ℕ)) → length (cut_lines clients lines) ≡ suc clients
parts_many zero lines = refl
parts_many (suc clients) lines = ap suc (parts_many clients (behind_mark lines))

client_named : (workers client : ℕ) (shared : List Live) (part : List ℕ) (r : List RegEntry) (b : List (BoardEntry Ask)) (text : List ℕ)
    → IsClientText workers client shared (script_of part) r b text → All (EntryOf (16 + client)) r
client_named workers client shared part r b text is =
    entries_of_calls (16 + client) r
    (subst (All AsksOfWord) is.registry (beside_asks_of_words workers (start_beside client shared) (script_of part) (reg_calls (16 + client) r) (board_calls (16 + client) b) (lines_name_words part)))

-- of the clients from one on
clients_named : (workers from : ℕ) (shared : List Live) (parts : List (List ℕ)) (r : List RegEntry) (b : List (BoardEntry Ask)) (texts : List (List ℕ))
    → AreClientTexts workers from shared (map script_of parts) r b texts → (client : ℕ) → from ≤ client → client < from + length parts → All (EntryOf (16 + client)) r
clients_named workers from shared [] r b texts are client least most = absurd (omega (arith, least, most))
clients_named workers from shared (part ∷ parts) r b [] are client least most = absurd are
clients_named workers from shared (part ∷ parts) r b (text ∷ texts) are client least most =
    elim (cases_lt from client) [
      | inl later ↦ clients_named workers (from + 1) shared parts r b texts are.1 client (omega (arith, later)) (omega (arith, most))
      | inr first ↦ subst (λ c. All (EntryOf (16 + c)) r) (let same : from ≡ client = omega (arith, least, first) in same) (client_named workers from shared part r b text are.0)
    ]

first_named : (workers : ℕ) (part : List ℕ) (script_state : ScriptState) (r : List RegEntry) (b : List (BoardEntry Ask)) (opening ending : List ℕ)
    → AreFirstTexts workers (script_of part) script_state r b opening ending → All (EntryOf 0) r
first_named workers part script_state r b opening ending is =
    let first : All AsksOfWord is.first.registry =
    subst (λ (t : Transcript). All AsksOfWord t.registry) is.is_first (part_asks_of_words workers (start 0) (script_of part) is.first.registry is.first.board (lines_name_words part)) in
    let last : All AsksOfWord is.last.registry =
    subst (λ (t : Transcript). All AsksOfWord t.registry) is.is_last (closing_asks_of_words script_state is.last.registry is.last.board) in
    entries_of_calls 0 r (subst (All AsksOfWord) is.registry (All-append AsksOfWord is.first.registry is.last.registry first last))

named_one : (workers clients : ℕ) (e : RegEntry) → workers ≤ 16 → IsOneOf workers clients (caller_of e) → EntryOf 0 e
    → ((client : ℕ) → 1 ≤ client → client ≤ clients → EntryOf (16 + client) e) → IsNamed e
named_one workers clients e most (inl few) own others = λ other. subst (λ c. EntryOf c e) (sym (script_alone (caller_of e) other (omega (arith, most, few)))) own
named_one workers clients e most (inr between) own others = λ other.
    let same : 16 + (caller_of e - 16) ≡ caller_of e = omega (arith, between.0) in
    subst (λ c. EntryOf c e) same (others (caller_of e - 16) (omega (arith, between.0)) (omega (arith, between.0, between.1)))

all_named : (workers clients : ℕ) (h : List RegEntry) → workers ≤ 16 → All (λ e. IsOneOf workers clients (caller_of e)) h → All (EntryOf 0) h
    → ((client : ℕ) → 1 ≤ client → client ≤ clients → All (EntryOf (16 + client)) h) → All IsNamed h
all_named workers clients [] most few own others = All-nil IsNamed
all_named workers clients (e ∷ h) most few own others =
    All-cons IsNamed e h
    (named_one workers clients e most (All-head (λ e. IsOneOf workers clients (caller_of e)) e h few) (All-head (EntryOf 0) e h own) (λ client least at_most. All-head (EntryOf (16 + client)) e h (others client least at_most)))
    (all_named workers clients h most (All-tail (λ e. IsOneOf workers clients (caller_of e)) e h few) (All-tail (EntryOf 0) e h own) (λ client least at_most. All-tail (EntryOf (16 + client)) e h (others client least at_most)))

named_by_parts : (workers clients : ℕ) (parts : List (List ℕ)) (r : List RegEntry) (b : List (BoardEntry Ask)) (output : List ℕ) → length parts ≡ suc clients → workers ≤ 16
    → All (λ e. IsOneOf workers clients (caller_of e)) r → IsOutputBy workers (map script_of parts) r b output → All IsNamed r
named_by_parts workers clients [] r b output many most few is = absurd is
named_by_parts workers clients (part ∷ parts) r b output many most few is =
    all_named workers clients r most few (first_named workers part is.made r b is.opening is.ending is.alone)
    (λ client least at_most. clients_named workers 1 is.made.lives parts r b is.texts is.clients client least (omega (arith, at_most, many)))

pub client_traces_can_be_read : ClientTracesCanBeRead
client_traces_can_be_read workers clients input r b output most legal made few is fit =
    let named : All IsNamed r = named_by_parts workers clients (parts_of clients input) r b output (parts_many clients (lines_of input)) most few is in
    (are_events r (events_have_text [] r refl legal made named) fit.0, fit.1)
