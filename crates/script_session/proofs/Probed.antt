-- `probe`: all looks are made first, and then each is waited for.
use Rattle.std.proofs.Common.{◌≡◌, ℕ, suc, ◌<◌, take, drop, get_or, arith, true, ◌&&◌, List, [], ◌∷◌, ◌++◌, length, Option, Some, Result, Ok, Err, refl, sym, ap, subst, ◌∙◌, append_assoc, append-nil, inl, inr}
use Rattle.std.specs.Prelude.{All, MatchResult, IsFalse, IsErr, ◌+◌}
use Rattle.std.specs.List.{list_all}
use Rattle.std.proofs.lemmas.List.Concat.{flat_map-append}
use Rattle.std.proofs.Math.Seq.{take-suc, take-length}
use Rattle.std.proofs.lemmas.List.{take-append-drop}
use Rattle.std.proofs.lemmas.List.Elements.{All-nil, All-cons, All-append}
use Rattle.std.proofs.lemmas.Bool.{and_parts}
use Rattle.kc_base.specs.declared.error_numbers.Errno.{Errno}
use Rattle.alg_names.specs.Name.{Tree, spelling}
use Rattle.alg_registry.specs.declared.entry.RegEntry.{RegEntry}
use Rattle.alg_registry.specs.Legal.{is_worker}
use Rattle.alg_registry.specs.declared.spec.Spec.{Spec}
use Rattle.alg_registry.specs.Rows.{caller_of}
use Rattle.board.specs.declared.entry.BoardEntry.{BoardEntry}
use Rattle.reply_text.specs.declared.answers.Answer.{Answer}
use Rattle.shared_registry.specs.Builds.{IsLook, is_building}
use Rattle.shared_registry.specs.Faithful.{IsFaithful}
use Rattle.shared_registry.specs.Passes.{IsSound}
use Rattle.templates.specs.LookResults.{Found, Fault, found_in}
use Rattle.transforms.specs.declared.ask.Ask.{Ask}
use Rattle.turn_lock.specs.TurnLaws.{stays, still_kept, own_goes}
use Rattle.turn_lock.specs.PassLaws.{GoesOn}
use Rattle.turn_lock.specs.Turns.{Known, Has}
use Rattle.dialogues.specs.Dialogues.{Dialogue, Ends, Says, Asks}
use Rattle.dialogues.specs.First.{AreFurther, BeginsBy}
use Rattle.dialogues.specs.GoingOn.{FoundStays, LooksAtOnce, CallsByAre}
use Rattle.dialogues.proofs.RegistryGrowing.{reg_calls-append}
use Rattle.dialogues.specs.InTurn.{AreMade}
use Rattle.dialogues.specs.Names.{name_read}
use Rattle.dialogues.specs.Probe.{found_said, looks_up, looks_all, probe}
use Rattle.dialogues.specs.Questions.{Look}
use Rattle.dialogues.specs.RegistryCalls.{RegCall, Looks, reg_calls, AllSettled}
use Rattle.dialogues.specs.Transcripts.{Transcript, transcript_of}
use Rattle.dialogues.specs.ScriptState.{ScriptState, Live}
use Rattle.recorded_calls.specs.RegistryCalls.{AskedBy, IsCaller}
use Rattle.recorded_calls.specs.Looks.{Sought, Goes, Builds, look_entry, found_result}
use Rattle.recorded_calls.specs.Passes.{RegPass, BoardPass, known}
use Rattle.recorded_calls.proofs.Asking.{further-by}
use Rattle.recorded_calls.proofs.Looking.{goes-further, goes-more}
use Rattle.script_session.specs.BrokenOff.{Breaks}
use Rattle.script_session.specs.PerformedDialogue.{DoneBy, PerformsBy, StopsIn}
use Rattle.script_session.specs.Probe.{Searched, IsRead, AreRead, entry_of, look_entries, MaySettle, LooksFirst, LooksSome, comes_to, AreSaid, SettlesThen}
use Rattle.script_session.specs.States.{State, ReferencesMatch, PipelinesMatch, uses}
use Rattle.script_session.proofs.Arms.{viewed, sees-same}
use Rattle.script_session.proofs.Breaking.{stops-in}
use Rattle.script_session.proofs.Finding.{has-seen-more}
use Rattle.script_session.proofs.Rules.{called-nothing}
use Rattle.script_session.proofs.Searches.{call_of, calls_of, all-looks, no-more-calls, no-references, all-settled, calls-are-looks, begins-looks}
use Rattle.script_session.proofs.Standing.{stands-more}

abbrev Went : Known RegEntry → Known RegEntry → List RegEntry → Type 0
Went k l own = GoesOn caller_of IsFaithful k l own

-- ---- what a caller may wait for stays so

sound-on : (k l : Known RegEntry) (own : List RegEntry) → Went k l own → IsSound k → IsSound l
sound-on k l own goes sound = record {
  faithful = still_kept caller_of IsFaithful k l own goes sound.faithful;
  own = own_goes caller_of IsFaithful k l own sound.own goes;
}

has-left : {E : Type 0} → (P : E → Type 0) (xs ys : List E) → Has P xs → Has P (xs ++ ys)
has-left P [] ys has = absurd has
has-left P (x ∷ xs) ys (inl here) = inl here
has-left P (x ∷ xs) ys (inr later) = inr (has-left P xs ys later)

has-last : {E : Type 0} → (P : E → Type 0) (xs : List E) (x : E) → P x → Has P (xs ++ x ∷ [])
has-last P [] x is = inl is
has-last P (y ∷ xs) x is = inr (has-last P xs x is)

settle-on : (k l : Known RegEntry) (own : List RegEntry) (look : Result Sought Errno) → Went k l own → MaySettle k look → MaySettle l look
settle-on k l own (Ok look) goes may = (
  sound-on k l own goes may.0,
  subst (λ n. Has (IsLook n look.text look.looked) l.made) (sym goes.number)
      (subst (Has (IsLook k.number look.text look.looked)) (sym goes.made) (has-left (IsLook k.number look.text look.looked) k.made own may.1)),
)
settle-on k l own (Err errno) goes may = tt

-- ---- one look

pub goes-nowhere : (r : Option RegPass) → Goes r r []
goes-nowhere r = record { lock = refl; goes = stays caller_of IsFaithful (known r) }

-- what is said of a look that was made, or not
abbrev pub LooksFor : Option RegPass → Option RegPass → List ℕ → Result Sought Errno → Type 0
LooksFor before after text look = IsRead text look × Goes before after (entry_of (known before).number look) × MaySettle (known after) look

pub look-made : {before after : Option RegPass} → (text : List ℕ) (name : Tree) (look : Sought) → name_read text ≡ Ok name → spelling name ≡ text → look.text ≡ spelling name
    → Goes before after (look_entry (known before).number look ∷ []) → IsSound (known after) → LooksFor before after text (Ok look)
look-made {before} {after} text name look read spelled same goes sound = (
  (name, read, same ∙ spelled),
  goes,
  (
    sound,
    subst (Has (IsLook (known after).number look.text look.looked)) (sym goes.goes.made)
        (has-last (IsLook (known after).number look.text look.looked) (known before).made (look_entry (known before).number look) (sym goes.goes.number, refl, refl)),
  ),
)

-- ---- one look after the other

pub stopped : {A S : Type 0} (result : Result A S) (Done : A → Type 0) {Stopped : Type 0} → IsErr result → Stopped → MatchResult result Done (λ _. Stopped)
stopped (Ok done) Done is stop = absurd cc
stopped (Err error) Done is stop = stop

pub take-more : {A : Type 0} → (xs : List A) (i : ℕ) (x : A) → i < length xs → x ≡ get_or xs i x → take i xs ++ x ∷ [] ≡ take (i + 1) xs
take-more xs i x below is =
    let next : suc i ≡ i + 1 = omega arith in
    ap (λ y. take i xs ++ y ∷ []) is ∙ (sym (take-suc xs i x below) ∙ ap (λ n. take n xs) next)

read-more : (texts : List (List ℕ)) (searches : List Searched) (text : List ℕ) (search : Searched) → AreRead texts searches → search.text ≡ text → IsRead text search.look → AreRead (texts ++ text ∷ []) (searches ++ search ∷ [])
read-more [] [] text search read same is = (same, subst (λ t. IsRead t search.look) (sym same) is, tt)
read-more (x ∷ texts) (y ∷ searches) text search read same is = (read.0, read.1, read-more texts searches text search read.2 same is)
read-more [] (y ∷ searches) text search read same is = absurd read
read-more (x ∷ texts) [] text search read same is = absurd read

all-on : (k l : Known RegEntry) (own : List RegEntry) (searches : List Searched) → Went k l own → All (λ (search : Searched). MaySettle k search.look) searches → All (λ (search : Searched). MaySettle l search.look) searches
all-on k l own searches goes all = λ i d below. settle-on k l own _ goes (all i d below)

entries-more : (n : ℕ) (searches : List Searched) (search : Searched) → look_entries n (searches ++ search ∷ []) ≡ look_entries n searches ++ entry_of n search.look
entries-more n searches search =
    flat_map-append (λ (s : Searched). entry_of n s.look) searches (search ∷ []) ∙ ap (λ es. look_entries n searches ++ es) (append-nil (entry_of n search.look))

pub looks-begin : (r : Option RegPass) → LooksFirst r r [] []
looks-begin r = record { read = tt; goes = goes-nowhere r; ready = All-nil (λ (search : Searched). MaySettle (known r) search.look) }

pub looks-more : {before middle after : Option RegPass} → (texts : List (List ℕ)) (searches : List Searched) (text : List ℕ) (search : Searched) → LooksFirst before middle texts searches → search.text ≡ text
    → LooksFor middle after text search.look → LooksFirst before after (texts ++ text ∷ []) (searches ++ search ∷ [])
looks-more {before} {middle} {after} texts searches text search first same one =
    let n = (known before).number in
    let l = known middle in
    let m = known after in
    let entry = entry_of l.number search.look in
    let entries : look_entries n searches ++ entry ≡ look_entries n (searches ++ search ∷ []) =
    ap (λ i. look_entries n searches ++ entry_of i search.look) first.goes.goes.number ∙ sym (entries-more n searches search) in
    record {
      read = read-more texts searches text search first.read same one.0;
      goes = subst (Goes before after) entries (goes-further (look_entries n searches) entry first.goes one.1);
      ready =
          All-append (λ (s : Searched). MaySettle m s.look) searches (search ∷ []) (all-on l m entry searches one.1.goes first.ready)
          (All-cons (λ (s : Searched). MaySettle m s.look) search [] one.2 (All-nil (λ (s : Searched). MaySettle m s.look)));
    }

-- the next look wasn't made
pub looks-still : {before middle after : Option RegPass} → (texts : List (List ℕ)) (i : ℕ) (searches : List Searched) → LooksFirst before middle (take i texts) searches → Goes middle after [] → LooksSome before after texts
looks-still {before} {middle} {after} texts i searches first still =
    let looks = look_entries (known before).number searches in (
      i,
      searches,
      record {
        read = first.read;
        goes = subst (Goes before after) (append-nil looks) (goes-further looks [] first.goes still);
        ready = all-on (known middle) (known after) [] searches still.goes first.ready;
      },
    )

-- it was made, and no more
pub looks-one-more : {before middle after : Option RegPass} → (texts : List (List ℕ)) (i : ℕ) (searches : List Searched) (text : List ℕ) (look : Result Sought Errno) → LooksFirst before middle (take i texts) searches
    → i < length texts → text ≡ get_or texts i text → LooksFor middle after text look → LooksSome before after texts
looks-one-more {before} {middle} {after} texts i searches text look first below is one =
    let search : Searched = record { text = text; look = look } in (
      i + 1,
      searches ++ search ∷ [],
      subst (λ (ts : List (List ℕ)). LooksFirst before after ts (searches ++ search ∷ [])) (take-more texts i text below is) (looks-more (take i texts) searches text search first refl one),
    )

-- ---- what one comes to

pub settles-refused : (r : Option RegPass) (n : ℕ) (search : Searched) (errno : Errno) (result : Result Spec Errno) (name : List ℕ) (answer : Answer) → search.look ≡ Err errno → result ≡ Err errno → name ≡ search.text
    → ((came : Found) → result ≡ found_result came → answer ≡ found_said n name came) → SettlesThen r r n (search ∷ []) (answer ∷ [])
settles-refused r n search errno result name answer is none named said = record {
  work = [];
  goes = goes-nowhere r;
  all_work = refl;
  said_are = ((Fault errno, ap (comes_to (known r).seen) is, said (Fault errno) none ∙ ap (λ t. found_said n t (Fault errno)) named), tt);
}

-- ---- one after the other

comes-on : FoundStays → (h more : List RegEntry) (look : Result Sought Errno) (found : Found) → comes_to h look ≡ Some found → comes_to (h ++ more) look ≡ Some found
comes-on stay h more (Ok look) found is = stay h more look.looked found is
comes-on stay h more (Err errno) found is = is

said-on : FoundStays → (h more : List RegEntry) (n : ℕ) (searches : List Searched) (answers : List Answer) → AreSaid h n searches answers → AreSaid (h ++ more) n searches answers
said-on stay h more n [] [] said = tt
said-on stay h more n (search ∷ searches) (answer ∷ answers) said =
    ((said.0.0, comes-on stay h more search.look said.0.0 said.0.1, said.0.2), said-on stay h more n searches answers said.1)
said-on stay h more n [] (answer ∷ answers) said = absurd said
said-on stay h more n (search ∷ searches) [] said = absurd said

said-more : (h : List RegEntry) (n : ℕ) (searches later : List Searched) (answers more : List Answer) → AreSaid h n searches answers → AreSaid h n later more → AreSaid h n (searches ++ later) (answers ++ more)
said-more h n [] later [] more said rest = rest
said-more h n (search ∷ searches) later (answer ∷ answers) more said rest = (said.0, said-more h n searches later answers more said.1 rest)
said-more h n [] later (answer ∷ answers) more said rest = absurd said
said-more h n (search ∷ searches) later [] more said rest = absurd said

all-work : (xs ys : List RegEntry) → list_all is_building xs ≡ true → list_all is_building ys ≡ true → list_all is_building (xs ++ ys) ≡ true
all-work [] ys a b = b
all-work (x ∷ xs) ys a b =
    let both = and_parts (is_building x) (list_all is_building xs) a in
    ap (λ c. c && list_all is_building (xs ++ ys)) both.0 ∙ all-work xs ys both.1 b

pub settles-begin : (r : Option RegPass) (n : ℕ) → SettlesThen r r n [] []
settles-begin r n = record { work = []; goes = goes-nowhere r; all_work = refl; said_are = tt }

pub settles-more : {before middle after : Option RegPass} → FoundStays → (n : ℕ) (searches later : List Searched) (said more : List Answer) → SettlesThen before middle n searches said → SettlesThen middle after n later more
    → SettlesThen before after n (searches ++ later) (said ++ more)
settles-more {before} {middle} {after} stay n searches later said more first rest = record {
  work = first.work ++ rest.work;
  goes = goes-further first.work rest.work first.goes rest.goes;
  all_work = all-work first.work rest.work first.all_work rest.all_work;
  said_are =
      said-more (known after).seen n searches later said more
      (subst (λ h. AreSaid h n searches said) (sym rest.goes.goes.seen) (said-on stay (known middle).seen rest.goes.goes.between n searches said first.said_are)) rest.said_are;
}

-- ---- where memory was wanting it had built

pub settles-builds : {before after : Option RegPass} → (n : ℕ) (searches : List Searched) (said : List Answer) → SettlesThen before after n searches said → Builds before after
settles-builds n searches said then = record { work = then.work; goes = then.goes; all_work = then.all_work }

pub builds-then : {before middle after : Option RegPass} → Builds before middle → Builds middle after → Builds before after
builds-then first rest = record {
  work = first.work ++ rest.work;
  goes = goes-further first.work rest.work first.goes rest.goes;
  all_work = all-work first.work rest.work first.all_work rest.all_work;
}

-- the next one may still be waited for
pub may-still : {before middle : Option RegPass} → (n : ℕ) (searches all : List Searched) (said : List Answer) → SettlesThen before middle n searches said → All (λ (search : Searched). MaySettle (known before) search.look) all
    → All (λ (search : Searched). MaySettle (known middle) search.look) all
may-still {before} {middle} n searches all said then may = all-on (known before) (known middle) then.work all then.goes.goes may

-- ---- the dialogue

abbrev with_calls : List RegCall → Transcript → Transcript
with_calls calls turn = record turn { registry = calls ++ turn.registry }

asked-up : (text : List ℕ) (o : Option Found) (found : Found) (next : Found → Dialogue) (r : List RegCall) → o ≡ Some found
    → transcript_of (Asks (Look text) next) (Looks text o ∷ r) [] ≡ with_calls (Looks text o ∷ []) (transcript_of (next found) r [])
asked-up text o found next r is = subst (λ x. transcript_of (Asks (Look text) next) (Looks text x ∷ r) [] ≡ with_calls (Looks text x ∷ []) (transcript_of (next found) r [])) (sym is) refl

looked-up : (h : List RegEntry) (text : List ℕ) (look : Result Sought Errno) (found : Found) (next : Found → Dialogue) (r : List RegCall) → IsRead text look → comes_to h look ≡ Some found
    → transcript_of (looks_up text (name_read text) next) (call_of h text look ++ r) [] ≡ with_calls (call_of h text look) (transcript_of (next found) r [])
looked-up h text (Ok look) found next r read is =
    subst (λ reading. transcript_of (looks_up text reading next) (Looks text (found_in h look.looked) ∷ r) [] ≡ with_calls (Looks text (found_in h look.looked) ∷ []) (transcript_of (next found) r [])) (sym read.1)
    (asked-up text (found_in h look.looked) found next r is)
looked-up h text (Err errno) found next r read is =
    let same : Fault errno ≡ found = cc in
    subst (λ reading. transcript_of (looks_up text reading next) r [] ≡ transcript_of (next found) r []) (sym read) (ap (λ f. transcript_of (next f) r []) same)

with_calls-join : (a b : List RegCall) (turn : Transcript) → with_calls a (with_calls b turn) ≡ with_calls (a ++ b) turn
with_calls-join a b turn = ap (λ cs. record turn { registry = cs }) (sym (append_assoc a b turn.registry))

all-looked-up : (h : List RegEntry) (n : ℕ) (texts : List (List ℕ)) (searches : List Searched) (said : List Answer) (rest : List Answer → Dialogue) (r : List RegCall) → AreRead texts searches → AreSaid h n searches said
    → transcript_of (looks_all n texts rest) (calls_of h searches ++ r) [] ≡ with_calls (calls_of h searches) (transcript_of (rest said) r [])
all-looked-up h n [] [] [] rest r read said = refl
all-looked-up h n (text ∷ texts) (search ∷ searches) (answer ∷ answers) rest r read said =
    let calls = call_of h search.text search.look in
    let later = calls_of h searches in
    let found = said.0.0 in
    let next : Found → Dialogue = λ f. looks_all n texts (λ more. rest (found_said n search.text f ∷ more)) in
    subst (λ t. transcript_of (looks_all n (t ∷ texts) rest) ((calls ++ later) ++ r) [] ≡ with_calls (calls ++ later) (transcript_of (rest (answer ∷ answers)) r [])) read.0
    (ap (λ cs. transcript_of (looks_up search.text (name_read search.text) next) cs []) (append_assoc calls later r)
    ∙ (looked-up h search.text search.look found next (later ++ r) read.1 said.0.1
    ∙ (ap (with_calls calls) (all-looked-up h n texts searches answers (λ more. rest (found_said n search.text found ∷ more)) r read.2 said.1)
    ∙ (with_calls-join calls later (transcript_of (rest (found_said n search.text found ∷ answers)) r [])
    ∙ ap (λ a. with_calls (calls ++ later) (transcript_of (rest (a ∷ answers)) r [])) (sym said.0.2)))))
all-looked-up h n [] (search ∷ searches) said rest r read is = absurd read
all-looked-up h n (text ∷ texts) [] said rest r read is = absurd read
all-looked-up h n [] [] (answer ∷ answers) rest r read is = absurd is
all-looked-up h n (text ∷ texts) (search ∷ searches) [] rest r read is = absurd is

-- ---- the calls

-- looks that were made, and work
looks-further : {before after : Option RegPass} → (texts : List (List ℕ)) (searches : List Searched) (work : List RegEntry) → IsCaller (known before) → AreRead texts searches
    → Goes before after (look_entries (known before).number searches ++ work) → list_all is_building work ≡ true
    → AreFurther (known before).number (calls_of (known after).seen searches) (known before).seen (known after).seen
looks-further {before} {after} texts searches work caller read went all_work =
    let k = known before in
    let l = known after in
    let goes = went.goes in
    further-by reg_calls-append k l goes.between (calls_of l.seen searches) caller goes.seen
    (calls-are-looks l.seen k.number k.seen goes.between work texts searches read goes.mine all_work)

-- they are a `probe`'s first calls
probe-breaks : {before after : Option RegPass} → (script_state : ScriptState) (b : Known (BoardEntry Ask)) (n i : ℕ) (texts : List (List ℕ)) (searches : List Searched) (work : List RegEntry) → IsCaller (known before)
    → AreRead (take i texts) searches → Goes before after (look_entries (known before).number searches ++ work) → list_all is_building work ≡ true → Breaks (probe script_state n texts) (known before) b (known after) b
probe-breaks {before} {after} script_state b n i texts searches work caller read went all_work =
    let k = known before in
    let l = known after in
    let rest : List Answer → Dialogue = λ said. Says said (Ends script_state) in
    record {
      registry = calls_of l.seen searches;
      board = [];
      further = looks-further (take i texts) searches work caller read went all_work;
      own = own_goes caller_of IsFaithful k l (look_entries k.number searches ++ work) caller.own went.goes;
      called = called-nothing b;
      begins = subst (λ ts. BeginsBy (looks_all n ts rest) (calls_of l.seen searches) []) (take-append-drop i texts) (begins-looks n (take i texts) (drop i texts) rest l.seen searches read);
    }

-- memory was wanting
probe-stops : (r r' : Option RegPass) (ws : ℕ) (script_state : ScriptState) (b : Option BoardPass) (n i : ℕ) (texts : List (List ℕ)) (searches : List Searched) (work : List RegEntry) → ReferencesMatch script_state.lives (known r) → AreRead (take i texts) searches
    → Goes r r' (look_entries (known r).number searches ++ work) → list_all is_building work ≡ true
    → StopsIn (probe script_state n texts) (record { workers = ws; script_state = script_state; registry = r; board = b }) (record { workers = ws; script_state = script_state; registry = r'; board = b })
probe-stops r r' ws script_state b n i texts searches work stands read went all_work =
    let s : State = record { workers = ws; script_state = script_state; registry = r; board = b } in
    let s' : State = record { workers = ws; script_state = script_state; registry = r'; board = b } in
    stops-in (probe script_state n texts) s s'
    (record {
      locks = record { registry = went.lock; board = refl; workers = refl; shared = refl };
      registry = has-seen-more (goes-more (look_entries (known r).number searches ++ work) went);
      board = sees-same (known b);
    })
    (probe-breaks script_state (known b) n i texts searches work stands.caller read went all_work)

-- before all looks were made
pub probe-some : {ws c : ℕ} {sh lives : List Live} {q v : ℕ} {r : Option RegPass} {b : Option BoardPass} → (s : State) (view : viewed ws c sh lives q v r b ≡ s) (r' : Option RegPass) (n : ℕ) (texts : List (List ℕ))
    → ReferencesMatch s.script_state.lives (known s.registry) → LooksSome r r' texts → StopsIn (probe s.script_state n texts) s (viewed ws c sh lives q v r' b)
probe-some {ws} {c} {sh} {lives} {q} {v} {r} {b} s view r' n texts stands some =
    let first = some.2 in
    let looks = look_entries (known r).number some.1 in
    subst (λ (x : State). ReferencesMatch x.script_state.lives (known x.registry) → StopsIn (probe x.script_state n texts) x (viewed ws c sh lives q v r' b)) view
    (λ st. probe-stops r r' ws (record { client = c; shared = sh; lives = lives; requests = q; bytes = v }) b n some.0 texts some.1 [] st first.read (subst (Goes r r') (sym (append-nil looks)) first.goes) refl) stands

module _ (looks_law : LooksAtOnce) (are_law : CallsByAre) where
  asked-all : {before middle after : Option RegPass} → (n : ℕ) (texts : List (List ℕ)) (searches : List Searched) (said : List Answer) → IsCaller (known before) → LooksFirst before middle texts searches
      → SettlesThen middle after n searches said → AskedBy (length texts) (known before) (known after) (calls_of (known after).seen searches)
  asked-all {before} {middle} {after} n texts searches said caller first then =
      let k = known before in
      let l = known after in
      let own = look_entries k.number searches ++ then.work in
      let whole : Goes before after own = goes-further (look_entries k.number searches) then.work first.goes then.goes in
      let goes = whole.goes in
      let calls = calls_of l.seen searches in
      let made : AreMade k.number calls k.seen l.seen = record {
        more = goes.between;
        history = goes.seen;
        calls_are = calls-are-looks l.seen k.number k.seen goes.between then.work texts searches first.read goes.mine then.all_work;
        settled = all-settled l.seen n searches said then.said_are;
      } in
      let turns = looks_law (length texts) k.number calls k.seen l.seen (all-looks l.seen searches) (no-more-calls l.seen texts searches first.read) made in
      let are = are_law (length texts) k.number calls k.seen l.seen caller.settled turns in
      record {
        number = goes.number;
        next = goes.next;
        in_turn = turns;
        are = are;
        caller = record {
          outsider = subst (λ i. IsFalse (is_worker i)) (sym goes.number) caller.outsider;
          own = own_goes caller_of IsFaithful k l own caller.own goes;
          settled = subst (λ i. AllSettled (reg_calls i l.seen)) (sym goes.number) are.all_settled;
        };
      }

  probe-done : {before middle after : Option RegPass} → (script_state : ScriptState) (b : Known (BoardEntry Ask)) (n : ℕ) (texts : List (List ℕ)) (searches : List Searched) (said answers answers' : List Answer) → ReferencesMatch script_state.lives (known before) → PipelinesMatch script_state b
      → LooksFirst before middle texts searches → SettlesThen middle after n searches said → answers' ≡ answers ++ said → DoneBy (length texts) (probe script_state n texts) (known before) b (known after) b script_state answers answers'
  probe-done {before} {middle} {after} script_state b n texts searches said answers answers' stands posted first then e =
      let h = (known after).seen in
      let calls = calls_of h searches in
      let asked = asked-all n texts searches said stands.caller first then in
      let turn : Transcript = record { registry = calls; board = []; answers = said; after = Some script_state } in
      record {
        turn = turn;
        is =
            ap (λ cs. transcript_of (probe script_state n texts) cs []) (sym (append-nil calls))
            ∙ (all-looked-up h n texts searches said (λ more. Says more (Ends script_state)) [] first.read then.said_are
            ∙ (λ i. record { registry = append-nil calls i; board = []; answers = append-nil said i; after = Some script_state }));
        asked = asked;
        called = called-nothing b;
        ends = refl;
        says = e;
        stands = stands-more script_state.lives script_state.lives (known before) (known after) calls stands asked (λ id. ap (λ c. c + uses id script_state.lives) (no-references id h searches));
        posted = posted;
      }

  -- ---- the arm of a session

  probe-at : {S : Type 0} → (r r1 r2 : Option RegPass) (ws : ℕ) (script_state : ScriptState) (b : Option BoardPass) (result : Result (Unit {0}) S) (n : ℕ) (texts : List (List ℕ)) (searches : List Searched) (answers answers' : List Answer) → ReferencesMatch script_state.lives (known r)
      → PipelinesMatch script_state (known b) → LooksFirst r r1 texts searches → MatchResult result (λ _. (said : List Answer) × (answers' ≡ answers ++ said) × SettlesThen r1 r2 n searches said) (λ _. Builds r1 r2)
      → MatchResult result (λ _. PerformsBy (length texts) (probe script_state n texts) (record { workers = ws; script_state = script_state; registry = r; board = b }) (record { workers = ws; script_state = script_state; registry = r2; board = b }) answers answers')
      (λ _. StopsIn (probe script_state n texts) (record { workers = ws; script_state = script_state; registry = r; board = b }) (record { workers = ws; script_state = script_state; registry = r2; board = b }))
  probe-at r r1 r2 ws script_state b (Ok done) n texts searches answers answers' stands posted first then = record {
    locks = record { registry = then.2.goes.lock ∙ first.goes.lock; board = refl; workers = refl; shared = refl };
    wide = λ wide. wide;
    done = probe-done script_state (known b) n texts searches then.0 answers answers' stands posted first then.2 then.1;
  }
  probe-at r r1 r2 ws script_state b (Err stop) n texts searches answers answers' stands posted first builds =
      let looks = look_entries (known r).number searches in
      probe-stops r r2 ws script_state b n (length texts) texts searches builds.work stands (subst (λ ts. AreRead ts searches) (sym (take-length texts)) first.read)
      (goes-further looks builds.work first.goes builds.goes) builds.all_work

  pub probe-arm : {S : Type 0} {ws c : ℕ} {sh lives : List Live} {q v : ℕ} {r : Option RegPass} {b : Option BoardPass} → (s : State) (view : viewed ws c sh lives q v r b ≡ s) (r1 r2 : Option RegPass) (result : Result (Unit {0}) S) (n : ℕ) (texts : List (List ℕ)) (searches : List Searched) (answers answers' : List Answer)
      → ReferencesMatch s.script_state.lives (known s.registry) → PipelinesMatch s.script_state (known s.board) → LooksFirst r r1 texts searches → MatchResult result (λ _. (said : List Answer) × (answers' ≡ answers ++ said) × SettlesThen r1 r2 n searches said) (λ _. Builds r1 r2)
      → MatchResult result (λ _. PerformsBy (length texts) (probe s.script_state n texts) s (viewed ws c sh lives q v r2 b) answers answers') (λ _. StopsIn (probe s.script_state n texts) s (viewed ws c sh lives q v r2 b))
  probe-arm {S} {ws} {c} {sh} {lives} {q} {v} {r} {b} s view r1 r2 result n texts searches answers answers' stands posted first then =
      subst (λ (x : State). ReferencesMatch x.script_state.lives (known x.registry) → PipelinesMatch x.script_state (known x.board)
      → MatchResult result (λ _. PerformsBy (length texts) (probe x.script_state n texts) x (viewed ws c sh lives q v r2 b) answers answers') (λ _. StopsIn (probe x.script_state n texts) x (viewed ws c sh lives q v r2 b))) view
      (λ st po. probe-at r r1 r2 ws (record { client = c; shared = sh; lives = lives; requests = q; bytes = v }) b result n texts searches answers answers' st po first then) stands posted
