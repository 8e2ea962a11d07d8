-- `alloc` past its own refusals: the name is looked up, and what is found is taken into use.
use Rattle.std.proofs.Common.{◌≡◌, inl, inr, ℕ, ◌+◌, Bool, true, false, cond, List, [], ◌∷◌, ◌++◌, Option, Some, None, Result, Ok, Err, slice_get, refl, sym, ap, subst, ◌∙◌, arith}
use Rattle.std.specs.Prelude.{◌==◌, not, unwrap_or, IsSome, MatchResult, OnOk}
use Rattle.kc_base.specs.declared.error_numbers.Errno.{Errno}
use Rattle.kc_base.specs.declared.error_numbers.Errno.TheVariants.{EAGAIN, EINVAL}
use Rattle.alg_registry.specs.declared.spec.Spec.{Spec}
use Rattle.alg_registry.specs.declared.entry.RegEntry.{RegEntry}
use Rattle.alg_registry.specs.Rows.{registered}
use Rattle.board.specs.declared.entry.BoardEntry.{BoardEntry}
use Rattle.board.specs.declared.entry.Shape.{Shape}
use Rattle.reply_text.specs.declared.answers.Answer.{Answer}
use Rattle.reply_text.specs.declared.answers.Answer.TheVariants as said
use Rattle.templates.specs.declared.driver_plans.Plan.{Plan}
use Rattle.templates.specs.LookResults.{Found, Entry, Fault}
use Rattle.transforms.specs.declared.ask.Ask.{Ask}
use Rattle.turn_lock.specs.Turns.{Known}
use Rattle.dialogues.specs.Names.{plan_for}
use Rattle.dialogues.specs.RegistryCalls.{RegCall, Looks, Gets}
use Rattle.dialogues.specs.AllocAndFree.{binds, binds_plan, creates, is_chained, shape_for, new_pipe, new_live, and_live}
use Rattle.dialogues.specs.BoardCalls.{BoardCall, Creates}
use Rattle.dialogues.specs.Dialogues.{Dialogue, says, unless}
use Rattle.dialogues.specs.First.{BeginsBy}
use Rattle.dialogues.proofs.First.{begins-none, begins-posts}
use Rattle.dialogues.specs.Questions.{Look, Get, Create}
use Rattle.dialogues.specs.ScriptState.{ScriptState, Live, PipelineState}
use Rattle.recorded_calls.specs.RegistryCalls.{Asked, Asks, SeesMore, SeesLook, Finds}
use Rattle.recorded_calls.specs.Passes.{RegPass, BoardPass, known, lock_of}
use Rattle.recorded_calls.specs.Pipelines.{Called}
use Rattle.recorded_calls.proofs.Boarding.{starts-same, starts-trans}
use Rattle.script_session.specs.BrokenOff.{Breaks, CallsOn, StopsMaking}
use Rattle.script_session.specs.Creation.{Created, CreatedLive}
use Rattle.script_session.specs.Alloc.{looks, MakesLive, AddsLive}
use Rattle.script_session.specs.PerformedDialogue.{HasSeenMore, SeesOn, Done, Performs, Stops, StopsIn}
use Rattle.script_session.specs.States.{State, ReferencesMatch, PipelinesMatch, uses}
use Rattle.script_session.proofs.Arms.{viewed, sees-same, called-sees}
use Rattle.script_session.proofs.Creating.{created-posted}
use Rattle.script_session.proofs.Breaking.{breaks-asked-none, breaks-asks, breaks-board, breaks-further, breaks-look, breaks-of, calls-on-sees, stops-at, stops-held, unasked-arm}
use Rattle.script_session.proofs.Rules.{called-nothing, says-done, asks-done, posts-done, asked-more}
use Rattle.script_session.proofs.Standing.{stands-more}
use Rattle.script_session.proofs.Widths.{wide-created}

-- ---- a dialogue that takes an entry into use

uses-more : (id : ℕ) (lives : List Live) (live : Live) → uses id (lives ++ live ∷ []) ≡ uses id lives + cond (live.id == id) 1 0
uses-more id [] live = omega arith
uses-more id (x ∷ xs) live = let h = uses-more id xs live in omega (arith, h)

creates-done : (shape : Option Shape) (pipe : Option PipelineState) (rest : Option PipelineState → Dialogue) (k : Known RegEntry) (b b' : Known (BoardEntry Ask)) (after : ScriptState) (answers answers' : List Answer) → Created shape pipe b b'
    → Done (rest pipe) k b' k b' after answers answers' → Done (creates shape rest) k b k b' after answers answers'
creates-done None pipe rest k b b' after answers answers' created done =
    subst (λ p. Done (rest p) k b k b' after answers answers') created.0 (subst (λ x. Done (rest pipe) k x k b' after answers answers') created.1 done)
creates-done (Some shape) pipe rest k b b' after answers answers' created done =
    posts-done k k b b' b' (Create shape) created.0 (λ m. rest (Some (new_pipe m shape))) after answers answers' created.2.changed.called
    (subst (λ p. Done (rest p) k b' k b' after answers answers') created.1 done)

asked-none-done : (d : Dialogue) (k k1 k' : Known RegEntry) (b b' : Known (BoardEntry Ask)) (after : ScriptState) (answers answers' : List Answer) → Asked k k1 [] → Done d k1 b k' b' after answers answers'
    → Done d k b k' b' after answers answers'
asked-none-done d k k1 k' b b' after answers answers' first done =
    record {
      turn = done.turn;
      is = done.is;
      asked = asked-more k k1 k' [] done.turn.registry first done.asked;
      called = done.called;
      ends = done.ends;
      says = done.says;
      stands = done.stands;
      posted = done.posted;
    }

abbrev after-get : ℕ → ScriptState → ℕ → List ℕ → Option ℕ → ℕ → Spec → Plan → Bool → Dialogue
after-get workers script_state n label len id spec plan ok =
    unless script_state n ((not ok, EAGAIN) ∷ []) (creates (shape_for workers (is_chained spec.driver) spec.wrap len) (λ pipe. says (and_live script_state (new_live label id plan pipe)) (said.Made n spec.driver)))

-- a reference and a pipeline, where there is one
taken-done : (workers : ℕ) (script_state : ScriptState) (n : ℕ) (label : List ℕ) (len : Option ℕ) (id : ℕ) (spec : Spec) (plan : Plan) (pipe : Option PipelineState) (k k2 : Known RegEntry) (b b' : Known (BoardEntry Ask)) (answers answers' : List Answer)
    → Asked k k2 (Gets id true ∷ []) → Created (shape_for workers (is_chained spec.driver) spec.wrap len) pipe b b' → ReferencesMatch script_state.lives k → PipelinesMatch script_state b → answers' ≡ answers ++ said.Made n spec.driver ∷ []
    → Done (binds_plan workers script_state n label len id spec (Some plan)) k b k2 b' (and_live script_state (new_live label id plan pipe)) answers answers'
taken-done workers script_state n label len id spec plan pipe k k2 b b' answers answers' got created stands posted e =
    let live : Live = new_live label id plan pipe in
    let after : ScriptState = and_live script_state live in
    let stands' : ReferencesMatch after.lives k2 = stands-more script_state.lives after.lives k k2 (Gets id true ∷ []) stands got (λ other. let u = uses-more other script_state.lives live in omega (arith, u)) in
    let posted' : PipelinesMatch after b' = created-posted script_state label id plan (shape_for workers (is_chained spec.driver) spec.wrap len) pipe b b' posted created in
    let rest : Option PipelineState → Dialogue = λ p. says (and_live script_state (new_live label id plan p)) (said.Made n spec.driver) in
    asks-done k k2 k2 b b' (Get id) true (after-get workers script_state n label len id spec plan) after answers answers' got
    (creates-done (shape_for workers (is_chained spec.driver) spec.wrap len) pipe rest k2 b b' after answers answers' created
    (says-done k2 b' after (said.Made n spec.driver ∷ []) answers answers' stands' posted' e))

-- the entry was no more listed
lost-done : (workers : ℕ) (script_state : ScriptState) (n : ℕ) (label : List ℕ) (len : Option ℕ) (id : ℕ) (spec : Spec) (plan : Plan) (k k2 : Known RegEntry) (b : Known (BoardEntry Ask)) (answers answers' : List Answer)
    → Asked k k2 (Gets id false ∷ []) → ReferencesMatch script_state.lives k → PipelinesMatch script_state b → answers' ≡ answers ++ said.Refused n EAGAIN ∷ []
    → Done (binds_plan workers script_state n label len id spec (Some plan)) k b k2 b script_state answers answers'
lost-done workers script_state n label len id spec plan k k2 b answers answers' got stands posted e =
    let stands' : ReferencesMatch script_state.lives k2 = stands-more script_state.lives script_state.lives k k2 (Gets id false ∷ []) stands got (λ other. refl) in
    asks-done k k2 k2 b b (Get id) false (after-get workers script_state n label len id spec plan) script_state answers answers' got
    (says-done k2 b script_state (said.Refused n EAGAIN ∷ []) answers answers' stands' posted e)

-- ---- what is seen goes on

pub sees-asked : {r r' : Option RegPass} (calls : List RegCall) → Asks r r' calls → SeesMore r r'
sees-asked calls asks = record { lock = asks.lock; number = asks.asked.number; next = asks.asked.next; seen = (asks.asked.are.more, asks.asked.are.goes_on) }

pub has-seen-more : {r r' : Option RegPass} → SeesMore r r' → HasSeenMore (known r) (known r')
has-seen-more more = record { number = more.number; next = more.next; seen = more.seen }

pub seen-more-then : {E : Type 0} (k l m : Known E) → HasSeenMore k l → HasSeenMore l m → HasSeenMore k m
seen-more-then k l m a b = record { number = b.number ∙ a.number; next = b.next ∙ a.next; seen = starts-trans k.seen l.seen m.seen a.seen b.seen }

pub created-sees : (shape : Option Shape) (pipe : Option PipelineState) (k l : Known (BoardEntry Ask)) → Created shape pipe k l → SeesOn k l
created-sees None pipe k l created = subst (SeesOn k) (sym created.1) (sees-same k)
created-sees (Some shape) pipe k l created = called-sees k l _ created.2.changed.called created.2.changed.unshut

pub created-live-sees : (workers : ℕ) (label : List ℕ) (len : Option ℕ) (id : ℕ) (spec : Spec) (plan : Plan) (live : Live) (k l : Known (BoardEntry Ask)) → CreatedLive workers label len id spec plan live k l → SeesOn k l
created-live-sees workers label len id spec plan live k l created = created-sees (shape_for workers (is_chained spec.driver) spec.wrap len) created.0 k l created.2

-- a reference was taken, or not
pub asks-got : {r r' : Option RegPass} (id : ℕ) (ok t : Bool) → ok ≡ t → Asks r r' (Gets id ok ∷ []) → Asks r r' (Gets id t ∷ [])
asks-got {r} {r'} id ok t is asks = subst (λ x. Asks r r' (Gets id x ∷ [])) is asks

pub finds-as : (r r' : Option RegPass) (text : List ℕ) (a b : Result ℕ Errno) → a ≡ b → Finds r r' text a → Finds r r' text b
finds-as r r' text a b is found = subst (Finds r r' text) is found

-- ---- a transform was made and added

made-stops : (label : List ℕ) (len : Option ℕ) (id : ℕ) (spec : Spec) (plan : Plan) (s s' : State) → MakesLive label len id spec plan s s' → Stops s s'
made-stops label len id spec plan s s' made =
    record {
      locks = record { registry = ap (λ (x : State). lock_of x.registry) made.added; board = made.lock; workers = ap (λ (x : State). x.workers) made.added; shared = ap (λ (x : State). x.script_state.shared) made.added };
      registry = subst (λ (x : State). HasSeenMore (known s.registry) (known x.registry)) (sym made.added) (record { number = refl; next = refl; seen = starts-same (known s.registry).seen });
      board = created-live-sees s.workers label len id spec plan made.live (known s.board) (known s'.board) made.created;
    }

-- the making of the pipeline, if there is one, is the first call of a dialogue that makes it
created-called : (shape : Option Shape) (pipe : Option PipelineState) (k l : Known (BoardEntry Ask)) → Created shape pipe k l
    → (board : List BoardCall) × Called k l board × ((rest : Option PipelineState → Dialogue) → BeginsBy (creates shape rest) [] board)
created-called None pipe k l created = ([], subst (λ x. Called k x []) (sym created.1) (called-nothing k), λ rest. begins-none (rest None))
created-called (Some shape) pipe k l created = (
  Creates created.0 shape ∷ [],
  created.2.changed.called,
  λ rest. begins-posts (Create shape) created.0 (λ number. rest (Some (new_pipe number shape))) [] [] (begins-none (rest (Some (new_pipe created.0 shape)))),
)

made-making : (label : List ℕ) (len : Option ℕ) (id : ℕ) (spec : Spec) (plan : Plan) (s s' : State) → MakesLive label len id spec plan s s'
    → StopsMaking (shape_for s.workers (is_chained spec.driver) spec.wrap len) s s'
made-making label len id spec plan s s' made =
    let called = created-called (shape_for s.workers (is_chained spec.driver) spec.wrap len) made.created.0 (known s.board) (known s'.board) made.created.2 in
    record { stops = made-stops label len id spec plan s s' made; unasked = ap (λ (x : State). x.registry) made.added; board = called.0; called = called.1; begins = called.2 }

-- it is answered
pub made-said : {S A : Type 0} (n : ℕ) (label : List ℕ) (len : Option ℕ) (id : ℕ) (spec : Spec) (plan : Plan) (s s' : State) (answers answers' : List Answer) (result : Result A S)
    → MakesLive label len id spec plan s s' → OnOk result (answers' ≡ answers ++ said.Made n spec.driver ∷ [])
    → MatchResult result (λ _. AddsLive n label len id spec plan s s' answers answers') (λ _. StopsMaking (shape_for s.workers (is_chained spec.driver) spec.wrap len) s s')
made-said n label len id spec plan s s' answers answers' (Ok a) made e = record { made = made; says = e }
made-said n label len id spec plan s s' answers answers' (Err stop) made e = made-making label len id spec plan s s' made

-- ---- arms

-- an entry's dialogue was held, and this is the entry as it came to be
abbrev pub Bound : State → State → ℕ → List ℕ → Option ℕ → ℕ → List Answer → List Answer → Type 0
Bound s s' n label len id answers answers' =
    (spec : Spec) × (slice_get (registered (known s.registry).seen) id ≡ Some spec) × Performs (binds s.workers s.script_state n label len (Entry id spec)) s s' answers answers'

-- the same where memory was wanting
abbrev pub BoundStops : State → State → ℕ → List ℕ → Option ℕ → ℕ → Type 0
BoundStops s s' n label len id =
    (spec : Spec) × (slice_get (registered (known s.registry).seen) id ≡ Some spec) × StopsIn (binds s.workers s.script_state n label len (Entry id spec)) s s'

some-of : {A : Type 0} (o : Option A) → IsSome o → (a : A) × (o ≡ Some a)
some-of (Some a) is = (a, refl)
some-of None is = absurd (let e = is in cc)

some-same : {A : Type 0} (a b : A) (o : Option A) → o ≡ Some a → o ≡ Some b → a ≡ b
some-same a b o first second = ap (λ x. unwrap_or x a) (sym first ∙ second)

module _ {ws c : ℕ} {sh lives : List Live} {q v : ℕ} {r : Option RegPass} {b : Option BoardPass} (s : State) (view : viewed ws c sh lives q v r b ≡ s) where
  -- memory was wanting
  pub further : {r' : Option RegPass} {b' : Option BoardPass} (lives' : List Live) → SeesMore r r' → lock_of b' ≡ lock_of b → SeesOn (known b) (known b') → Stops s (viewed ws c sh lives' q v r' b')
  further {r'} {b'} lives' more lock on =
      record {
        locks = record { registry = more.lock ∙ ap (λ (x : State). lock_of x.registry) view; board = lock ∙ ap (λ (x : State). lock_of x.board) view; workers = ap (λ (x : State). x.workers) view; shared = ap (λ (x : State). x.script_state.shared) view };
        registry = subst (λ (x : State). HasSeenMore (known x.registry) (known r')) view (has-seen-more more);
        board = subst (λ (x : State). SeesOn (known x.board) (known b')) view on;
      }

  -- the same where the registry wasn't asked
  pub further-on : {b' : Option BoardPass} (lives' : List Live) → lock_of b' ≡ lock_of b → SeesOn (known b) (known b') → Stops s (viewed ws c sh lives' q v r b')
  further-on lives' lock on = further lives' (record { lock = refl; number = refl; next = refl; seen = starts-same (known r).seen }) lock on

  -- the same after the registry was asked
  pub further-still : {r' : Option RegPass} (s' : State) → SeesMore r r' → Stops (viewed ws c sh lives q v r' b) s' → Stops s s'
  further-still {r'} s' more stops =
      record {
        locks = record { registry = stops.locks.registry ∙ (more.lock ∙ ap (λ (x : State). lock_of x.registry) view); board = stops.locks.board ∙ ap (λ (x : State). lock_of x.board) view; workers = stops.locks.workers ∙ ap (λ (x : State). x.workers) view; shared = stops.locks.shared ∙ ap (λ (x : State). x.script_state.shared) view };
        registry = subst (λ (x : State). HasSeenMore (known x.registry) (known s'.registry)) view (seen-more-then (known r) (known r') (known s'.registry) (has-seen-more more) stops.registry);
        board = subst (λ (x : State). SeesOn (known x.board) (known s'.board)) view stops.board;
      }

  -- a pipeline was to be made, and wasn't
  pub making-none : {b' : Option BoardPass} (lives' : List Live) (shape : Option Shape) → lock_of b' ≡ lock_of b → CallsOn (known b) (known b') [] → StopsMaking shape s (viewed ws c sh lives' q v r b')
  making-none {b'} lives' shape lock on = record {
    stops = further-on lives' lock (calls-on-sees (known b) (known b') [] on);
    unasked = ap (λ (x : State). x.registry) view;
    board = [];
    called = subst (λ (x : State). Called (known x.board) (known b') []) view on.called;
    begins = λ rest. begins-none (creates shape rest);
  }

  -- or it was
  pub making-created : {b' : Option BoardPass} (lives' : List Live) (label : List ℕ) (len : Option ℕ) (id : ℕ) (spec : Spec) (plan : Plan) (live : Live) → lock_of b' ≡ lock_of b
      → CreatedLive ws label len id spec plan live (known b) (known b') → StopsMaking (shape_for s.workers (is_chained spec.driver) spec.wrap len) s (viewed ws c sh lives' q v r b')
  making-created {b'} lives' label len id spec plan live lock created =
      let called = created-called (shape_for ws (is_chained spec.driver) spec.wrap len) created.0 (known b) (known b') created.2 in
      record {
        stops = further-on lives' lock (created-live-sees ws label len id spec plan live (known b) (known b') created);
        unasked = ap (λ (x : State). x.registry) view;
        board = called.0;
        called = subst (λ (x : State). Called (known x.board) (known b') called.0) view called.1;
        begins = subst (λ (x : State). (rest : Option PipelineState → Dialogue) → BeginsBy (creates (shape_for x.workers (is_chained spec.driver) spec.wrap len) rest) [] called.0) view called.2;
      }

  -- a transform was made and added
  pub makes-arm : (b' : Option BoardPass) (items : List Live) (label : List ℕ) (len : Option ℕ) (id : ℕ) (spec : Spec) (plan : Plan) (live : Live)
      → lock_of b' ≡ lock_of b → CreatedLive ws label len id spec plan live (known b) (known b') → items ≡ lives ++ live ∷ [] → MakesLive label len id spec plan s (viewed ws c sh items q v r b')
  makes-arm b' items label len id spec plan live lock created more =
      subst (λ (x : State). MakesLive label len id spec plan x (viewed ws c sh items q v r b')) view
      (record { live = live; created = created; lock = lock; added = ap (λ ls. viewed ws c sh ls q v r b') more })

  taken-holds : {r2 : Option RegPass} {b' : Option BoardPass} {items : List Live} (n : ℕ) (label : List ℕ) (len : Option ℕ) (id : ℕ) (spec : Spec) (plan : Plan) (pipe : Option PipelineState) (answers answers' : List Answer)
      → Asks r r2 (Gets id true ∷ []) → lock_of b' ≡ lock_of b → Created (shape_for ws (is_chained spec.driver) spec.wrap len) pipe (known b) (known b')
      → items ≡ lives ++ new_live label id plan pipe ∷ [] → ReferencesMatch s.script_state.lives (known s.registry) → PipelinesMatch s.script_state (known s.board) → answers' ≡ answers ++ said.Made n spec.driver ∷ []
      → Performs (binds_plan s.workers s.script_state n label len id spec (Some plan)) s (viewed ws c sh items q v r2 b') answers answers'
  taken-holds {r2} {b'} {items} n label len id spec plan pipe answers answers' got lock created more stands posted e =
      let from : State = viewed ws c sh lives q v r b in
      let to : State = viewed ws c sh items q v r2 b' in
      let d : Dialogue = binds_plan ws from.script_state n label len id spec (Some plan) in
      subst (λ (x : State). ReferencesMatch x.script_state.lives (known x.registry) → PipelinesMatch x.script_state (known x.board) → Performs (binds_plan x.workers x.script_state n label len id spec (Some plan)) x to answers answers') view
      (λ stands0 posted0. record {
        locks = record { registry = got.lock; board = lock; workers = refl; shared = refl };
        wide = wide-created ws (is_chained spec.driver) spec.wrap len pipe (known b) (known b') created;
        done = subst (λ ls. Done d (known r) (known b) (known r2) (known b') (record { client = c; shared = sh; lives = ls; requests = q; bytes = v }) answers answers') (sym more)
            (taken-done ws from.script_state n label len id spec plan pipe (known r) (known r2) (known b) (known b') answers answers' got.asked created stands0 posted0 e);
      }) stands posted

  taken-stops : {r2 : Option RegPass} (s' : State) (n : ℕ) (label : List ℕ) (len : Option ℕ) (id : ℕ) (spec : Spec) (plan : Plan) → Asks r r2 (Gets id true ∷ [])
      → StopsMaking (shape_for ws (is_chained spec.driver) spec.wrap len) (viewed ws c sh lives q v r2 b) s' → StopsIn (binds_plan s.workers s.script_state n label len id spec (Some plan)) s s'
  taken-stops {r2} s' n label len id spec plan got making =
      let script_state : ScriptState = record { client = c; shared = sh; lives = lives; requests = q; bytes = v } in
      let next = after-get ws script_state n label len id spec plan in
      let rest : Option PipelineState → Dialogue = λ pipe. says (and_live script_state (new_live label id plan pipe)) (said.Made n spec.driver) in
      let then : Breaks (next true) (known r2) (known b) (known s'.registry) (known s'.board) =
      subst (λ x. Breaks (next true) (known r2) (known b) (known x) (known s'.board)) (sym making.unasked)
      (breaks-board (next true) (known r2) (known b) (known s'.board) making.board got.asked.caller.own making.called (making.begins rest)) in
      stops-at s view (λ x. binds_plan x.workers x.script_state n label len id spec (Some plan)) s' (further-still s' (sees-asked (Gets id true ∷ []) got) making.stops)
      (breaks-asks (known r) (known r2) (known s'.registry) (known b) (known s'.board) (Get id) true next got.asked then)

  -- the same where another call made the transform and added it
  pub taken-arm : {S A : Type 0} {r2 : Option RegPass} (s' : State) (n : ℕ) (label : List ℕ) (len : Option ℕ) (id : ℕ) (spec : Spec) (plan : Plan) (answers answers' : List Answer) (result : Result A S)
      → Asks r r2 (Gets id true ∷ []) → ReferencesMatch s.script_state.lives (known s.registry) → PipelinesMatch s.script_state (known s.board)
      → MatchResult result (λ _. AddsLive n label len id spec plan (viewed ws c sh lives q v r2 b) s' answers answers') (λ _. StopsMaking (shape_for ws (is_chained spec.driver) spec.wrap len) (viewed ws c sh lives q v r2 b) s')
      → MatchResult result (λ _. Performs (binds_plan s.workers s.script_state n label len id spec (Some plan)) s s' answers answers') (λ _. StopsIn (binds_plan s.workers s.script_state n label len id spec (Some plan)) s s')
  taken-arm {r2 = r2} s' n label len id spec plan answers answers' (Ok a) got stands posted adds =
      let made = adds.made in
      subst (λ x. Performs (binds_plan s.workers s.script_state n label len id spec (Some plan)) s x answers answers') (sym made.added)
      (taken-holds {r2 = r2} {b' = s'.board} n label len id spec plan made.created.0 answers answers' got made.lock made.created.2
      (ap (λ l. lives ++ l ∷ []) made.created.1) stands posted adds.says)
  taken-arm s' n label len id spec plan answers answers' (Err e) got stands posted making = taken-stops s' n label len id spec plan got making

  pub lost-arm : {r2 : Option RegPass} (n : ℕ) (label : List ℕ) (len : Option ℕ) (id : ℕ) (spec : Spec) (plan : Plan) (answers answers' : List Answer)
      → Asks r r2 (Gets id false ∷ []) → ReferencesMatch s.script_state.lives (known s.registry) → PipelinesMatch s.script_state (known s.board) → answers' ≡ answers ++ said.Refused n EAGAIN ∷ []
      → Performs (binds_plan s.workers s.script_state n label len id spec (Some plan)) s (viewed ws c sh lives q v r2 b) answers answers'
  lost-arm {r2} n label len id spec plan answers answers' got stands posted e =
      let from : State = viewed ws c sh lives q v r b in
      let to : State = viewed ws c sh lives q v r2 b in
      subst (λ (x : State). ReferencesMatch x.script_state.lives (known x.registry) → PipelinesMatch x.script_state (known x.board) → Performs (binds_plan x.workers x.script_state n label len id spec (Some plan)) x to answers answers') view
      (λ stands0 posted0. record {
        locks = record { registry = got.lock; board = refl; workers = refl; shared = refl };
        wide = λ wide. wide;
        done = lost-done ws from.script_state n label len id spec plan (known r) (known r2) (known b) answers answers' got.asked stands0 posted0 e;
      }) stands posted

  -- nothing was asked of the registry but the entry
  pub origin-stands : {r' : Option RegPass} → ReferencesMatch s.script_state.lives (known s.registry) → Asks r r' [] → ReferencesMatch lives (known r')
  origin-stands {r'} stands origin =
      let stands0 : ReferencesMatch lives (known r) = subst (λ (x : State). ReferencesMatch x.script_state.lives (known x.registry)) (sym view) stands in
      stands-more lives lives (known r) (known r') [] stands0 origin.asked (λ other. refl)

  -- what an entry's plan comes to
  pub bound-arm : {S A : Type 0} {r' : Option RegPass} (s' : State) (n : ℕ) (label : List ℕ) (len : Option ℕ) (id : ℕ) (spec : Spec) (plan : Plan) (answers answers' : List Answer) (result : Result A S)
      → Asks r r' [] → slice_get (registered (known r).seen) id ≡ Some spec → plan_for spec len ≡ Some plan
      → MatchResult result (λ _. Performs (binds_plan ws (record { client = c; shared = sh; lives = lives; requests = q; bytes = v }) n label len id spec (Some plan)) (viewed ws c sh lives q v r' b) s' answers answers')
      (λ _. StopsIn (binds_plan ws (record { client = c; shared = sh; lives = lives; requests = q; bytes = v }) n label len id spec (Some plan)) (viewed ws c sh lives q v r' b) s')
      → MatchResult result (λ _. Bound s s' n label len id answers answers') (λ _. BoundStops s s' n label len id)
  bound-arm {r' = r'} s' n label len id spec plan answers answers' (Ok a) origin there plans held =
      let from : State = viewed ws c sh lives q v r b in
      subst (λ (x : State). Bound x s' n label len id answers answers') view (
        spec,
        there,
        record {
          locks = record { registry = held.locks.registry ∙ origin.lock; board = held.locks.board; workers = held.locks.workers; shared = held.locks.shared };
          wide = held.wide;
          done = subst (λ p. Done (binds_plan ws from.script_state n label len id spec p) (known r) (known b) (known s'.registry) (known s'.board) s'.script_state answers answers') (sym plans)
              (asked-none-done (binds_plan ws from.script_state n label len id spec (Some plan)) (known r) (known r') (known s'.registry) (known b) (known s'.board) s'.script_state answers answers' origin.asked held.done);
        },
      )
  bound-arm {r' = r'} s' n label len id spec plan answers answers' (Err e) origin there plans stops =
      let from : State = viewed ws c sh lives q v r b in
      let middle : State = viewed ws c sh lives q v r' b in
      let d : Option Plan → Dialogue = λ p. binds_plan ws from.script_state n label len id spec p in (
        spec,
        subst (λ (x : State). slice_get (registered (known x.registry).seen) id ≡ Some spec) view there,
        stops-at s view (λ x. binds x.workers x.script_state n label len (Entry id spec)) s' (further-still s' (sees-asked [] origin) stops.stops)
            (subst (λ p. Breaks (d p) (known r) (known b) (known s'.registry) (known s'.board)) (sym plans)
            (breaks-asked-none (d (Some plan)) (known r) (known r') (known s'.registry) (known b) (known s'.board) origin.asked (breaks-of (d (Some plan)) middle s' stops))),
      )

  -- memory was wanting before
  pub unbound-arm : {r' : Option RegPass} (n : ℕ) (label : List ℕ) (len : Option ℕ) (id : ℕ) → Asks r r' [] → IsSome (slice_get (registered (known s.registry).seen) id) → BoundStops s (viewed ws c sh lives q v r' b) n label len id
  unbound-arm {r'} n label len id origin seen =
      let there = some-of (slice_get (registered (known s.registry).seen) id) seen in
      (there.0, there.1, unasked-arm s view (binds s.workers s.script_state n label len (Entry id there.0)) origin)

  pub unplanned-arm : {r' : Option RegPass} (n : ℕ) (label : List ℕ) (len : Option ℕ) (id : ℕ) (spec : Spec) (answers answers' : List Answer)
      → Asks r r' [] → slice_get (registered (known r).seen) id ≡ Some spec → plan_for spec len ≡ None
      → ReferencesMatch s.script_state.lives (known s.registry) → PipelinesMatch s.script_state (known s.board) → answers' ≡ answers ++ said.Refused n EINVAL ∷ []
      → Bound s (viewed ws c sh lives q v r' b) n label len id answers answers'
  unplanned-arm {r'} n label len id spec answers answers' origin there plans stands posted e =
      let from : State = viewed ws c sh lives q v r b in
      let to : State = viewed ws c sh lives q v r' b in
      let d : Dialogue = binds ws from.script_state n label len (Entry id spec) in
      subst (λ (x : State). ReferencesMatch x.script_state.lives (known x.registry) → PipelinesMatch x.script_state (known x.board) → Bound x to n label len id answers answers') view
      (λ stands0 posted0. (
        spec,
        there,
        record {
          locks = record { registry = origin.lock; board = refl; workers = refl; shared = refl };
          wide = λ wide. wide;
          done = asked-none-done d (known r) (known r') (known r') (known b) (known b) from.script_state answers answers' origin.asked
              (subst (λ p. Done (binds_plan ws from.script_state n label len id spec p) (known r') (known b) (known r') (known b) from.script_state answers answers') (sym plans)
              (says-done (known r') (known b) from.script_state (said.Refused n EINVAL ∷ []) answers answers' (stands-more lives lives (known r) (known r') [] stands0 origin.asked (λ other. refl)) posted0 e));
        },
      )) stands posted

  pub unplanned-or : {S A : Type 0} {r' : Option RegPass} (n : ℕ) (label : List ℕ) (len : Option ℕ) (id : ℕ) (spec : Spec) (answers answers' : List Answer) (result : Result A S)
      → Asks r r' [] → slice_get (registered (known r).seen) id ≡ Some spec → plan_for spec len ≡ None
      → ReferencesMatch s.script_state.lives (known s.registry) → PipelinesMatch s.script_state (known s.board) → OnOk result (answers' ≡ answers ++ said.Refused n EINVAL ∷ [])
      → MatchResult result (λ _. Bound s (viewed ws c sh lives q v r' b) n label len id answers answers') (λ _. BoundStops s (viewed ws c sh lives q v r' b) n label len id)
  unplanned-or n label len id spec answers answers' (Ok a) origin there plans stands posted e = unplanned-arm n label len id spec answers answers' origin there plans stands posted e
  unplanned-or {r' = r'} n label len id spec answers answers' (Err e) origin there plans stands posted says =
      let to : State = viewed ws c sh lives q v r' b in
      let all = answers ++ said.Refused n EINVAL ∷ [] in
      let bound = unplanned-arm n label len id spec answers all origin there plans stands posted refl in
      (bound.0, bound.1, stops-held (binds s.workers s.script_state n label len (Entry id bound.0)) s to answers all bound.2 posted)

  -- memory was wanting for the look
  pub look-stops : {r' : Option RegPass} (n : ℕ) (label text : List ℕ) (len : Option ℕ) → SeesLook r r' text → StopsIn (looks s.workers s.script_state n label text len) s (viewed ws c sh lives q v r' b)
  look-stops {r'} n label text len (inl calls) =
      let d : State → Dialogue = λ x. looks x.workers x.script_state n label text len in
      stops-at s view d (viewed ws c sh lives q v r' b) (further lives calls.more refl (sees-same (known b)))
      (breaks-further (d (viewed ws c sh lives q v r b)) (known r) (known r') (known b) calls.further calls.own)
  look-stops {r'} n label text len (inr looked) =
      let script_state : ScriptState = record { client = c; shared = sh; lives = lives; requests = q; bytes = v } in
      let calls = looked.1 in
      stops-at s view (λ x. looks x.workers x.script_state n label text len) (viewed ws c sh lives q v r' b) (further lives calls.more refl (sees-same (known b)))
      (breaks-look (known r) (known r') (known b) text looked.0 (λ found. binds ws script_state n label len found) calls.further calls.own)

  -- the look came to an entry
  pub look-stands : {r' : Option RegPass} (text : List ℕ) (id : ℕ) → ReferencesMatch s.script_state.lives (known s.registry) → Finds r r' text (Ok id) → ReferencesMatch lives (known r')
  look-stands {r'} text id stands found =
      let stands0 : ReferencesMatch lives (known r) = subst (λ (x : State). ReferencesMatch x.script_state.lives (known x.registry)) (sym view) stands in
      stands-more lives lives (known r) (known r') (Looks text (Some (Entry id found.0)) ∷ []) stands0 found.1.asked (λ other. refl)

  found-holds : {r' : Option RegPass} (s' : State) (n : ℕ) (label text : List ℕ) (len : Option ℕ) (id : ℕ) (answers answers' : List Answer) → Finds r r' text (Ok id)
      → Bound (viewed ws c sh lives q v r' b) s' n label len id answers answers' → Performs (looks s.workers s.script_state n label text len) s s' answers answers'
  found-holds {r'} s' n label text len id answers answers' found bound =
      let from : State = viewed ws c sh lives q v r b in
      let spec = found.0 in
      let same : bound.0 ≡ spec = some-same bound.0 spec (slice_get (registered (known r').seen) id) bound.1 found.2 in
      let held = bound.2 in
      subst (λ (x : State). Performs (looks x.workers x.script_state n label text len) x s' answers answers') view
      (record {
        locks = record { registry = held.locks.registry ∙ found.1.lock; board = held.locks.board; workers = held.locks.workers; shared = held.locks.shared };
        wide = held.wide;
        done = asks-done (known r) (known r') (known s'.registry) (known b) (known s'.board) (Look text) (Entry id spec) (λ f. binds ws from.script_state n label len f) s'.script_state answers answers' found.1.asked
            (subst (λ sp. Done (binds ws from.script_state n label len (Entry id sp)) (known r') (known b) (known s'.registry) (known s'.board) s'.script_state answers answers') same held.done);
      })

  found-stops : {r' : Option RegPass} (s' : State) (n : ℕ) (label text : List ℕ) (len : Option ℕ) (id : ℕ) → Finds r r' text (Ok id)
      → BoundStops (viewed ws c sh lives q v r' b) s' n label len id → StopsIn (looks s.workers s.script_state n label text len) s s'
  found-stops {r'} s' n label text len id found bound =
      let script_state : ScriptState = record { client = c; shared = sh; lives = lives; requests = q; bytes = v } in
      let middle : State = viewed ws c sh lives q v r' b in
      let spec = found.0 in
      let same : bound.0 ≡ spec = some-same bound.0 spec (slice_get (registered (known r').seen) id) bound.1 found.2 in
      let next : Found → Dialogue = λ f. binds ws script_state n label len f in
      let then : Breaks (next (Entry id spec)) (known r') (known b) (known s'.registry) (known s'.board) =
      subst (λ sp. Breaks (next (Entry id sp)) (known r') (known b) (known s'.registry) (known s'.board)) same (breaks-of (next (Entry id bound.0)) middle s' bound.2) in
      stops-at s view (λ x. looks x.workers x.script_state n label text len) s' (further-still s' (sees-asked (Looks text (Some (Entry id spec)) ∷ []) found.1) bound.2.stops)
      (breaks-asks (known r) (known r') (known s'.registry) (known b) (known s'.board) (Look text) (Entry id spec) next found.1.asked then)

  pub found-arm : {S A : Type 0} {r' : Option RegPass} (s' : State) (n : ℕ) (label text : List ℕ) (len : Option ℕ) (id : ℕ) (answers answers' : List Answer) (result : Result A S) → Finds r r' text (Ok id)
      → MatchResult result (λ _. Bound (viewed ws c sh lives q v r' b) s' n label len id answers answers') (λ _. BoundStops (viewed ws c sh lives q v r' b) s' n label len id)
      → MatchResult result (λ _. Performs (looks s.workers s.script_state n label text len) s s' answers answers') (λ _. StopsIn (looks s.workers s.script_state n label text len) s s')
  found-arm s' n label text len id answers answers' (Ok a) found bound = found-holds s' n label text len id answers answers' found bound
  found-arm s' n label text len id answers answers' (Err e) found bound = found-stops s' n label text len id found bound

  -- the look came to an error number
  pub fault-holds : {r' : Option RegPass} (n : ℕ) (label text : List ℕ) (len : Option ℕ) (errno : Errno) (answers answers' : List Answer) → Finds r r' text (Err errno)
      → ReferencesMatch s.script_state.lives (known s.registry) → PipelinesMatch s.script_state (known s.board) → answers' ≡ answers ++ said.Refused n errno ∷ [] → Performs (looks s.workers s.script_state n label text len) s (viewed ws c sh lives q v r' b) answers answers'
  fault-holds {r'} n label text len errno answers answers' found stands posted e =
      let from : State = viewed ws c sh lives q v r b in
      let to : State = viewed ws c sh lives q v r' b in
      subst (λ (x : State). ReferencesMatch x.script_state.lives (known x.registry) → PipelinesMatch x.script_state (known x.board) → Performs (looks x.workers x.script_state n label text len) x to answers answers') view
      (λ stands0 posted0. record {
        locks = record { registry = found.lock; board = refl; workers = refl; shared = refl };
        wide = λ wide. wide;
        done = asks-done (known r) (known r') (known r') (known b) (known b) (Look text) (Fault errno) (λ f. binds ws from.script_state n label len f) from.script_state answers answers' found.asked
            (says-done (known r') (known b) from.script_state (said.Refused n errno ∷ []) answers answers' (stands-more lives lives (known r) (known r') (Looks text (Some (Fault errno)) ∷ []) stands0 found.asked (λ other. refl)) posted0 e);
      }) stands posted
