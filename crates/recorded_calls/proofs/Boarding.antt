-- What a caller knows of its pipelines goes on, whatever others do.
use Rattle.std.proofs.Common.{◌≡◌, ℕ, ◌+◌, Bool, true, false, List, [], ◌∷◌, ◌++◌, length, map, Option, Some, None, refl, sym, ap, subst, ◌∙◌, append_assoc, append-nil}
use Rattle.std.specs.Prelude.{◌==◌, ◌||◌, if◌then◌else◌, filter, unwrap_or}
use Rattle.std.proofs.lemmas.Bool.{eq-eqb, and_parts}
use Rattle.std.proofs.lemmas.List.{map-append}
use Rattle.std.proofs.lemmas.List.Elements.{filter-append, filter_map-append}
use Rattle.std.proofs.lemmas.List.Folds.{list_any-append}
use Rattle.board.specs.declared.entry.BoardEntry.{BoardEntry}
use Rattle.board.specs.declared.entry.BoardEntry.TheVariants as event
use Rattle.board.specs.declared.entry.Shape.{Shape}
use Rattle.board.specs.Entries.{is_of, entries_of, accepted_in, birth_in, birth, first, submissions, held_in, masked_in, mask, is_close, is_closed, is_share, is_shared, delivered, caller_of, maker_is}
use Rattle.board.specs.Allowance.{accepted_by, accepted_from}
use Rattle.board.specs.PipelineHistory.{is_work}
use Rattle.board.specs.Legal.{IsOpenAs, MayManage, LegalBoard, is_shut, is_shut_entry}
use Rattle.board.specs.Order.{handed_out, completed}
use Rattle.board.specs.HandedOut.{is_collect, completions}
use Rattle.std.specs.List.{cons_option, filter_map, list_all}
use Rattle.transforms.specs.declared.ask.Ask.{Ask}
use Rattle.turn_lock.specs.Turns.{Known, StartsWith, sees, adds, of}
use Rattle.turn_lock.specs.PassLaws.{Meets, GoesOn, Enters, Leaves}
use Rattle.turn_lock.specs.TurnLaws.{goes_left}
use Rattle.dialogues.specs.RegistryCalls.{prepend}
use Rattle.dialogues.specs.BoardCalls.{BoardCall, origin_of, outcome, is_called, board_call_of, board_calls}
use Rattle.dialogues.specs.ScriptState.{PipelineState}
use Rattle.recorded_calls.specs.Pipelines.{Laws, IsPad, IsPipeIn, Called, made_so, Unchanged, Changed}

-- ---- calls

pub starts-same : {E : Type 0} (xs : List E) → StartsWith xs xs
starts-same xs = ([], sym (append-nil xs))

pub starts-trans : {E : Type 0} (a b c : List E) → StartsWith b a → StartsWith c b → StartsWith c a
starts-trans a b c f g = (f.0 ++ g.0, g.1 ∙ (ap (λ x. x ++ g.0) f.1 ∙ append_assoc a f.0 g.0))

pub called-more : (k l m : Known (BoardEntry Ask)) (a b : List BoardCall) → Called k l a → Called l m b → Called k m (a ++ b)
called-more k l m a b first later =
    record {
      number = later.number ∙ first.number;
      next = later.next ∙ first.next;
      seen = starts-trans k.seen l.seen m.seen first.seen later.seen;
      calls_are = later.calls_are ∙ (ap (λ cs. cs ++ b) first.calls_are ∙ append_assoc (board_calls k.number k.seen) a b);
    }

if_none : (b : Bool) (o : Option Ask) → o ≡ None → (if b then o else None) ≡ None
if_none true o e = e
if_none false o e = refl

none_from : (caller : ℕ) (e : BoardEntry Ask) → accepted_in e ≡ None → accepted_from caller e ≡ None
none_from caller e none = if_none (caller_of e == caller) (accepted_in e) none

-- ---- others go on, and the caller works

not-called : (n : ℕ) (e : BoardEntry Ask) → (caller_of e == n) ≡ false → is_called n e ≡ false
not-called n (event.Born by pipe shape) e = e
not-called n (event.Submit by pipe number ask) e = e
not-called n (event.Enq by pipe ask backlog answer) e = e
not-called n (event.Hold by pipe) e = e
not-called n (event.Go by pipe) e = e
not-called n (event.Collect by pipe to) e = e
not-called n (event.Close by pipe) e = e
not-called n (event.Share by pipe) e = e
not-called n (event.Mask by pipe mask) e = e
not-called n (event.Shut by) e = e
not-called n (event.Take by pipe number) e = refl
not-called n (event.Finish by pipe number) e = refl
not-called n (event.Deq by pipe number started) e = refl
not-called n (event.Done by pipe number) e = refl

work-called : (n : ℕ) (e : BoardEntry Ask) → is_work e ≡ true → is_called n e ≡ false
work-called n (event.Take by pipe number) w = refl
work-called n (event.Finish by pipe number) w = refl
work-called n (event.Deq by pipe number started) w = refl
work-called n (event.Done by pipe number) w = refl
work-called n (event.Born by pipe shape) w = absurd cc
work-called n (event.Submit by pipe number ask) w = absurd cc
work-called n (event.Enq by pipe ask backlog answer) w = absurd cc
work-called n (event.Hold by pipe) w = absurd cc
work-called n (event.Go by pipe) w = absurd cc
work-called n (event.Collect by pipe to) w = absurd cc
work-called n (event.Close by pipe) w = absurd cc
work-called n (event.Share by pipe) w = absurd cc
work-called n (event.Mask by pipe mask) w = absurd cc
work-called n (event.Shut by) w = absurd cc

-- where a caller's own entries are work, it called nothing
pub work-uncalled : (n : ℕ) (xs : List (BoardEntry Ask)) → list_all (λ e. is_work e) (of caller_of n xs) ≡ true → filter (is_called n) xs ≡ []
work-uncalled n [] all = refl
work-uncalled n (x ∷ xs) all = by_test (caller_of x == n) refl all (work-uncalled n xs)
  where
    by_test : (t : Bool) → (caller_of x == n) ≡ t → list_all (λ e. is_work e) (if t then x ∷ of caller_of n xs else of caller_of n xs) ≡ true
        → (list_all (λ e. is_work e) (of caller_of n xs) ≡ true → filter (is_called n) xs ≡ []) → filter (is_called n) (x ∷ xs) ≡ []
    by_test true t q rest =
        let both = and_parts (is_work x) (list_all (λ e. is_work e) (of caller_of n xs)) q in
        ap (λ b. if b then x ∷ filter (is_called n) xs else filter (is_called n) xs) (work-called n x both.0) ∙ rest both.1
    by_test false t q rest = ap (λ b. if b then x ∷ filter (is_called n) xs else filter (is_called n) xs) (not-called n x t) ∙ rest q

-- ---- the pipelines of its own

-- this caller made the pipeline with these entries, and hasn't closed it
abbrev pub OwnsIn : ℕ → List (BoardEntry Ask) → Type 0
OwnsIn n es = MayManage es n × (is_closed es ≡ false)

-- an entry that makes a pipeline is no work
born-of : (e : BoardEntry Ask) (born : ℕ × Shape) → birth_in e ≡ Some born → (is_work e ≡ false) × (caller_of e ≡ born.0)
born-of (event.Born by pipe shape) born is = (refl, ap (λ o. (unwrap_or {T = ℕ × Shape} o (by, shape)).0) is)
born-of (event.Submit by pipe number ask) born is = absurd cc
born-of (event.Take by pipe number) born is = absurd cc
born-of (event.Finish by pipe number) born is = absurd cc
born-of (event.Enq by pipe ask backlog answer) born is = absurd cc
born-of (event.Deq by pipe number started) born is = absurd cc
born-of (event.Done by pipe number) born is = absurd cc
born-of (event.Hold by pipe) born is = absurd cc
born-of (event.Go by pipe) born is = absurd cc
born-of (event.Collect by pipe to) born is = absurd cc
born-of (event.Close by pipe) born is = absurd cc
born-of (event.Share by pipe) born is = absurd cc
born-of (event.Mask by pipe mask) born is = absurd cc
born-of (event.Shut by) born is = absurd cc

-- where a caller's own entries are work, it made no pipeline
no-birth : (n p : ℕ) (es : List (BoardEntry Ask)) → list_all (λ e. is_work e) (of caller_of n es) ≡ true → maker_is (birth (entries_of p es)) n → ⊥
no-birth n p [] works maker = absurd maker
no-birth n p (e ∷ es) works maker = by_of (is_of p e) maker (no-birth n p es (later_works (caller_of e == n) works))
  where
    later_works : (t : Bool) → list_all (λ e. is_work e) (if t then e ∷ of caller_of n es else of caller_of n es) ≡ true → list_all (λ e. is_work e) (of caller_of n es) ≡ true
    later_works true w = (and_parts (is_work e) (list_all (λ e. is_work e) (of caller_of n es)) w).1
    later_works false w = w

    own-works : (t : Bool) → t ≡ true → list_all (λ e. is_work e) (if t then e ∷ of caller_of n es else of caller_of n es) ≡ true → is_work e ≡ true
    own-works true t w = (and_parts (is_work e) (list_all (λ e. is_work e) (of caller_of n es)) w).0
    own-works false t w = absurd cc

    by_birth : (b : Option (ℕ × Shape)) → birth_in e ≡ b → maker_is (first (cons_option b (filter_map birth_in (entries_of p es)))) n → (maker_is (birth (entries_of p es)) n → ⊥) → ⊥
    by_birth None is m later = later m
    by_birth (Some born) is m later =
        let from = born-of e born is in
        let mine : (caller_of e == n) ≡ true = eq-eqb (caller_of e) n (from.1 ∙ m) in
        let bad : true ≡ false = sym (own-works (caller_of e == n) mine works) ∙ from.0 in
        cc

    by_of : (t : Bool) → maker_is (first (filter_map birth_in (if t then e ∷ entries_of p es else entries_of p es))) n → (maker_is (birth (entries_of p es)) n → ⊥) → ⊥
    by_of true m later = by_birth (birth_in e) refl m later
    by_of false m later = later m

-- a pipeline that it owns after such entries it owned before
owned-before : (n p : ℕ) (h es : List (BoardEntry Ask)) → list_all (λ e. is_work e) (of caller_of n es) ≡ true → OwnsIn n (entries_of p (h ++ es)) → OwnsIn n (entries_of p h)
owned-before n p h es works owns =
    let parts = filter-append (is_of p) h es in
    let made : maker_is (first (filter_map birth_in (entries_of p h ++ entries_of p es))) n = subst (λ xs. maker_is (birth xs) n) parts owns.0.1 in
    let shut : (is_closed (entries_of p h) || is_closed (entries_of p es)) ≡ false = sym (list_any-append is_close (entries_of p h) (entries_of p es)) ∙ (sym (ap is_closed parts) ∙ owns.1) in
    ((owns.0.0, by_first (filter_map birth_in (entries_of p h)) (subst (λ xs. maker_is (first xs) n) (filter_map-append birth_in (entries_of p h) (entries_of p es)) made)), or-left (is_closed (entries_of p h)) (is_closed (entries_of p es)) shut)
  where
    by_first : (born : List (ℕ × Shape)) → maker_is (first (born ++ filter_map birth_in (entries_of p es))) n → maker_is (first born) n
    by_first [] m = absurd (no-birth n p es works m)
    by_first (x ∷ born) m = m

    or-left : (a b : Bool) → (a || b) ≡ false → a ≡ false
    or-left false b e = refl
    or-left true b e = e

-- a pass that went on by entries of others and by its own work keeps what it knows
pub goes-kept : Laws → (k l : Known (BoardEntry Ask)) (own : List (BoardEntry Ask)) → GoesOn caller_of LegalBoard k l own → list_all (λ e. is_work e) own ≡ true → LegalBoard l.seen → Unchanged k l
goes-kept laws k l own goes works legal =
    let between = goes.between in
    let all : List (BoardEntry Ask) = k.seen ++ between in
    let mine : list_all (λ e. is_work e) (of caller_of k.number between) ≡ true = ap (list_all (λ e. is_work e)) goes.mine ∙ works in
    let come : LegalBoard all × (list_all (λ e. is_work e) (of caller_of k.number between) ≡ true) = (subst LegalBoard goes.seen legal, mine) in
    let owned = laws.own k.seen between k.number come in
    record {
      called = record {
        number = goes.number;
        next = goes.next;
        seen = (between, goes.seen);
        calls_are =
            (λ i. board_calls (goes.number i) (goes.seen i))
            ∙ (laws.calls k.number k.seen between ∙ ap (λ cs. board_calls k.number k.seen ++ cs) (laws.uncalled k.number k.seen between (work-uncalled k.number between mine)));
      };
      legal = legal;
      pipes = λ pipe on.
          let known = laws.mine k.seen between pipe.number k.number come on.managed in
          let now : IsPipeIn k.number (entries_of pipe.number all) pipe = record {
            opened = known.opened (made_so pipe.bound) on.opened;
            managed = known.managed;
            unshared = known.shared ∙ on.unshared;
            masked = λ pad. ap (λ m. m == 0) known.masked ∙ on.masked pad;
            held = known.held ∙ on.held;
            queue = on.queue;
            lines = ap (map origin_of) (known.accepted on.unshared) ∙ on.lines;
            delivered = ap (λ x. length (completed x)) known.handed ∙ on.delivered;
          } in
          subst (λ n. IsPipeIn n (entries_of pipe.number l.seen) pipe) (sym goes.number) (subst (λ g. IsPipeIn k.number (entries_of pipe.number g) pipe) (sym goes.seen) now);
      owned = λ p owns. owned-before k.number p k.seen between mine (subst (λ g. OwnsIn k.number (entries_of p g)) goes.seen (subst (λ n. OwnsIn n (entries_of p l.seen)) goes.number owns));
      accepted = (λ i. accepted_by (goes.number i) (goes.seen i)) ∙ owned.0;
      unshut = λ zero_is. ap is_shut goes.seen ∙ owned.1 zero_is;
    }

abbrev pub Met : Known (BoardEntry Ask) → List (BoardEntry Ask) → Type 0
Met k h = Meets caller_of LegalBoard k h

pub leaves-kept : Laws → (k l : Known (BoardEntry Ask)) (h : List (BoardEntry Ask)) → Met k h → Leaves k h l → Unchanged k l
leaves-kept laws k l h met leaves =
    goes-kept laws k l [] (goes_left caller_of LegalBoard k l (h, met, leaves)) refl (subst LegalBoard (sym (ap (λ (x : Known (BoardEntry Ask)). x.seen) leaves)) met.kept)

pub meets-kept : Laws → (k : Known (BoardEntry Ask)) (h : List (BoardEntry Ask)) → Met k h → Unchanged k (sees k h)
meets-kept laws k h met = leaves-kept laws k (sees k h) h met refl

pub kept-same : (k : Known (BoardEntry Ask)) → LegalBoard k.seen → Unchanged k k
kept-same k legal =
    record {
      called = record { number = refl; next = refl; seen = starts-same k.seen; calls_are = sym (append-nil (board_calls k.number k.seen)) };
      legal = legal;
      pipes = λ pipe on. on;
      owned = λ p owns. owns;
      accepted = refl;
      unshut = λ zero_is. refl;
    }

pub kept-more : (k l m : Known (BoardEntry Ask)) → Unchanged k l → Unchanged l m → Unchanged k m
kept-more k l m first later =
    record {
      called = called-more k l m [] [] first.called later.called;
      legal = later.legal;
      pipes = λ pipe on. later.pipes pipe (first.pipes pipe on);
      owned = λ p owns. first.owned p (later.owned p owns);
      accepted = later.accepted ∙ first.accepted;
      unshut = λ zero_is. later.unshut (first.called.number ∙ zero_is) ∙ first.unshut zero_is;
    }

pub changed-later : (k l m : Known (BoardEntry Ask)) (pipe pipe' : PipelineState) (calls : List BoardCall) (asks : List Ask) → Unchanged k l → Changed l m pipe pipe' calls asks → Changed k m pipe pipe' calls asks
changed-later k l m pipe pipe' calls asks first later =
    record {
      called = called-more k l m [] calls first.called later.called;
      legal = later.legal;
      same = later.same;
      now = later.now;
      others = λ other apart on. later.others other apart (first.pipes other on);
      owned = λ p apart owns. first.owned p (later.owned p apart owns);
      accepted = later.accepted ∙ ap (λ a. a ++ asks) first.accepted;
      unshut = λ zero_is. later.unshut (first.called.number ∙ zero_is) ∙ first.unshut zero_is;
    }

-- ---- an entry of one's own

pub calls-one : Laws → (n : ℕ) (h : List (BoardEntry Ask)) (e : BoardEntry Ask) (call : BoardCall) → board_call_of n h e ≡ Some call → board_calls n (h ++ e ∷ []) ≡ board_calls n h ++ call ∷ []
calls-one laws n h e call is = laws.calls n h (e ∷ []) ∙ ap (λ c. board_calls n h ++ prepend c []) is

pub accepted-none : (n : ℕ) (h : List (BoardEntry Ask)) (e : BoardEntry Ask) → accepted_in e ≡ None → accepted_by n (h ++ e ∷ []) ≡ accepted_by n h ++ []
accepted-none n h e none = filter_map-append (accepted_from n) h (e ∷ []) ∙ ap (λ o. accepted_by n h ++ cons_option o []) (none_from n e none)

pub accepted-more : (n : ℕ) (h : List (BoardEntry Ask)) (e : BoardEntry Ask) (ask : Ask) → accepted_from n e ≡ Some ask → accepted_by n (h ++ e ∷ []) ≡ accepted_by n h ++ ask ∷ []
accepted-more n h e ask some = filter_map-append (accepted_from n) h (e ∷ []) ∙ ap (λ o. accepted_by n h ++ cons_option o []) some

-- an entry that shares nothing
pub shared-more : Laws → (h : List (BoardEntry Ask)) (e : BoardEntry Ask) (p : ℕ) → is_share e ≡ false → is_shared (entries_of p (h ++ e ∷ [])) ≡ is_shared (entries_of p h)
shared-more laws h e p s = by_of (is_of p e) refl
  where
    by_of : (b : Bool) → is_of p e ≡ b → is_shared (entries_of p (h ++ e ∷ [])) ≡ is_shared (entries_of p h)
    by_of true q = ap is_shared (laws.steps.joins h e p q) ∙ laws.steps.shared (entries_of p h) e s
    by_of false q = ap is_shared (laws.steps.leaves h e p q)

-- one that accepts nothing
pub asks-same : Laws → (h : List (BoardEntry Ask)) (e : BoardEntry Ask) (p : ℕ) → accepted_in e ≡ None → submissions (entries_of p (h ++ e ∷ [])) ≡ submissions (entries_of p h)
asks-same laws h e p none = by_of (is_of p e) refl
  where
    by_of : (b : Bool) → is_of p e ≡ b → submissions (entries_of p (h ++ e ∷ [])) ≡ submissions (entries_of p h)
    by_of true q = ap submissions (laws.steps.joins h e p q) ∙ laws.steps.accepted (entries_of p h) e none
    by_of false q = ap submissions (laws.steps.leaves h e p q)

-- an entry that closes nothing and shares nothing
pub record IsPlain (e : BoardEntry Ask) : Type 0 where
  pub closes : is_close e ≡ false
  pub shares : is_share e ≡ false

-- and makes nothing and masks nothing
pub record IsMaskless (e : BoardEntry Ask) : Type 0 where
  pub born : birth_in e ≡ None
  pub masks : masked_in e ≡ None

module _ (laws : Laws) (n : ℕ) (h : List (BoardEntry Ask)) (e : BoardEntry Ask) (pipe : PipelineState) (plain : IsPlain e) (on : IsPipeIn n (entries_of pipe.number h) pipe) where
  abbrev p : ℕ
  p = pipe.number

  abbrev later : List (BoardEntry Ask)
  later = entries_of p (h ++ e ∷ [])

  pub opened-more : IsOpenAs (made_so pipe.bound) later
  opened-more = laws.steps.opened (made_so pipe.bound) h e p on.opened plain.closes

  pub managed-more : MayManage later n
  managed-more = laws.steps.managed h e p n on.managed

  pub unshared-more : is_shared later ≡ false
  unshared-more = shared-more laws h e p plain.shares ∙ on.unshared

  pub masked-more : IsMaskless e → IsPad pipe.bound → (mask later == 0) ≡ pipe.mask_is_empty
  masked-more maskless pad = ap (λ m. m == 0) (laws.steps.masked h e p maskless.born maskless.masks) ∙ on.masked pad

  pub delivered-more : is_collect e ≡ false → length (completed (handed_out later)) ≡ pipe.delivered
  delivered-more hands = ap (λ ns. length (completed ns)) (laws.steps.nothing h e p hands) ∙ on.delivered

  pub lines-more : accepted_in e ≡ None → map origin_of (submissions later) ≡ pipe.lines
  lines-more none = ap (map origin_of) (asks-same laws h e p none) ∙ on.lines

  -- it accepts nothing, hands nothing out, and holds nothing
  pub pipe-stays : IsMaskless e → accepted_in e ≡ None → is_collect e ≡ false → held_in e ≡ None → IsPipeIn n later pipe
  pipe-stays maskless none hands holds =
      record {
        opened = opened-more;
        managed = managed-more;
        unshared = unshared-more;
        masked = masked-more maskless;
        held = laws.steps.held h e p holds ∙ on.held;
        queue = on.queue;
        lines = lines-more none;
        delivered = delivered-more hands;
      }

  -- it accepts a request
  pub pipe-accepts : IsMaskless e → (ask : Ask) → is_of p e ≡ true → accepted_in e ≡ Some ask → is_collect e ≡ false → held_in e ≡ None → IsPipeIn n later (record pipe { lines = pipe.lines ++ origin_of ask ∷ [] })
  pipe-accepts maskless ask of some hands holds =
      record {
        opened = opened-more;
        managed = managed-more;
        unshared = unshared-more;
        masked = masked-more maskless;
        held = laws.steps.held h e p holds ∙ on.held;
        queue = on.queue;
        lines =
            ap (λ es. map origin_of (submissions es)) (laws.steps.joins h e p of)
            ∙ (ap (map origin_of) (filter_map-append accepted_in (entries_of p h) (e ∷ []) ∙ ap (λ o. submissions (entries_of p h) ++ cons_option o []) some)
            ∙ (map-append origin_of (submissions (entries_of p h)) (ask ∷ []) ∙ ap (λ ls. ls ++ origin_of ask ∷ []) on.lines));
        delivered = delivered-more hands;
      }

-- it hands out what was told
pub pipe-collected : Laws → (n : ℕ) (h : List (BoardEntry Ask)) (pipe : PipelineState) (to : ℕ) → LegalBoard (h ++ event.Collect n pipe.number to ∷ []) → IsPipeIn n (entries_of pipe.number h) pipe
    → IsPipeIn n (entries_of pipe.number (h ++ event.Collect n pipe.number to ∷ [])) (record pipe { delivered = pipe.delivered + completions (delivered outcome (entries_of pipe.number h) to) })
pipe-collected laws n h pipe to legal on =
    let p : ℕ = pipe.number in
    let e : BoardEntry Ask = event.Collect n p to in
    let plain : IsPlain e = record { closes = refl; shares = refl } in
    record {
      opened = opened-more laws n h e pipe plain on;
      managed = managed-more laws n h e pipe plain on;
      unshared = unshared-more laws n h e pipe plain on;
      masked = masked-more laws n h e pipe plain on (record { born = refl; masks = refl });
      held = laws.steps.held h e p refl ∙ on.held;
      queue = on.queue;
      lines = lines-more laws n h e pipe plain on refl;
      delivered = laws.steps.handed h n p to legal ∙ ap (λ c. c + completions (delivered outcome (entries_of p h) to)) on.delivered;
    }

entry-knows : (k l : Known (BoardEntry Ask)) (h : List (BoardEntry Ask)) (e : BoardEntry Ask) → Enters LegalBoard k h e l → (P : Known (BoardEntry Ask) → Type 0) → P (adds (sees k h) e) → P l
entry-knows k l h e enters P p = subst P (sym enters.0) p

-- an entry of one pipeline leaves each other
pub apart-same : Laws → (h : List (BoardEntry Ask)) (e : BoardEntry Ask) (p q : ℕ) → is_of p e ≡ true → (q == p) ≡ false → entries_of q (h ++ e ∷ []) ≡ entries_of q h
apart-same laws h e p q of apart = laws.steps.leaves h e q (laws.steps.one e p q of (λ same. let yes : (q == p) ≡ true = eq-eqb q p same in let bad : true ≡ false = sym yes ∙ apart in cc))

-- the caller made a call on one of its pipelines
pub entry-changed : Laws → (k l : Known (BoardEntry Ask)) (h : List (BoardEntry Ask)) (e : BoardEntry Ask) (pipe pipe' : PipelineState) (call : BoardCall) (asks : List Ask) → Enters LegalBoard k h e l → is_of pipe.number e ≡ true → is_shut_entry e ≡ false
    → board_call_of k.number h e ≡ Some call → accepted_by k.number (h ++ e ∷ []) ≡ accepted_by k.number h ++ asks → pipe'.number ≡ pipe.number → IsPipeIn k.number (entries_of pipe'.number (h ++ e ∷ [])) pipe'
    → Changed (sees k h) l pipe pipe' (call ∷ []) asks
entry-changed laws k l h e pipe pipe' call asks enters of not_shut called accepts same now =
    entry-knows k l h e enters (λ x. Changed (sees k h) x pipe pipe' (call ∷ []) asks) (record {
      called = record { number = refl; next = refl; seen = (e ∷ [], refl); calls_are = calls-one laws k.number h e call called };
      legal = enters.1;
      same = same;
      now = now;
      others = λ other apart on. subst (λ es. IsPipeIn k.number es other) (sym (apart-same laws h e pipe.number other.number of apart)) on;
      owned = λ p apart owns. subst (λ es. OwnsIn k.number es) (apart-same laws h e pipe.number p of apart) owns;
      accepted = accepts;
      unshut = λ zero_is. laws.steps.shut h e not_shut;
    })
