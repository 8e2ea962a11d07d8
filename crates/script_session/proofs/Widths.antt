-- How many lists the pads of a session have.
use Rattle.std.proofs.Common.{◌≡◌, ℕ, ◌<◌, Bool, true, false, List, [], ◌∷◌, ◌++◌, Option, Some, None, refl, sym, ap, subst, ◌∙◌}
use Rattle.std.specs.Prelude.{◌==◌, ◌^◌, unwrap_or}
use Rattle.std.specs.List.{filter_map}
use Rattle.std.proofs.lemmas.Bool.{eqb-true}
use Rattle.std.proofs.lemmas.List.Elements.{filter-append, filter_map-append}
use Rattle.std.proofs.lemmas.Nat.{mod_below, pow_pos}
use Rattle.alg_registry.specs.declared.spec.Wrap.{Wrap}
use Rattle.alg_registry.specs.declared.spec.Wrap.TheVariants.{Plain, Pcrypt, Cryptd}
use Rattle.board.specs.declared.entry.BoardEntry.{BoardEntry}
use Rattle.board.specs.declared.entry.Shape.{Shape}
use Rattle.board.specs.declared.entry.Shape.TheVariants.{Pad, Queue, Chain}
use Rattle.board.specs.Entries.{is_of, entries_of, birth_in, birth, first, maker_is, IsMaker}
use Rattle.board.specs.Legal.{Is}
use Rattle.board.specs.Shapes.{is_pad, is_born, lists_of, width_born}
use Rattle.transforms.specs.declared.ask.Ask.{Ask}
use Rattle.turn_lock.specs.Turns.{Known, StartsWith}
use Rattle.dialogues.specs.AllocAndFree.{lists_beside, shape_for}
use Rattle.dialogues.specs.BoardCalls.{BoardCall}
use Rattle.dialogues.specs.PipelineCommands.{kept_bits}
use Rattle.dialogues.specs.ScriptState.{Live, PipelineState}
use Rattle.recorded_calls.specs.Passes.{known}
use Rattle.recorded_calls.specs.Pipelines.{IsPad, KnowsPipe, Opened, Owns}
use Rattle.recorded_calls.specs.SharedCalls.{Gave}
use Rattle.recorded_calls.proofs.BoardCalls.{open-pad}
use Rattle.script_session.specs.TransformChanges.{Changes, Released}
use Rattle.script_session.specs.Creation.{Created}
use Rattle.script_session.specs.States.{State, HasPipe, MadeWide, PadsHaveAListPerWorker, is_at}

-- ---- a pipeline's birth stays

birth-stays : (es more : List (BoardEntry Ask)) (n : ℕ) → IsMaker es n → birth (es ++ more) ≡ birth es
birth-stays es more n maker = ap first (filter_map-append birth_in es more) ∙ by_first (filter_map birth_in es) maker
  where
    by_first : (born : List (ℕ × Shape)) → maker_is (first born) n → first (born ++ filter_map birth_in more) ≡ first born
    by_first [] m = absurd m
    by_first (x ∷ born) m = refl

birth-later : (k l : Known (BoardEntry Ask)) (p : ℕ) → StartsWith l.seen k.seen → Owns k p → birth (entries_of p l.seen) ≡ birth (entries_of p k.seen)
birth-later k l p starts owns =
    ap (λ h. birth (entries_of p h)) starts.1
    ∙ (ap birth (filter-append (is_of p) k.seen starts.0) ∙ birth-stays (entries_of p k.seen) (entries_of p starts.0) k.number owns.0.1)

-- so a pad has as many lists as before
wide-at : (lists : ℕ) (k l : Known (BoardEntry Ask)) (p : ℕ) → StartsWith l.seen k.seen → Owns k p → MadeWide lists k → Is is_pad (entries_of p l.seen) → width_born (birth (entries_of p l.seen)) ≡ lists
wide-at lists k l p starts owns wide pad =
    let same = birth-later k l p starts owns in
    ap width_born same ∙ wide p owns (ap (is_born is_pad) (sym same) ∙ pad)

-- ---- whatever a line does

pub wide-changes : (lists : ℕ) (live live' : Live) (k l : Known (BoardEntry Ask)) (calls : List BoardCall) (asks : List Ask) → HasPipe k live.pipe → Changes live live' k l calls asks → MadeWide lists k → MadeWide lists l
wide-changes lists live live' k l calls asks on changes wide p owns pad = wide-at lists k l p changes.called.seen (by_place (is_at p live.pipe) refl) wide pad
  where
    own-pipe : (pipe : Option PipelineState) → HasPipe k pipe → is_at p pipe ≡ true → Owns k p
    own-pipe None here at = absurd cc
    own-pipe (Some pipe) here at = subst (λ n. Owns k n) (eqb-true pipe.number p at) (here.managed, here.opened.1)

    by_place : (t : Bool) → is_at p live.pipe ≡ t → Owns k p
    by_place true at = own-pipe live.pipe on at
    by_place false at = changes.owned p at owns

pub wide-released : (lists : ℕ) (live : Live) (k l : Known (BoardEntry Ask)) → Released live k l → MadeWide lists k → MadeWide lists l
wide-released lists live k l released wide p owns pad = wide-at lists k l p released.called.seen (released.owned p owns).0 wide pad

pub wide-gave : (lists : ℕ) (k l : Known (BoardEntry Ask)) (calls : List BoardCall) (asks : List Ask) → Gave k l calls asks → MadeWide lists k → MadeWide lists l
wide-gave lists k l calls asks gave wide p owns pad = wide-at lists k l p gave.called.seen (gave.owned p owns) wide pad

wide-opened : (lists : ℕ) (k l : Known (BoardEntry Ask)) (number : ℕ) (shape : Shape) → (is_pad shape ≡ true → lists_of shape ≡ lists) → Opened k l number shape → MadeWide lists k → MadeWide lists l
wide-opened lists k l number shape fits opened wide p owns pad = by_number (p == number) refl
  where
    by_number : (t : Bool) → (p == number) ≡ t → width_born (birth (entries_of p l.seen)) ≡ lists
    by_number true same =
        let born : birth (entries_of p l.seen) ≡ Some (l.number, shape) = ap (λ n. birth (entries_of n l.seen)) (eqb-true p number same) ∙ opened.born in
        ap width_born born ∙ fits (sym (ap (is_born is_pad) born) ∙ pad)
    by_number false apart = wide-at lists k l p opened.changed.called.seen (opened.changed.owned p apart owns) wide pad

pub wide-created : (workers : ℕ) (chained : Bool) (wrap : Wrap) (len : Option ℕ) (pipe : Option PipelineState) (k l : Known (BoardEntry Ask)) → Created (shape_for workers chained wrap len) pipe k l → MadeWide (lists_beside workers) k → MadeWide (lists_beside workers) l
wide-created workers chained Plain len pipe k l created wide = subst (MadeWide (lists_beside workers)) (sym created.1) wide
wide-created workers chained Pcrypt len pipe k l created wide = wide-opened (lists_beside workers) k l created.0 (Pad (lists_beside workers)) (λ pad. refl) created.2 wide
wide-created workers true Cryptd len pipe k l created wide = wide-opened (lists_beside workers) k l created.0 (Chain (unwrap_or len 1000) (lists_beside workers)) (λ pad. absurd cc) created.2 wide
wide-created workers false Cryptd len pipe k l created wide = wide-opened (lists_beside workers) k l created.0 (Queue (unwrap_or len 1000)) (λ pad. absurd cc) created.2 wide

pub wide-same : (s s' : State) → s'.workers ≡ s.workers → s'.board ≡ s.board → PadsHaveAListPerWorker s → PadsHaveAListPerWorker s'
wide-same s s' workers board wide =
    subst (λ n. MadeWide (lists_beside n) (known s'.board)) (sym workers) (subst (λ b. MadeWide (lists_beside s.workers) (known b)) (sym board) wide)

-- ---- what is kept of a mask

pub kept-below : (workers bits : ℕ) (k : Known (BoardEntry Ask)) (pipe : PipelineState) → MadeWide (lists_beside workers) k → KnowsPipe k pipe → IsPad pipe.bound → kept_bits workers bits < 2 ^ width_born (birth (entries_of pipe.number k.seen))
kept-below workers bits k pipe wide on pad =
    let width = wide pipe.number (on.managed, on.opened.1) (open-pad pipe.bound (entries_of pipe.number k.seen) pad on.opened).0 in
    subst (λ n. kept_bits workers bits < 2 ^ n) (sym width) (mod_below bits (2 ^ lists_beside workers) (pow_pos (lists_beside workers)))
