-- Where the script and workers alone are callers, there is nothing but building and work between the script's calls.
use Rattle.std.proofs.Common.{◌≡◌, ℕ, ◌≤◌, inl, inr, Bool, true, false, List, [], ◌∷◌, ◌++◌, refl, ap, ◌∙◌, subst, arith, append_assoc}
use Rattle.std.specs.Prelude.{◌==◌, ◌&&◌, if◌then◌else◌, not, filter}
use Rattle.std.specs.List.{AllByRecursion, list_all}
use Rattle.std.proofs.lemmas.Bool.Decides.{nat_tests}
use Rattle.alg_registry.specs.declared.entry.RegEntry.{RegEntry}
use Rattle.alg_registry.specs.declared.entry.RegEntry.TheVariants.{Enlist, Look, Claim, End, Waited, Unlist, Get, Put, Refs}
use Rattle.alg_registry.specs.declared.entry.RegEntry.TheVariants as entry
use Rattle.alg_registry.specs.Legal.{LegalReg, MayFollow, IsRight, is_worker}
use Rattle.alg_registry.specs.Rows.{caller_of as made_by}
use Rattle.board.specs.declared.entry.BoardEntry.{BoardEntry}
use Rattle.board.specs.declared.entry.BoardEntry.TheVariants.{Born, Submit, Take, Finish, Enq, Deq, Done, Hold, Go, Collect, Close, Share, Mask, Shut}
use Rattle.board.specs.Entries.{caller_of}
use Rattle.board.specs.Legal.{LegalBoard, AreRightAfter, IsNoWorker}
use Rattle.board.specs.Legal.{IsRight as IsRightOn}
use Rattle.templates.specs.LookResults.{is_asked}
use Rattle.transforms.specs.declared.ask.Ask.{Ask}
use Rattle.dialogues.specs.RegistryCalls.{RegCall}
use Rattle.dialogues.specs.InTurn.{IsMade, AreInTurn}
use Rattle.sequential_model.proofs.Agreeing.{is_building}
use Rattle.sequential_model.proofs.Asking.{Asks, AsksInTurn}
use Rattle.sequential_model.proofs.Standing.{is_ours}
use Rattle.sequential_model.proofs.Lightness.{legal_front}
use Rattle.sequential_model.proofs.Posting.{split_right}

-- the script, of number 0, and workers alone
abbrev pub IsByCrew : List RegEntry → Type 0
IsByCrew r = AllByRecursion (λ e. made_by e ≤ 16) r

abbrev pub IsBoardOfCrew : List (BoardEntry Ask) → Type 0
IsBoardOfCrew b = AllByRecursion (λ e. caller_of e ≤ 16) b

-- ---- the registry

crew_split : (r more : List RegEntry) → IsByCrew (r ++ more) → IsByCrew r × IsByCrew more
crew_split [] more crew = (tt, crew)
crew_split (e ∷ r) more crew = let later = crew_split r more crew.1 in ((crew.0, later.0), later.1)

-- who is no worker, and of the crew, is the script
script_alone : (caller : ℕ) → caller ≤ 16 → is_worker caller ≡ false → (caller == 0) ≡ false → ⊥
script_alone caller lt idle other = grind (arith, nat_tests, lt, idle, other)

no_worker : (c : Bool) → not c ≡ true → c ≡ false
no_worker true e = absurd cc
no_worker false e = refl

-- what a caller of the crew makes, and no script asks, is building
builds : (h : List RegEntry) (e : RegEntry) → IsRight h e → made_by e ≤ 16 → is_asked 0 e ≡ false → is_building e ≡ true
builds h (Enlist caller spec answer) right lt none = absurd (script_alone caller lt right.0 none)
builds h (Look caller text true answer) right lt none = refl
builds h (Look caller text false answer) right lt none = absurd (script_alone caller lt (no_worker (is_worker caller) right.0) none)
builds h (Claim caller larval) right lt none = refl
builds h (End caller larval answer) right lt none = refl
builds h (Waited caller larval) right lt none = refl
builds h (Unlist caller driver answer) right lt none = absurd (script_alone caller lt right.0 none)
builds h (Get caller id ok) right lt none = absurd (script_alone caller lt right.0 none)
builds h (Put caller id) right lt none = absurd (script_alone caller lt right.0 none)
builds h (Refs caller driver) right lt none = absurd (script_alone caller lt right none)
builds h (entry.List caller) right lt none = absurd (script_alone caller lt right none)

none_pass : {E : Type 0} → (c : Bool) (x : E) (xs : List E) → (if c then x ∷ xs else xs) ≡ [] → (c ≡ false) × (xs ≡ [])
none_pass true x xs e = absurd cc
none_pass false x xs e = (refl, e)

all_build : (h more : List RegEntry) → MayFollow h more → IsByCrew more → filter (is_asked 0) more ≡ [] → list_all is_building more ≡ true
all_build h [] follows crew none = refl
all_build h (e ∷ more) follows crew none =
    let n = none_pass (is_asked 0 e) e (filter (is_asked 0) more) none in
    ap (λ c. c && list_all is_building more) (builds h e follows.0 crew.0 n.0) ∙ all_build (h ++ e ∷ []) more follows.1 crew.1 n.1

-- of a history, the entries after these
rest_builds : (h more : List RegEntry) → LegalReg (h ++ more) → IsByCrew (h ++ more) → filter (is_asked 0) more ≡ [] → list_all is_building more ≡ true
rest_builds h more legal crew none = all_build h more (legal_front h more legal).1 (crew_split h more crew).1 none

pub goes_on : (calls : List RegCall) (r r' : List RegEntry) → AreInTurn 0 calls r r' → (more : List RegEntry) × (r' ≡ r ++ more)
goes_on [] r r' takes = (takes.0, takes.1)
goes_on (call ∷ calls) r r' takes =
    let t = takes.1 in
    let later = goes_on calls takes.0 r' takes.2 in (
      ((t.before ++ t.entry ∷ []) ++ t.after) ++ later.0,
      later.1 ∙ (ap (λ h. h ++ later.0) (t.history ∙ (ap (λ h. h ++ t.after) (append_assoc r t.before (t.entry ∷ [])) ∙ append_assoc r (t.before ++ t.entry ∷ []) t.after)) ∙ append_assoc r ((t.before ++ t.entry ∷ []) ++ t.after) later.0),
    )

asks : (call : RegCall) (r r' : List RegEntry) → LegalReg r' → IsByCrew r' → IsMade 0 call r r' → Asks call r r'
asks call r r' legal crew t =
    let l = legal_front ((r ++ t.before) ++ t.entry ∷ []) t.after (subst LegalReg t.history legal) in
    let c = crew_split ((r ++ t.before) ++ t.entry ∷ []) t.after (subst IsByCrew t.history crew) in
    record {
      before = t.before;
      entry = t.entry;
      after = t.after;
      history = t.history;
      call_is = t.call_is;
      settled = t.settled;
      builds_before = rest_builds r t.before (legal_front (r ++ t.before) (t.entry ∷ []) l.0).0 (crew_split (r ++ t.before) (t.entry ∷ []) c.0).0 t.none_before;
      builds_after = all_build ((r ++ t.before) ++ t.entry ∷ []) t.after l.1 c.1 t.none_after;
    }

pub crew_builds : (calls : List RegCall) (r r' : List RegEntry) → LegalReg r' → IsByCrew r' → AreInTurn 0 calls r r' → AsksInTurn calls r r'
crew_builds [] r r' legal crew takes = (takes.0, takes.1, rest_builds r takes.0 (subst LegalReg takes.1 legal) (subst IsByCrew takes.1 crew) takes.2)
crew_builds (call ∷ calls) r r' legal crew takes =
    let later = goes_on calls takes.0 r' takes.2 in (
      takes.0,
      asks call r takes.0 (legal_front takes.0 later.0 (subst LegalReg later.1 legal)).0 (crew_split takes.0 later.0 (subst IsByCrew later.1 crew)).0 takes.1,
      crew_builds calls takes.0 r' legal crew takes.2,
    )

-- ---- the board

board_split : (b more : List (BoardEntry Ask)) → IsBoardOfCrew (b ++ more) → IsBoardOfCrew b × IsBoardOfCrew more
board_split [] more crew = (tt, crew)
board_split (e ∷ b) more crew = let later = board_split b more crew.1 in ((crew.0, later.0), later.1)

is_script : (caller : ℕ) → caller ≤ 16 → IsNoWorker caller → (caller == 0) ≡ true
is_script caller lt (inl zero) = grind (arith, nat_tests, zero)
is_script caller lt (inr more) = absurd (omega (arith, lt, more))

works : (b : List (BoardEntry Ask)) (e : BoardEntry Ask) → IsRightOn b e → caller_of e ≤ 16 → is_ours e ≡ true
works b (Born caller pipe shape) right lt = is_script caller lt right.1.0
works b (Submit caller pipe number ask) right lt = is_script caller lt right.1.0.0
works b (Take caller pipe number) right lt = refl
works b (Finish caller pipe number) right lt = refl
works b (Enq caller pipe ask backlog answer) right lt = is_script caller lt right.1.0.0
works b (Deq caller pipe number started) right lt = refl
works b (Done caller pipe number) right lt = refl
works b (Hold caller pipe) right lt = is_script caller lt right.1.0.0
works b (Go caller pipe) right lt = is_script caller lt right.1.0.0
works b (Collect caller pipe to) right lt = is_script caller lt right.1.0.0
works b (Close caller pipe) right lt = is_script caller lt right.1.0.0
works b (Share caller pipe) right lt = is_script caller lt right.1.0.0
works b (Mask caller pipe mask) right lt = is_script caller lt right.1.0.0
works b (Shut caller) right lt = ap (λ n. n == 0) right.0

all_work : (b more : List (BoardEntry Ask)) → AreRightAfter b more → IsBoardOfCrew more → list_all is_ours more ≡ true
all_work b [] right crew = refl
all_work b (e ∷ more) right crew = ap (λ c. c && list_all is_ours more) (works b e right.0 crew.0) ∙ all_work (b ++ e ∷ []) more right.1 crew.1

pub crew_works : (b more : List (BoardEntry Ask)) → LegalBoard (b ++ more) → IsBoardOfCrew (b ++ more) → list_all is_ours more ≡ true
crew_works b more legal crew = all_work b more (split_right [] b more legal).1 (board_split b more crew).1
