-- A caller that has made nothing.
use Rattle.std.proofs.Common.{◌≡◌, ℕ, ◌+◌, ◌<◌, Bool, true, false, List, [], ◌∷◌, length, None, inr, refl, sym, ap, subst, ◌∙◌, arith}
use Rattle.std.specs.Prelude.{◌==◌, if◌then◌else◌, sum_by}
use Rattle.std.specs.List.{cons_option}
use Rattle.std.proofs.lemmas.Bool.{eq-eqb}
use Rattle.std.proofs.lemmas.Bool.Decides.{nat_tests}
use Rattle.std.proofs.lemmas.List.Elements.{All-nil}
use Rattle.alg_registry.specs.declared.entry.RegEntry.{RegEntry}
use Rattle.alg_registry.specs.Legal.{is_worker}
use Rattle.alg_registry.specs.Rows.{caller_of as reg_caller}
use Rattle.board.specs.declared.entry.BoardEntry.{BoardEntry}
use Rattle.board.specs.declared.entry.BoardEntry.TheVariants as event
use Rattle.board.specs.Allowance.{accepted_by}
use Rattle.board.specs.Entries.{entries_of, is_of, accepted_in, IsMaker, caller_of as board_caller}
use Rattle.board.specs.Legal.{LegalBoard}
use Rattle.dialogues.specs.RegistryCalls.{reg_calls, AllSettled}
use Rattle.dialogues.specs.References.{got, given}
use Rattle.dialogues.specs.ScriptState.{Live, start_beside}
use Rattle.script_session.specs.States.{ReferencesMatch, PipelinesMatch, MadeWide}
use Rattle.recorded_calls.specs.Pipelines.{Owns}
use Rattle.transforms.specs.AskValue.{ask_size}
use Rattle.transforms.specs.declared.ask.Ask.{Ask}
use Rattle.turn_lock.specs.PassLaws.{IsOwn}
use Rattle.turn_lock.specs.Turns.{Known, of}
use Rattle.script_run.proofs.Following.{none-pass}
use Rattle.client_run.specs.Laws.{Laws}
use Rattle.client_run.proofs.Following.{unasked}

-- ---- where no entry is the caller's

maker-later : (n : ℕ) (e : BoardEntry Ask) (es : List (BoardEntry Ask)) → (board_caller e == n) ≡ false → (IsMaker es n → ⊥) → IsMaker (e ∷ es) n → ⊥
maker-later n (event.Born by pipe shape) es not later maker = let same : (by == n) ≡ true = eq-eqb by n maker in let bad : true ≡ false = sym same ∙ not in cc
maker-later n (event.Submit by pipe number ask) es not later maker = later maker
maker-later n (event.Enq by pipe ask backlog answer) es not later maker = later maker
maker-later n (event.Hold by pipe) es not later maker = later maker
maker-later n (event.Go by pipe) es not later maker = later maker
maker-later n (event.Collect by pipe to) es not later maker = later maker
maker-later n (event.Close by pipe) es not later maker = later maker
maker-later n (event.Share by pipe) es not later maker = later maker
maker-later n (event.Mask by pipe mask) es not later maker = later maker
maker-later n (event.Shut by) es not later maker = later maker
maker-later n (event.Take by pipe number) es not later maker = later maker
maker-later n (event.Finish by pipe number) es not later maker = later maker
maker-later n (event.Deq by pipe number started) es not later maker = later maker
maker-later n (event.Done by pipe number) es not later maker = later maker

maker-if : (t : Bool) (n : ℕ) (e : BoardEntry Ask) (es : List (BoardEntry Ask)) → (board_caller e == n) ≡ false → (IsMaker es n → ⊥) → IsMaker (if t then e ∷ es else es) n → ⊥
maker-if true n e es not later maker = maker-later n e es not later maker
maker-if false n e es not later maker = later maker

pub no-maker : (n p : ℕ) (h : List (BoardEntry Ask)) → of board_caller n h ≡ [] → IsMaker (entries_of p h) n → ⊥
no-maker n p [] none maker = maker
no-maker n p (e ∷ h) none maker =
    let rest = none-pass (board_caller e == n) e (of board_caller n h) none in
    maker-if (is_of p e) n e (entries_of p h) rest.0 (no-maker n p h rest.1) maker

pub accepted-none : (n : ℕ) (h : List (BoardEntry Ask)) → of board_caller n h ≡ [] → accepted_by n h ≡ []
accepted-none n [] none = refl
accepted-none n (e ∷ h) none =
    let rest = none-pass (board_caller e == n) e (of board_caller n h) none in
    ap (λ t. cons_option (if t then accepted_in e else None) (accepted_by n h)) rest.0 ∙ accepted-none n h rest.1

-- ---- so a client begins

module _ (k : Known (BoardEntry Ask)) (none : of board_caller k.number k.seen ≡ []) where
  owns-none : (p : ℕ) → Owns k p → ⊥
  owns-none p owns = no-maker k.number p k.seen none owns.0.1

  pub fresh-posted : (client : ℕ) (shared : List Live) → 16 < k.number → LegalBoard k.seen → PipelinesMatch (start_beside client shared) k
  fresh-posted client shared above legal = record {
    outsider = inr above;
    legal = legal;
    pipes = All-nil _;
    apart = λ number. omega arith;
    owned = λ number owns. absurd (owns-none number owns);
    requests = ap length (accepted-none k.number k.seen none);
    bytes = ap (λ xs. sum_by ask_size xs) (accepted-none k.number k.seen none);
    unshut = λ zero_is. absurd (omega (arith, above, zero_is));
  }

  pub fresh-wide : (lists : ℕ) → MadeWide lists k
  fresh-wide lists p owns pad = absurd (owns-none p owns)

no-worker : (n : ℕ) → 16 < n → is_worker n ≡ false
no-worker n above = grind (arith, nat_tests)

pub fresh-stands : Laws → (k : Known RegEntry) → 16 < k.number → of reg_caller k.number k.seen ≡ [] → IsOwn reg_caller k → ReferencesMatch [] k
fresh-stands laws k above none own =
    let calls : reg_calls k.number k.seen ≡ [] = unasked laws k.number k.seen none in
    record {
      caller = record {
        outsider = no-worker k.number above;
        own = own;
        settled = subst AllSettled (sym calls) tt;
      };
      referenced = λ id. ap (λ cs. got id cs) calls ∙ sym (ap (λ cs. given id cs + 0) calls);
    }
