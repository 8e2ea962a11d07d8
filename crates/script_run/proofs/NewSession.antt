-- A session over passes that have seen nothing is ready for its first line.
use Rattle.std.proofs.Common.{◌≡◌, ℕ, ◌≤◌, [], Some, inl, refl, sym, ap, subst, arith}
use Rattle.std.proofs.lemmas.List.Elements.{All-nil}
use Rattle.alg_registry.specs.declared.entry.RegEntry.{RegEntry}
use Rattle.board.specs.declared.entry.BoardEntry.{BoardEntry}
use Rattle.crew.specs.declared.passes.Passes.{Passes}
use Rattle.crew.specs.Both.{ArePassesOn}
use Rattle.dialogues.specs.AllocAndFree.{lists_beside}
use Rattle.dialogues.specs.RegistryCalls.{reg_calls}
use Rattle.dialogues.specs.ScriptState.{start}
use Rattle.script_session.specs.Replies.{IsReady}
use Rattle.script_session.specs.States.{State, ReferencesMatch, PipelinesMatch, MadeWide}
use Rattle.shared_board.specs.declared.shared.SharedBoard.{SharedBoard}
use Rattle.shared_registry.specs.declared.registry_lock.SharedRegistry.{SharedRegistry}
use Rattle.transforms.specs.declared.ask.Ask.{Ask}
use Rattle.transforms.specs.declared.request.Finished.{Finished}
use Rattle.turn_lock.specs.Passes.{knows}
use Rattle.turn_lock.specs.Turns.{Known}
use Rattle.script_run.specs.Runs.{AreNew}

-- a pass that has seen nothing
empty : {E : Type 0} → Known E → Known E
empty k = record { number = 0; next = k.next; seen = []; made = []; ended = k.ended }

is-empty : {E : Type 0} (k : Known E) → k.number ≡ 0 → k.seen ≡ [] → k.made ≡ [] → empty k ≡ k
unfolding empty
is-empty k n s m = λ i. record { number = sym n i; next = k.next; seen = sym s i; made = sym m i; ended = k.ended }

empty-stands : (k : Known RegEntry) → ReferencesMatch [] (empty k)
unfolding empty reg_calls
empty-stands k = record { caller = record { outsider = refl; own = refl; settled = tt }; referenced = λ id. refl }

empty-posted : (k : Known (BoardEntry Ask)) → PipelinesMatch (start 0) (empty k)
unfolding empty
empty-posted k = record {
  outsider = inl (omega arith);
  legal = tt;
  pipes = All-nil _;
  apart = λ number. omega arith;
  owned = λ number owns. absurd owns.0.1;
  requests = refl;
  bytes = refl;
  unshut = λ first. refl;
}

empty-wide : (lists : ℕ) (k : Known (BoardEntry Ask)) → MadeWide lists (empty k)
unfolding empty
empty-wide lists k p owns pad = absurd owns.0.1

pub new-ready : {W : Type 0} (registry : SharedRegistry) (board : SharedBoard W Ask Finished) (workers : ℕ) (p : Passes Ask) (s : State) → ArePassesOn board registry p → AreNew p → workers ≤ 16
    → s ≡ record { workers = workers; script_state = start 0; registry = Some p.registry; board = Some p.board } → IsReady registry board s
new-ready registry board workers p s at new few is =
    subst (IsReady registry board) (sym is) (record {
      calls_registry = ap (λ n. Some n) at.1;
      calls_board = ap (λ n. Some n) at.0;
      stands = subst (ReferencesMatch []) (is-empty (knows p.registry) new.registry.0 new.registry.1 new.registry.2) (empty-stands (knows p.registry));
      posted = subst (PipelinesMatch (start 0)) (is-empty (knows p.board) new.board.0 new.board.1 new.board.2) (empty-posted (knows p.board));
      few = few;
      wide = subst (MadeWide (lists_beside workers)) (is-empty (knows p.board) new.board.0 new.board.1 new.board.2) (empty-wide (lists_beside workers) (knows p.board));
      shared = All-nil _;
    })
