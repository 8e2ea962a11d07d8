-- A transform is released: its pipeline is closed, and its reference given back.
use Rattle.std.proofs.Common.{◌≡◌, ℕ, false, List, [], ◌∷◌, ◌++◌, Option, sym, ap, subst, ◌∙◌, arith}
use Rattle.reply_text.specs.declared.answers.Answer.{Answer}
use Rattle.reply_text.specs.declared.answers.Answer.TheVariants as said
use Rattle.dialogues.specs.AllocAndFree.{free, lists_beside}
use Rattle.dialogues.specs.RegistryCalls.{Puts}
use Rattle.dialogues.specs.ScriptState.{ScriptState, Live, without, removed}
use Rattle.recorded_calls.specs.RegistryCalls.{Asks}
use Rattle.recorded_calls.specs.Passes.{RegPass, BoardPass, known, lock_of}
use Rattle.script_session.specs.TransformChanges.{has_undelivered, Released}
use Rattle.script_session.specs.PerformedDialogue.{Done, Performs}
use Rattle.script_session.specs.States.{State, ReferencesMatch, PipelinesMatch, MadeWide}
use Rattle.script_session.proofs.Arms.{viewed}
use Rattle.script_session.proofs.Changing.{label-of, released-posted}
use Rattle.script_session.proofs.Freeing.{free-done}
use Rattle.script_session.proofs.Placed.{Split, uses-removed}
use Rattle.script_session.proofs.Standing.{stands-more}
use Rattle.script_session.proofs.Widths.{wide-released}

module _ {ws c : ℕ} {sh items items' : List Live} {q v : ℕ} {r r' : Option RegPass} {b b' : Option BoardPass} (s : State) (view : viewed ws c sh items q v r b ≡ s) (label : List ℕ) (place : ℕ) (at : Split label s.script_state.lives 0 place) where
  free-at : (n : ℕ) (answers answers' : List Answer) → items' ≡ removed label s.script_state.lives → lock_of b' ≡ lock_of b → Released at.live (known b) (known b') → Asks r r' (Puts at.live.id ∷ []) → has_undelivered at.live.pipe ≡ false
      → ReferencesMatch s.script_state.lives (known s.registry) → PipelinesMatch s.script_state (known s.board) → answers' ≡ answers ++ said.Ok n ∷ [] → Performs (free s.script_state n label) s (viewed ws c sh items' q v r' b') answers answers'
  free-at n answers answers' gone lock released asks paid stands posted e =
      let released' : Released at.live (known s.board) (known b') = subst (λ (x : State). Released at.live (known x.board) (known b')) view released in
      let asks' : Asks s.registry r' (Puts at.live.id ∷ []) = subst (λ (x : State). Asks x.registry r' (Puts at.live.id ∷ [])) view asks in
      let walk_is : record { client = c; shared = sh; lives = items'; requests = q; bytes = v } ≡ without s.script_state label =
      ap (λ ls. let x : ScriptState = record { client = c; shared = sh; lives = ls; requests = q; bytes = v } in x) gone
      ∙ ap (λ (x : State). let y : ScriptState = record { client = x.script_state.client; shared = x.script_state.shared; lives = removed label s.script_state.lives; requests = x.script_state.requests; bytes = x.script_state.bytes } in y) view in
      let left : ReferencesMatch (removed label s.script_state.lives) (known r') =
      stands-more s.script_state.lives (removed label s.script_state.lives) (known s.registry) (known r') (Puts at.live.id ∷ []) stands asks'.asked
      (λ id. let u = uses-removed label s.script_state.lives place id at in omega (arith, u)) in
      record {
        locks = record { registry = asks'.lock; board = lock ∙ ap (λ (x : State). lock_of x.board) view; workers = ap (λ (x : State). x.workers) view; shared = ap (λ (x : State). x.script_state.shared) view };
        wide = λ wide. subst (λ n. MadeWide (lists_beside n) (known b')) (sym (ap (λ (x : State). x.workers) view)) (wide-released (lists_beside s.workers) at.live (known s.board) (known b') released' wide);
        done = subst (λ w. Done (free s.script_state n label) (known s.registry) (known s.board) (known r') (known b') w answers answers') (sym walk_is)
            (free-done s.script_state n label at.live (known s.registry) (known r') (known s.board) (known b') answers answers' at.found (label-of label s.script_state.lives place at) paid posted.legal released' asks'.asked left
            (released-posted s.script_state label place at (known s.board) (known b') posted released') e);
      }

  pub free-arm : (live : Live) (id n : ℕ) (answers answers' : List Answer) → live ≡ at.live → id ≡ live.id → items' ≡ removed label s.script_state.lives → lock_of b' ≡ lock_of b → Released live (known b) (known b') → Asks r r' (Puts id ∷ []) → has_undelivered at.live.pipe ≡ false
      → ReferencesMatch s.script_state.lives (known s.registry) → PipelinesMatch s.script_state (known s.board) → answers' ≡ answers ++ said.Ok n ∷ [] → Performs (free s.script_state n label) s (viewed ws c sh items' q v r' b') answers answers'
  free-arm live id n answers answers' was id_is gone lock released asks paid stands posted e =
      free-at n answers answers' gone lock (subst (λ l. Released l (known b) (known b')) was released) (subst (λ m. Asks r r' (Puts m ∷ [])) (id_is ∙ ap (λ (l : Live). l.id) was) asks) paid stands posted e
