-- An `alloc` past its own refusals.
use Rattle.std.specs.Prelude.{ℕ, ◌≡◌, List, [], ◌∷◌, ◌++◌, Option}
use Rattle.alg_registry.specs.declared.spec.Spec.{Spec}
use Rattle.reply_text.specs.declared.answers.Answer.{Answer}
use Rattle.reply_text.specs.declared.answers.Answer.TheVariants as said
use Rattle.templates.specs.declared.driver_plans.Plan.{Plan}
use Rattle.dialogues.specs.AllocAndFree.{binds, and_live}
use Rattle.dialogues.specs.Dialogues.{Dialogue, Asks}
use Rattle.dialogues.specs.Questions.{Look}
use Rattle.dialogues.specs.ScriptState.{ScriptState, Live}
use Rattle.recorded_calls.specs.Passes.{known, lock_of}
use Rattle.script_session.specs.Creation.{CreatedLive}
use Rattle.script_session.specs.States.{State}

-- the name is looked up, and what is found is taken into use
abbrev pub looks : ℕ → ScriptState → ℕ → List ℕ → List ℕ → Option ℕ → Dialogue
looks workers script_state n label name len = Asks (Look name) λ found. binds workers script_state n label len found

-- The transform of an entry was made with its pipeline, and stands behind the others; nothing else was changed.
pub record MakesLive (label : List ℕ) (len : Option ℕ) (id : ℕ) (spec : Spec) (plan : Plan) (s s' : State) : Type 0 where
  pub live : Live
  pub created : CreatedLive s.workers label len id spec plan live (known s.board) (known s'.board)
  pub lock : lock_of s'.board ≡ lock_of s.board
  pub added : s' ≡ record s { script_state = and_live s.script_state live; board = s'.board }

-- the same, and it was answered
pub record AddsLive (n : ℕ) (label : List ℕ) (len : Option ℕ) (id : ℕ) (spec : Spec) (plan : Plan) (s s' : State) (answers answers' : List Answer) : Type 0 where
  pub made : MakesLive label len id spec plan s s'
  pub says : answers' ≡ answers ++ said.Made n spec.driver ∷ []
