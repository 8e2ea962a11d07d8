-- The lines that make and release transforms: `alloc` and `free`.
use Rattle.std.specs.Prelude.{ℕ, Bool, true, false, not, if◌then◌else◌, nat_lt, nat_le, List, [], ◌∷◌, ◌++◌, length, Option, Some, None, is_some, unwrap_or, Result, Ok, Err, codes}
use Rattle.kc_base.specs.declared.error_numbers.Errno.{Errno}
use Rattle.kc_base.specs.declared.error_numbers.Errno.TheVariants.{EAGAIN, EBUSY, EEXIST, EINVAL, EMFILE}
use Rattle.alg_registry.specs.declared.spec.Spec.{Spec}
use Rattle.alg_registry.specs.declared.spec.Wrap.{Wrap}
use Rattle.alg_registry.specs.declared.spec.Wrap.TheVariants.{Plain, Pcrypt, Cryptd}
use Rattle.board.specs.declared.entry.Shape.{Shape}
use Rattle.board.specs.declared.entry.Shape.TheVariants.{Pad, Queue, Chain}
use Rattle.templates.specs.declared.driver_plans.Plan.{Plan}
use Rattle.templates.specs.LookResults.{Found, Entry, Fault}
use Rattle.templates.specs.Table.{begins_with}
use Rattle.transforms.specs.Plans.{tag_size_of}
use Rattle.reply_text.specs.declared.answers.Answer.TheVariants as said
use Rattle.dialogues.specs.Names.{name_read, is_queue_length, plan_for}
use Rattle.dialogues.specs.Questions.{Look, Get, Put, Create, Close}
use Rattle.dialogues.specs.Dialogues.{Dialogue, Asks, Posts, says, answers_errno, unless, with_label}
use Rattle.dialogues.specs.ScriptState.{ScriptState, Live, PipelineState, either_of, without}

-- ---- `alloc T NAME [NUM]`

-- beside how many workers: a list of a pad for each, and one where there are none
abbrev pub lists_beside : ℕ → ℕ
lists_beside workers = if nat_lt workers 1 then 1 else workers

-- a driver under `cryptd` over `pcrypt`
abbrev pub is_chained : List ℕ → Bool
is_chained driver = begins_with driver (codes "cryptd(pcrypt(")

-- a queue of the length given, and for what is chained a pad to which its requests go on
abbrev pub queue_shape : ℕ → Bool → Option ℕ → Shape
queue_shape workers true len = Chain (unwrap_or len 1000) (lists_beside workers)
queue_shape workers false len = Queue (unwrap_or len 1000)

-- under `pcrypt` a pad, and under `cryptd` a queue or a chain
abbrev pub shape_for : ℕ → Bool → Wrap → Option ℕ → Option Shape
shape_for workers chained Plain len = None
shape_for workers chained Pcrypt len = Some (Pad (lists_beside workers))
shape_for workers chained Cryptd len = Some (queue_shape workers chained len)

-- how many requests may wait before it is full
abbrev pub bound_of : Shape → Option ℕ
bound_of (Pad lists) = None
bound_of (Queue max) = Some max
bound_of (Chain max lists) = Some max

-- the pipeline of this number, of which nothing was asked
abbrev pub new_pipe : ℕ → Shape → PipelineState
new_pipe number shape = record { number = number; bound = bound_of shape; held = false; mask_is_empty = false; lines = []; delivered = 0 }

-- with no key yet, and the greatest tag size of its mode
abbrev pub new_live : List ℕ → ℕ → Plan → Option PipelineState → Live
new_live label id plan pipe = record { label = label; id = id; plan = plan; key = None; tag_size = tag_size_of plan; pipe = pipe }

abbrev pub and_live : ScriptState → Live → ScriptState
and_live script_state live = record script_state { lives = script_state.lives ++ live ∷ [] }

-- a new pipeline of the shape, where there is one
abbrev pub creates : Option Shape → (Option PipelineState → Dialogue) → Dialogue
creates None rest = rest None
creates (Some shape) rest = Posts (Create shape) λ number. rest (Some (new_pipe number shape))

abbrev pub binds_plan : ℕ → ScriptState → ℕ → List ℕ → Option ℕ → ℕ → Spec → Option Plan → Dialogue
binds_plan workers script_state n label len id spec None = answers_errno script_state n EINVAL
binds_plan workers script_state n label len id spec (Some plan) =
    Asks (Get id) λ ok. unless script_state n ((not ok, EAGAIN) ∷ []) (
    creates (shape_for workers (is_chained spec.driver) spec.wrap len) λ pipe. says (and_live script_state (new_live label id plan pipe)) (said.Made n spec.driver))

-- what was found is taken into use
abbrev pub binds : ℕ → ScriptState → ℕ → List ℕ → Option ℕ → Found → Dialogue
binds workers script_state n label len (Fault errno) = answers_errno script_state n errno
binds workers script_state n label len (Entry id spec) = binds_plan workers script_state n label len id spec (plan_for spec len)

-- the name's own refusal, if it has one
abbrev pub fault_of : {A : Type 0} → Result A Errno → List (Bool × Errno)
fault_of (Ok name) = []
fault_of (Err errno) = (true, errno) ∷ []

abbrev pub alloc : ℕ → ScriptState → ℕ → List ℕ → List ℕ → Option ℕ → Dialogue
alloc workers script_state n label name len =
    unless script_state n (
    (is_some (either_of script_state label), EEXIST)
    ∷ (nat_le 4096 (length script_state.lives), EMFILE)
    ∷ fault_of (name_read name)
    ++ (not (is_queue_length len), EINVAL)
    ∷ []) (
    Asks (Look name) λ found. binds workers script_state n label len found)

-- ---- `free T`

abbrev pub releases : ScriptState → ℕ → Live → Dialogue
releases script_state n live = Asks (Put live.id) λ done. says (without script_state live.label) (said.Ok n)

-- a transform isn't freed while a completion of its requests is to come
abbrev pub closes : ScriptState → ℕ → Live → Option PipelineState → Dialogue
closes script_state n live None = releases script_state n live
closes script_state n live (Some pipe) = unless script_state n ((nat_lt pipe.delivered (length pipe.lines), EBUSY) ∷ [])
    (Posts (Close pipe.number) λ done. releases script_state n live)

abbrev pub free : ScriptState → ℕ → List ℕ → Dialogue
free script_state n label = with_label script_state n label λ live. closes script_state n live live.pipe
