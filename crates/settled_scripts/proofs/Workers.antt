-- The plain pass of a settled line is the same for every number of workers.
use Rattle.std.proofs.Common.{◌≡◌, ◌⊎◌, inl, inr, ℕ, ◌≢◌, ◌+◌, ◌-◌, ◌*◌, ◌/◌, ◌^◌, ◌%◌, ◌==◌, Bool, true, false, cond, not, ◌||◌, nat_le, nat_lt, List, [], ◌∷◌, ◌++◌, length, refl, sym, ap, ◌∙◌, arith, Option, Some, None, is_some}
use Rattle.std.proofs.lemmas.Bool.{eq-eqb, eqb-true, or_cases, false_from_ne_true}
use Rattle.std.proofs.lemmas.Bool.Decides.{nat_tests}
use Rattle.std.proofs.lemmas.Nat.{mod-pow-add}
use Rattle.std.proofs.Math.Nat.{zero-mod}
use Rattle.kc_base.specs.declared.error_numbers.Errno.{Errno}
use Rattle.kc_base.specs.declared.error_numbers.Errno.TheVariants.{EAGAIN, EEXIST, EINVAL, EMFILE}
use Rattle.alg_registry.specs.Rows.{listed_at}
use Rattle.alg_registry.specs.declared.spec.Spec.{Spec}
use Rattle.alg_registry.specs.declared.spec.Wrap.{Wrap}
use Rattle.alg_registry.specs.declared.spec.Wrap.TheVariants.{Plain, Pcrypt, Cryptd}
use Rattle.script_text.specs.declared.commands.Command.{Command}
use Rattle.script_text.specs.declared.commands.Command.TheVariants as command
use Rattle.script_text.specs.declared.commands.Line.{Line}
use Rattle.script_text.specs.declared.commands.Line.TheVariants as line
use Rattle.templates.specs.declared.driver_plans.Plan.{Plan}
use Rattle.templates.specs.LookResults.{Found, Entry, Fault}
use Rattle.reply_text.specs.declared.answers.Answer.TheVariants as said
use Rattle.dialogues.specs.Names.{name_read, is_queue_length, plan_for}
use Rattle.dialogues.specs.RegistryCalls.{Looks, Gets}
use Rattle.dialogues.specs.AllocAndFree.{lists_beside, binds, binds_plan, creates, is_chained, shape_for, new_live, and_live, fault_of}
use Rattle.dialogues.specs.Dialogues.{Dialogue, Asks, unless, answers_errno, says, for_live, missing}
use Rattle.dialogues.specs.PipelineCommands.{kept_bits, if_pad, with_pad, masks}
use Rattle.dialogues.specs.Questions.{Look}
use Rattle.dialogues.specs.Lines.{command_dialogue, line_dialogue}
use Rattle.dialogues.specs.ScriptState.{ScriptState, Live, PipelineState, live_of, shared_of, either, with_pipe}
use Rattle.sequential_model.specs.Registry.{PlainRegistry, look_found, look_up, registry_after}
use Rattle.sequential_model.specs.Pipelines.{Pipeline}
use Rattle.settled_scripts.specs.Settled.{is_settled_line, pass}

unless_same : (script_state : ScriptState) (n : ℕ) (refusals : List (Bool × Errno)) (d e : Dialogue) (registry : PlainRegistry) (pipelines : List Pipeline) → pass d registry pipelines ≡ pass e registry pipelines → pass (unless script_state n refusals d) registry pipelines ≡ pass (unless script_state n refusals e) registry pipelines
unless_same script_state n [] d e registry pipelines same = same
unless_same script_state n (refusal ∷ refusals) d e registry pipelines same = by refusal.0 (unless_same script_state n refusals d e registry pipelines same)
  where
    by : (c : Bool) → pass (unless script_state n refusals d) registry pipelines ≡ pass (unless script_state n refusals e) registry pipelines
        → pass (cond c (answers_errno script_state n refusal.1) (unless script_state n refusals d)) registry pipelines ≡ pass (cond c (answers_errno script_state n refusal.1) (unless script_state n refusals e)) registry pipelines
    by true later = refl
    by false later = later

creates_same : (workers : ℕ) (chained : Bool) (wrap : Wrap) (len : Option ℕ) (rest : Option PipelineState → Dialogue) (registry : PlainRegistry) (pipelines : List Pipeline) → pass (creates (shape_for workers chained wrap len) rest) registry pipelines ≡ pass (creates (shape_for 0 chained wrap len) rest) registry pipelines
creates_same workers chained Plain len rest registry pipelines = refl
creates_same workers chained Pcrypt len rest registry pipelines = refl
creates_same workers true Cryptd len rest registry pipelines = refl
creates_same workers false Cryptd len rest registry pipelines = refl

plan_same : (workers : ℕ) (script_state : ScriptState) (n : ℕ) (label : List ℕ) (len : Option ℕ) (id : ℕ) (spec : Spec) (plan : Option Plan) (registry : PlainRegistry) (pipelines : List Pipeline)
    → pass (binds_plan workers script_state n label len id spec plan) registry pipelines ≡ pass (binds_plan 0 script_state n label len id spec plan) registry pipelines
plan_same workers script_state n label len id spec None registry pipelines = refl
plan_same workers script_state n label len id spec (Some plan) registry pipelines =
    let ok : Bool = listed_at registry.rows id in
    let rest : Option PipelineState → Dialogue = λ pipe. says (and_live script_state (new_live label id plan pipe)) (said.Made n spec.driver) in
    let knows : PlainRegistry = registry_after registry (Gets id ok) in
    unless_same script_state n ((not ok, EAGAIN) ∷ []) (creates (shape_for workers (is_chained spec.driver) spec.wrap len) rest) (creates (shape_for 0 (is_chained spec.driver) spec.wrap len) rest) knows pipelines (creates_same workers (is_chained spec.driver) spec.wrap len rest knows pipelines)

binds_same : (workers : ℕ) (script_state : ScriptState) (n : ℕ) (label : List ℕ) (len : Option ℕ) (found : Found) (registry : PlainRegistry) (pipelines : List Pipeline) → pass (binds workers script_state n label len found) registry pipelines ≡ pass (binds 0 script_state n label len found) registry pipelines
binds_same workers script_state n label len (Fault errno) registry pipelines = refl
binds_same workers script_state n label len (Entry id spec) registry pipelines = plan_same workers script_state n label len id spec (plan_for spec len) registry pipelines

odd_is_some : (q r : ℕ) → r ≡ 1 → q * 2 + r ≢ 0
odd_is_some q r odd none = absurd (omega (arith, odd, none))

-- what is kept of an empty mask, and of one with the first worker's bit, is empty beside all numbers of workers or
-- beside none
kept_same : (workers bits : ℕ) → (bits == 0 || bits % 2 == 1) ≡ true → (kept_bits workers bits == 0) ≡ (kept_bits 0 bits == 0)
kept_same workers bits settled = by (or_cases (bits == 0) (bits % 2 == 1) settled)
  where
    lists : (w : ℕ) → (j : ℕ) × (lists_beside w ≡ j + 1)
    lists w = least (nat_lt w 1) refl
      where
        least : (c : Bool) → nat_lt w 1 ≡ c → (j : ℕ) × (cond c 1 w ≡ j + 1)
        least true e = (0, refl)
        least false e = (w - 1, grind (arith, nat_tests, e))

    none : (w : ℕ) → bits ≡ 0 → (kept_bits w bits == 0) ≡ true
    none w e = ap (λ b. kept_bits w b == 0) e ∙ eq-eqb (0 % 2 ^ lists_beside w) 0 (zero-mod (2 ^ lists_beside w))

    some : (w : ℕ) → bits % 2 ≡ 1 → (kept_bits w bits == 0) ≡ false
    some w e =
        let l = lists w in
        let split : kept_bits w bits ≡ (bits / 2 ^ 1 % 2 ^ l.0) * 2 ^ 1 + bits % 2 ^ 1 = ap (λ k. bits % 2 ^ k) l.1 ∙ mod-pow-add bits l.0 1 in
        false_from_ne_true (kept_bits w bits == 0) (λ h. odd_is_some (bits / 2 % 2 ^ l.0) (bits % 2) e (sym split ∙ eqb-true (kept_bits w bits) 0 h))

    by : ((bits == 0) ≡ true) ⊎ ((bits % 2 == 1) ≡ true) → (kept_bits workers bits == 0) ≡ (kept_bits 0 bits == 0)
    by (inl h) = let e = eqb-true bits 0 h in none workers e ∙ sym (none 0 e)
    by (inr h) = let e = eqb-true (bits % 2) 1 h in some workers e ∙ sym (some 0 e)

-- a mask's line says the same where what is kept is empty in both
mask_same : (workers : ℕ) (script_state : ScriptState) (n bits : ℕ) (live : Live) (o : Option PipelineState) (registry : PlainRegistry) (pipelines : List Pipeline) → (kept_bits workers bits == 0) ≡ (kept_bits 0 bits == 0)
    → pass (with_pad script_state n o (masks workers script_state n bits live)) registry pipelines ≡ pass (with_pad script_state n o (masks 0 script_state n bits live)) registry pipelines
mask_same workers script_state n bits live None registry pipelines same = refl
mask_same workers script_state n bits live (Some pipe) registry pipelines same = by pipe.bound
  where
    by : (bound : Option ℕ) → pass (if_pad script_state n bound (masks workers script_state n bits live pipe)) registry pipelines ≡ pass (if_pad script_state n bound (masks 0 script_state n bits live pipe)) registry pipelines
    by None = ap (λ c. pass (says (with_pipe script_state live (record pipe { mask_is_empty = c })) (said.Ok n)) registry pipelines) same
    by (Some max) = refl

label_mask_same : (workers : ℕ) (script_state : ScriptState) (n bits : ℕ) (o : Option Live) (errno : Errno) (registry : PlainRegistry) (pipelines : List Pipeline) → (kept_bits workers bits == 0) ≡ (kept_bits 0 bits == 0)
    → pass (for_live script_state n o errno (λ live. with_pad script_state n live.pipe (masks workers script_state n bits live))) registry pipelines ≡ pass (for_live script_state n o errno (λ live. with_pad script_state n live.pipe (masks 0 script_state n bits live))) registry pipelines
label_mask_same workers script_state n bits None errno registry pipelines same = refl
label_mask_same workers script_state n bits (Some live) errno registry pipelines same = mask_same workers script_state n bits live live.pipe registry pipelines same

command_same : (workers : ℕ) (script_state : ScriptState) (n : ℕ) (c : Command) → is_settled_line (line.Cmd c) ≡ true → (registry : PlainRegistry) (pipelines : List Pipeline) → pass (command_dialogue workers script_state n c) registry pipelines ≡ pass (command_dialogue 0 script_state n c) registry pipelines
command_same workers script_state n (command.Mask label bits) settled registry pipelines =
    label_mask_same workers script_state n bits (live_of script_state label) (missing (shared_of script_state label)) registry pipelines (kept_same workers bits settled)
command_same workers script_state n (command.Alloc label name len) settled registry pipelines =
    let found : Found = look_found (look_up registry name) in
    let asks : ℕ → Dialogue = λ beside. Asks (Look name) λ found. binds beside script_state n label len found in
    unless_same script_state n
    ((is_some (either (live_of script_state label) (shared_of script_state label)), EEXIST) ∷ (nat_le 4096 (length script_state.lives), EMFILE) ∷ fault_of (name_read name) ++ (not (is_queue_length len), EINVAL) ∷ [])
    (asks workers) (asks 0) registry pipelines
    (binds_same workers script_state n label len found (registry_after registry (Looks name (Some found))) pipelines)
command_same workers script_state n c settled registry pipelines = refl

pub line_same : (workers : ℕ) (script_state : ScriptState) (n : ℕ) (next : Line) → is_settled_line next ≡ true → (registry : PlainRegistry) (pipelines : List Pipeline) → pass (line_dialogue workers script_state n next) registry pipelines ≡ pass (line_dialogue 0 script_state n next) registry pipelines
line_same workers script_state n line.Nothing settled registry pipelines = refl
line_same workers script_state n line.Malformed settled registry pipelines = refl
line_same workers script_state n (line.Cmd c) settled registry pipelines = command_same workers script_state n c settled registry pipelines
