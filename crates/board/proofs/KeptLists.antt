-- A pipeline has as many reorder lists as its mask asks for, whatever becomes of its stage.
use Rattle.std.proofs.Common.{◌≡◌, ℕ, ◌-◌, ◌^◌, ◌≤◌, max, true, false, Bool, List, refl, sym, ◌∙◌, ap}
use Rattle.std.proofs.Math.Nat.{max-eq_left}
use lib.Count.{ones-ones}
use Rattle.board.specs.declared.entry.Entered.{Entered}
use Rattle.board.specs.declared.entry.Shape.{Shape}
use Rattle.board.specs.declared.entry.Shape.TheVariants as shape
use Rattle.board.specs.declared.pipeline.Pipeline.{Pipeline}
use Rattle.board.specs.declared.stage.Stage.{Stage}
use Rattle.board.specs.declared.stage.Stage.TheVariants as stage
use Rattle.board.specs.Shapes.{lists_of, IsShape}
use Rattle.board.specs.Stages.{is_pad, is_queue, without_room, after_entered, after_passed, with_job, ended, without_first, holding, collected_from}
use Rattle.board.specs.Births.{new_stage}
use Rattle.board.specs.Pipelines.{with_lists}
use Rattle.board.specs.Entries.{lists_for}
use Rattle.board.specs.Kept.{HasLists, lists_in, shape_of}
use Rattle.board.proofs.Admitting.{queue_shape}

lists_bare : {J O : Type 0} (s : Stage J O) → lists_in (without_room s) ≡ lists_in s
lists_bare (stage.Pad x) = refl
lists_bare (stage.Queue x) = refl
lists_bare (stage.Chain x) = refl

pub lists_same : {J O : Type 0} (a b : Stage J O) → without_room a ≡ without_room b → lists_in a ≡ lists_in b
lists_same a b e = sym (lists_bare a) ∙ (ap lists_in e ∙ lists_bare b)

pub job_lists : {J O : Type 0} (s : Stage J O) (job : J) → lists_in (with_job s job) ≡ lists_in s
job_lists (stage.Pad x) job = refl
job_lists (stage.Queue x) job = refl
job_lists (stage.Chain x) job = refl

pub entered_lists : {J O : Type 0} (s : Stage J O) (job : J) (answer : Entered) → lists_in (after_entered s job answer) ≡ lists_in s
entered_lists (stage.Pad x) job answer = refl
entered_lists (stage.Queue x) job answer = refl
entered_lists (stage.Chain x) job answer = refl

pub passed_lists : {J O : Type 0} (s : Stage J O) → lists_in (after_passed s) ≡ lists_in s
passed_lists (stage.Pad x) = refl
passed_lists (stage.Queue x) = refl
passed_lists (stage.Chain x) = refl

pub first_lists : {J O : Type 0} (s : Stage J O) (rest : List J) → lists_in (without_first s rest) ≡ lists_in s
first_lists (stage.Pad x) rest = refl
first_lists (stage.Queue x) rest = refl
first_lists (stage.Chain x) rest = refl

pub ended_lists : {J O : Type 0} (s : Stage J O) (n : ℕ) (out : O) → lists_in (ended s n out) ≡ lists_in s
ended_lists (stage.Pad x) n out = refl
ended_lists (stage.Queue x) n out = refl
ended_lists (stage.Chain x) n out = refl

pub held_lists : {J O : Type 0} (s : Stage J O) (held : Bool) → lists_in (holding s held) ≡ lists_in s
held_lists (stage.Pad x) held = refl
held_lists (stage.Queue x) held = refl
held_lists (stage.Chain x) held = refl

pub collected_lists : {J O : Type 0} (s : Stage J O) → lists_in (collected_from s) ≡ lists_in s
collected_lists (stage.Pad x) = refl
collected_lists (stage.Queue x) = refl
collected_lists (stage.Chain x) = refl

pub new_lists : {J O : Type 0} (s : Stage J O) (lists : ℕ) → is_pad s ≡ true → lists_in (with_lists s lists) ≡ lists
new_lists (stage.Pad x) lists h = refl
new_lists (stage.Queue x) lists h = cc
new_lists (stage.Chain x) lists h = cc

pub pad_no_queue : {J O : Type 0} (s : Stage J O) → is_pad s ≡ true → is_queue s ≡ false
pad_no_queue (stage.Pad x) h = refl
pad_no_queue (stage.Queue x) h = cc
pad_no_queue (stage.Chain x) h = refl

-- under the same mask, as many as before are as many as it asks for
pub lists_like : {J O : Type 0} (pipe new : Pipeline J O) → new.mask ≡ pipe.mask → lists_in new.stage ≡ lists_in pipe.stage → ((w : ℕ) → shape_of new.stage w ≡ shape_of pipe.stage w) → HasLists pipe → HasLists new
lists_like pipe new m l s h q = l ∙ (h (sym (queue_shape new.stage pipe.stage s) ∙ q) ∙ ap lists_for (sym m))

full_lists : (lists : ℕ) → 1 ≤ lists → lists ≡ lists_for (2 ^ lists - 1)
full_lists lists h = sym (ap (λ n. max n 1) (ones-ones lists) ∙ max-eq_left h)

-- a pipeline that was just made, under a full mask
pub made_lists : (J O : Type 0) (form : Shape) → IsShape form → is_queue {J = J} {O = O} (new_stage form) ≡ false → lists_in {J = J} {O = O} (new_stage form) ≡ lists_for (2 ^ lists_of form - 1)
made_lists J O (shape.Pad lists) h q = full_lists lists h.0
made_lists J O (shape.Queue bound) h q = cc
made_lists J O (shape.Chain bound lists) h q = full_lists lists h.1.0
