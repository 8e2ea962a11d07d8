-- Who may take the jobs of a pipeline, as it is kept.
use Rattle.std.proofs.Common.{◌≡◌, ℕ, Bool, true, false, List, Option, Some, refl, sym, ◌∙◌, ap, subst, inl, inr, ◌⊎◌}
use Rattle.board.specs.declared.entry.Shape.{Shape}
use Rattle.board.specs.declared.entry.BoardEntry.{BoardEntry}
use Rattle.board.specs.declared.pipeline.Pipeline.{Pipeline}
use Rattle.board.specs.declared.stage.Stage.{Stage}
use Rattle.board.specs.declared.stage.Stage.TheVariants as stage
use Rattle.board.specs.Shapes.{is_serial, queue_born, width_born}
use Rattle.board.specs.Entries.{birth, mask, submitters, has, maker_is, IsMaker, IsMasked, MayTake}
use Rattle.board.specs.Stages.{is_queue}
use Rattle.board.specs.RunQueue.{Admits}
use Rattle.board.specs.Kept.{shape_of, IsKeptPipe}

-- ---- the shape of a pipeline is that of its stage

serial_shape : {J O : Type 0} (s : Stage J O) (lists : ℕ) → is_serial (shape_of s lists) ≡ is_queue s
serial_shape (stage.Pad pad) lists = refl
serial_shape (stage.Queue server) lists = refl
serial_shape (stage.Chain c) lists = refl

pub queue_shape : {J O : Type 0} (s t : Stage J O) → ((lists : ℕ) → shape_of s lists ≡ shape_of t lists) → is_queue s ≡ is_queue t
queue_shape s t e = sym (serial_shape s 0) ∙ (ap is_serial (e 0) ∙ serial_shape t 0)

pub queue_kept : {J O A : Type 0} (asked : J → A) (meaning : A → O) (pipe : Pipeline J O) (es : List (BoardEntry A)) → IsKeptPipe asked meaning pipe es → queue_born (birth es) ≡ is_queue pipe.stage
queue_kept asked meaning pipe es k = ap queue_born k.born ∙ serial_shape pipe.stage (width_born (birth es))

-- ---- who may take, as the pipeline keeps it

taking_cases : {J O A : Type 0} (pipe : Pipeline J O) (es : List (BoardEntry A)) (caller : ℕ) → birth es ≡ Some (pipe.maker, shape_of pipe.stage (width_born (birth es))) → mask es ≡ pipe.mask → IsMaker es caller ⊎ (has caller pipe.submitters.items ≡ has caller (submitters es))
    → (pipe.maker ≡ caller) ⊎ ((has caller pipe.submitters.items ≡ true) ⊎ IsMasked pipe.mask caller) → MayTake es caller
taking_cases pipe es caller b m s (inl maker) = inl (subst (λ x. maker_is x caller) (sym b) maker)
taking_cases pipe es caller b m (inl maker) (inr (inl h)) = inl maker
taking_cases pipe es caller b m (inr same) (inr (inl h)) = inr (inl (sym same ∙ h))
taking_cases pipe es caller b m s (inr (inr masked)) = inr (inr (subst (λ x. IsMasked x caller) (sym m) masked))

not_queue : {J O : Type 0} (pipe : Pipeline J O) (caller : ℕ) → is_queue pipe.stage ≡ false → Admits pipe caller → (pipe.maker ≡ caller) ⊎ ((has caller pipe.submitters.items ≡ true) ⊎ IsMasked pipe.mask caller)
not_queue pipe caller q (inl h) = cc
not_queue pipe caller q (inr h) = h

pub may_take : {J O A : Type 0} (asked : J → A) (meaning : A → O) (pipe : Pipeline J O) (es : List (BoardEntry A)) (caller : ℕ) → IsKeptPipe asked meaning pipe es → is_queue pipe.stage ≡ false → Admits pipe caller → MayTake es caller
may_take asked meaning pipe es caller k q a = taking_cases pipe es caller k.born k.masking (k.submitting q caller) (not_queue pipe caller q a)

maker_of : (maker caller : ℕ) (b : Option (ℕ × Shape)) (shape : Shape) → b ≡ Some (maker, shape) → maker_is b caller → maker ≡ caller
maker_of maker caller b shape e h = subst (λ x. maker_is x caller) e h

admits_cases : {J O A : Type 0} (pipe : Pipeline J O) (es : List (BoardEntry A)) (caller : ℕ) → birth es ≡ Some (pipe.maker, shape_of pipe.stage (width_born (birth es))) → mask es ≡ pipe.mask → IsMaker es caller ⊎ (has caller pipe.submitters.items ≡ has caller (submitters es)) → MayTake es caller → Admits pipe caller
admits_cases pipe es caller b m s (inl maker) = inr (inl (maker_of pipe.maker caller (birth es) (shape_of pipe.stage (width_born (birth es))) b maker))
admits_cases pipe es caller b m (inl maker) (inr (inl h)) = inr (inl (maker_of pipe.maker caller (birth es) (shape_of pipe.stage (width_born (birth es))) b maker))
admits_cases pipe es caller b m (inr same) (inr (inl h)) = inr (inr (inl (same ∙ h)))
admits_cases pipe es caller b m s (inr (inr masked)) = inr (inr (inr (subst (λ x. IsMasked x caller) m masked)))

pub admitted : {J O A : Type 0} (asked : J → A) (meaning : A → O) (pipe : Pipeline J O) (es : List (BoardEntry A)) (caller : ℕ) → IsKeptPipe asked meaning pipe es → MayTake es caller → Admits pipe caller
admitted asked meaning pipe es caller k h = by_queue (is_queue pipe.stage) refl
  where
    by_queue : (b : Bool) → is_queue pipe.stage ≡ b → Admits pipe caller
    by_queue true q = inl q
    by_queue false q = admits_cases pipe es caller k.born k.masking (k.submitting q caller) h
