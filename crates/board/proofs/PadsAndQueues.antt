-- What a pad and a queue tell.
use Rattle.std.proofs.Common.{◌≡◌, ℕ, ◌+◌, ◌-◌, true, List, [], ◌∷◌, ◌++◌, Option, Some, None, is_some, refl, sym, ◌∙◌, ap, subst, arith, append-nil, append_assoc, zero-add}
use Rattle.std.specs.List.{filter_map}
use Rattle.std.specs.Arc.{arc_value}
use Rattle.std.proofs.lemmas.List.Elements.{filter_map-append}
use Rattle.board.specs.declared.entry.Shape.{Shape}
use Rattle.board.specs.declared.entry.Shape.TheVariants as shape
use Rattle.board.specs.declared.entry.BoardEntry.{BoardEntry}
use Rattle.board.specs.declared.entry.BoardEntry.TheVariants.{Born, Submit, Take, Finish, Enq, Deq, Done, Hold, Go, Collect, Close, Share, Mask, Shut}
use Rattle.board.specs.Shapes.{is_pad, is_serial, has_queue, has_lists, pad_born, queue_born, has_queue_born, lists_born}
use Rattle.board.specs.Entries.{Notice, birth, front, completes_from, tells, told}
use Rattle.board.specs.Legal.{IsRightFor}
use Rattle.board.specs.Order.{handed_in, AreRightForAfter, step_tells}
use Rattle.board.proofs.Fronts.{front_grows, completes_on}
use Rattle.board.proofs.Keeping.{birth_stays, born_some, maker_some, lists_no_queue, not_both, IsOrderly, orderly_start, orderly_step, front-same, front-accepted, told-more}
use Rattle.board.proofs.Starting.{pad_no_queue}

queue_no_pad : (b : Option (ℕ × Shape)) → queue_born b ≡ true → pad_born b ≡ true → ⊥
queue_no_pad None h g = cc
queue_no_pad (Some (maker, shape.Pad lists)) h g = cc
queue_no_pad (Some (maker, shape.Queue max)) h g = cc
queue_no_pad (Some (maker, shape.Chain max lists)) h g = cc

no_pad_with_queue : (b : Option (ℕ × Shape)) → has_queue_born b ≡ true → pad_born b ≡ true → ⊥
no_pad_with_queue b h g = not_both (has_queue_born b) h (pad_no_queue b g)

-- a pad tells the completions up to its front
abbrev TellsFront : {A : Type 0} → List (BoardEntry A) → Type 0
TellsFront es = pad_born (birth es) ≡ true → told es ≡ completes_from 0 (front es)

pad_quiet : {A : Type 0} (es : List (BoardEntry A)) (e : BoardEntry A) → TellsFront es → is_some (birth es) ≡ true → tells es e ≡ [] → front (es ++ e ∷ []) ≡ front es → TellsFront (es ++ e ∷ [])
pad_quiet es e o b t f = λ h. told-more es e ∙ (ap (λ ns. told es ++ ns) t ∙ (append-nil (told es) ∙ (o (sym (ap pad_born (birth_stays es e b)) ∙ h) ∙ ap (completes_from 0) (sym f))))

no_pad : {A : Type 0} (es : List (BoardEntry A)) (e : BoardEntry A) → is_some (birth es) ≡ true → (pad_born (birth es) ≡ true → ⊥) → TellsFront (es ++ e ∷ [])
no_pad es e b n = λ h. absurd (n (sym (ap pad_born (birth_stays es e b)) ∙ h))

pad_finish : {A : Type 0} (es : List (BoardEntry A)) (caller pipe number : ℕ) → TellsFront es → is_some (birth es) ≡ true → TellsFront (es ++ Finish caller pipe number ∷ [])
pad_finish {A} es caller pipe number o b = λ h.
    (let e : BoardEntry A = Finish caller pipe number in
    let g = front_grows es e in
    let k : ℕ = front (es ++ e ∷ []) - front es in
    let q : front es + k ≡ front (es ++ e ∷ []) = omega arith in
    let t = o (sym (ap pad_born (birth_stays es e b)) ∙ h) in
    told-more es e
    ∙ (ap (λ ns. ns ++ completes_from (front es) k) t
    ∙ (ap (λ m. completes_from 0 (front es) ++ completes_from m k) (sym (zero-add (front es)))
    ∙ (completes_on 0 (front es) k ∙ ap (completes_from 0) q))))

pad_born_first : {A : Type 0} (es : List (BoardEntry A)) (caller pipe : ℕ) (shape : Shape) → es ≡ [] → TellsFront (es ++ Born caller pipe shape ∷ [])
pad_born_first [] caller pipe shape n = λ h. refl
pad_born_first (x ∷ es) caller pipe shape n = cc

pad_step : {A : Type 0} (es : List (BoardEntry A)) (e : BoardEntry A) (given : List Notice) → IsOrderly es given → IsRightFor es e → TellsFront es → TellsFront (es ++ e ∷ [])
pad_step es (Born caller pipe shape) given v r o = pad_born_first es caller pipe shape r.1
pad_step es (Submit caller pipe number ask) given v r o =
    pad_quiet es (Submit caller pipe number ask) o (born_some is_pad (birth es) r.1.0) refl (front-accepted es (Submit caller pipe number ask) (arc_value ask) v.numbered refl refl)
pad_step es (Take caller pipe number) given v r o = pad_quiet es (Take caller pipe number) o (born_some has_lists (birth es) r.0.0) refl (front-same es (Take caller pipe number) refl refl)
pad_step es (Finish caller pipe number) given v r o = pad_finish es caller pipe number o (born_some has_lists (birth es) r.0)
pad_step es (Enq caller pipe ask backlog answer) given v r o = no_pad es (Enq caller pipe ask backlog answer) (born_some has_queue (birth es) r.1.0) (no_pad_with_queue (birth es) r.1.0)
pad_step es (Deq caller pipe number starting) given v r o = no_pad es (Deq caller pipe number starting) (born_some has_queue (birth es) r.0.0) (no_pad_with_queue (birth es) r.0.0)
pad_step es (Done caller pipe number) given v r o = no_pad es (Done caller pipe number) (born_some is_serial (birth es) r.0) (queue_no_pad (birth es) r.0)
pad_step es (Hold caller pipe) given v r o = pad_quiet es (Hold caller pipe) o (maker_some (birth es) caller r.0.1) refl (front-same es (Hold caller pipe) refl refl)
pad_step es (Go caller pipe) given v r o = pad_quiet es (Go caller pipe) o (maker_some (birth es) caller r.0.1) refl (front-same es (Go caller pipe) refl refl)
pad_step es (Collect caller pipe to) given v r o = pad_quiet es (Collect caller pipe to) o (maker_some (birth es) caller r.0.1) refl (front-same es (Collect caller pipe to) refl refl)
pad_step es (Close caller pipe) given v r o = pad_quiet es (Close caller pipe) o (maker_some (birth es) caller r.0.1) refl (front-same es (Close caller pipe) refl refl)
pad_step es (Share caller pipe) given v r o = pad_quiet es (Share caller pipe) o (maker_some (birth es) caller r.0.1) refl (front-same es (Share caller pipe) refl refl)
pad_step es (Mask caller pipe mask) given v r o = pad_quiet es (Mask caller pipe mask) o (maker_some (birth es) caller r.0.1) refl (front-same es (Mask caller pipe mask) refl refl)
pad_step es (Shut caller) given v r o = absurd r

pad_run : {A : Type 0} (before es : List (BoardEntry A)) (given : List Notice) → IsOrderly before given → TellsFront before → AreRightForAfter before es → TellsFront (before ++ es)
pad_run before [] given v o r = subst (λ xs. TellsFront xs) (sym (append-nil before)) o
pad_run before (e ∷ es) given v o r =
    subst (λ xs. TellsFront xs) (append_assoc before (e ∷ []) es) (pad_run (before ++ e ∷ []) es (given ++ handed_in before e) (orderly_step before e given v r.0) (pad_step before e given v r.0 o) r.1)

pub pad_tells : {A : Type 0} (es : List (BoardEntry A)) → AreRightForAfter [] es → pad_born (birth es) ≡ true → told es ≡ completes_from 0 (front es)
pad_tells es r = pad_run [] es [] orderly_start (λ h. refl) r

-- a queue tells what its steps tell
abbrev TellsSteps : {A : Type 0} → List (BoardEntry A) → Type 0
TellsSteps es = queue_born (birth es) ≡ true → told es ≡ filter_map step_tells es

queue_more : {A : Type 0} (es : List (BoardEntry A)) (e : BoardEntry A) → TellsSteps es → is_some (birth es) ≡ true → tells es e ≡ filter_map step_tells (e ∷ []) → TellsSteps (es ++ e ∷ [])
queue_more es e o b t = λ h. told-more es e ∙ (ap (λ ns. ns ++ tells es e) (o (sym (ap queue_born (birth_stays es e b)) ∙ h)) ∙ (ap (λ ns. filter_map step_tells es ++ ns) t ∙ sym (filter_map-append step_tells es (e ∷ []))))

queue_deq : {A : Type 0} (es : List (BoardEntry A)) (caller pipe number : ℕ) (starting : Option ℕ) → tells es (Deq caller pipe number starting) ≡ filter_map (step_tells {A = A}) (Deq caller pipe number starting ∷ [])
queue_deq es caller pipe number None = refl
queue_deq es caller pipe number (Some s) = refl

no_queue : {A : Type 0} (es : List (BoardEntry A)) (e : BoardEntry A) → lists_born (birth es) ≡ true → TellsSteps (es ++ e ∷ [])
no_queue es e l = λ h. absurd (not_both (queue_born (birth es)) (sym (ap queue_born (birth_stays es e (born_some has_lists (birth es) l))) ∙ h) (lists_no_queue (birth es) l))

queue_born_first : {A : Type 0} (es : List (BoardEntry A)) (caller pipe : ℕ) (shape : Shape) → es ≡ [] → TellsSteps (es ++ Born caller pipe shape ∷ [])
queue_born_first [] caller pipe shape n = λ h. refl
queue_born_first (x ∷ es) caller pipe shape n = cc

queue_step : {A : Type 0} (es : List (BoardEntry A)) (e : BoardEntry A) → IsRightFor es e → TellsSteps es → TellsSteps (es ++ e ∷ [])
queue_step es (Born caller pipe shape) r o = queue_born_first es caller pipe shape r.1
queue_step es (Submit caller pipe number ask) r o = queue_more es (Submit caller pipe number ask) o (born_some is_pad (birth es) r.1.0) refl
queue_step es (Take caller pipe number) r o = queue_more es (Take caller pipe number) o (born_some has_lists (birth es) r.0.0) refl
queue_step es (Finish caller pipe number) r o = no_queue es (Finish caller pipe number) r.0
queue_step es (Enq caller pipe ask backlog answer) r o = queue_more es (Enq caller pipe ask backlog answer) o (born_some has_queue (birth es) r.1.0) refl
queue_step es (Deq caller pipe number starting) r o = queue_more es (Deq caller pipe number starting) o (born_some has_queue (birth es) r.0.0) (queue_deq es caller pipe number starting)
queue_step es (Done caller pipe number) r o = queue_more es (Done caller pipe number) o (born_some is_serial (birth es) r.0) refl
queue_step es (Hold caller pipe) r o = queue_more es (Hold caller pipe) o (maker_some (birth es) caller r.0.1) refl
queue_step es (Go caller pipe) r o = queue_more es (Go caller pipe) o (maker_some (birth es) caller r.0.1) refl
queue_step es (Collect caller pipe to) r o = queue_more es (Collect caller pipe to) o (maker_some (birth es) caller r.0.1) refl
queue_step es (Close caller pipe) r o = queue_more es (Close caller pipe) o (maker_some (birth es) caller r.0.1) refl
queue_step es (Share caller pipe) r o = queue_more es (Share caller pipe) o (maker_some (birth es) caller r.0.1) refl
queue_step es (Mask caller pipe mask) r o = queue_more es (Mask caller pipe mask) o (maker_some (birth es) caller r.0.1) refl
queue_step es (Shut caller) r o = absurd r

queue_run : {A : Type 0} (before es : List (BoardEntry A)) → TellsSteps before → AreRightForAfter before es → TellsSteps (before ++ es)
queue_run before [] o r = subst (λ xs. TellsSteps xs) (sym (append-nil before)) o
queue_run before (e ∷ es) o r = subst (λ xs. TellsSteps xs) (append_assoc before (e ∷ []) es) (queue_run (before ++ e ∷ []) es (queue_step before e r.0 o) r.1)

pub queue_tells : {A : Type 0} (es : List (BoardEntry A)) → AreRightForAfter [] es → queue_born (birth es) ≡ true → told es ≡ filter_map step_tells es
queue_tells es r = queue_run [] es (λ h. refl) r
