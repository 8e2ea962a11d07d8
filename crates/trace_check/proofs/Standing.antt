-- What the checker keeps of a pipeline stands for its entries.
use Rattle.std.proofs.Common.{◌≡◌, ◌≢◌, ℕ, ◌+◌, ◌-◌, ◌^◌, ◌<◌, ◌≤◌, Bool, true, false, cond, List, [], ◌∷◌, ◌++◌, length, map, Option, Some, None, is_some, refl, sym, ◌∙◌, ap}
use Rattle.std.specs.Prelude.{◌==◌, slice_get}
use Rattle.std.specs.List.{filter, filter_map}
use Rattle.board.specs.declared.entry.Shape.{Shape}
use Rattle.board.specs.declared.entry.BoardEntry.{BoardEntry}
use Rattle.board.specs.Shapes.{is_serial, queue_born, width_born, IsShape}
use Rattle.board.specs.Entries.{birth, accepted_in, submissions, submitter_in, submitters, dequeued_in, dequeues, dequeued, taken_in, takers, finished_in, finished, has, tells, told, collected_in, collected, held_in, is_held, masked_in, mask, last_or, is_close, is_closed, is_share, is_shared}
use Rattle.board.proofs.Keeping.{birth_stays}
use Rattle.board.proofs.Lists.{filter_map-none}
use Rattle.board.proofs.Kept.{closed-same, collected-same, held-same, shared-same}
use Rattle.trace_check.specs.declared.pipe.Progress.{Progress}
use Rattle.trace_check.specs.declared.pipe.Progress.TheVariants.{Waits, Runs, Ended}
use Rattle.trace_check.specs.Pipes.{PipeState, has_submitted, ended_run}

-- how far the request of a number is
abbrev pub IsAt : {A : Type 0} → List (BoardEntry A) → ℕ → Option Progress → Type 0
IsAt es n None = (takers n es ≡ []) × (has n (finished es) ≡ false)
IsAt es n (Some Waits) = (takers n es ≡ []) × (has n (finished es) ≡ false)
IsAt es n (Some (Runs caller)) = (takers n es ≡ caller ∷ []) × (has n (finished es) ≡ false)
IsAt es n (Some Ended) = (takers n es ≢ []) × (has n (finished es) ≡ true)

-- its requests are what the entries say
pub record AreRequests {A : Type 0} (es : List (BoardEntry A)) (requests : List Progress) : Type 0 where
  pub count : length (submissions es) ≡ length requests
  pub each : (n : ℕ) → IsAt es n (slice_get requests n)

-- who made it, and how it is marked
pub record IsMarked {A : Type 0} (es : List (BoardEntry A)) (maker : ℕ) (shape : Shape) (collects bits : ℕ) (held shared closed : Bool) : Type 0 where
  pub born : birth es ≡ Some (maker, shape)
  pub shaped : IsShape shape
  pub place : collected es ≡ collects
  pub masking : mask es ≡ bits
  pub holding : is_held es ≡ held
  pub sharing : is_shared es ≡ shared
  pub closing : is_closed es ≡ closed

-- who submitted to it
abbrev pub AreSubmitters : {A : Type 0} → List (BoardEntry A) → List ℕ → Type 0
AreSubmitters es noted = (caller : ℕ) → has caller (submitters es) ≡ has_submitted noted caller

-- a queue's requests leave its line in order: from a number on all wait
abbrev pub IsLine : Shape → List Progress → ℕ → Type 0
IsLine shape requests gone = is_serial shape ≡ true → (n : ℕ) → gone ≤ n → n < length requests → slice_get requests n ≡ Some Waits

pub record IsPipe {A : Type 0} (es : List (BoardEntry A)) (s : PipeState) : Type 0 where
  pub requests : AreRequests es s.requests
  pub marks : IsMarked es s.maker s.shape s.collected s.mask s.held s.shared s.closed
  pub noted : AreSubmitters es s.submitters
  pub dequeuing : dequeued es ≡ s.dequeued
  pub finishing : length (finished es) ≡ s.finished
  pub telling : length (told es) ≡ s.told
  pub front : s.front ≡ ended_run s.requests
  pub within : s.dequeued ≤ length s.requests
  pub few : s.told ≤ s.dequeued + s.finished + s.front
  pub line : IsLine s.shape s.requests s.dequeued

-- What an entry doesn't say.
pub record AsksNothing {A : Type 0} (e : BoardEntry A) : Type 0 where
  pub accepts : accepted_in e ≡ None
  pub submits : submitter_in e ≡ None
  pub dequeues : dequeued_in e ≡ None
  pub takes : taken_in e ≡ None
  pub finishes : finished_in e ≡ None
  pub tells_nothing : (es : List (BoardEntry A)) → tells es e ≡ []

pub record MarksNothing {A : Type 0} (e : BoardEntry A) : Type 0 where
  pub collects : collected_in e ≡ None
  pub masks : masked_in e ≡ None
  pub holds : held_in e ≡ None
  pub shares : is_share e ≡ false
  pub closes : is_close e ≡ false

-- by which entries a pipeline's jobs are taken: of a queue by those that leave its line
abbrev pub taking : {A : Type 0} → Bool → BoardEntry A → Option (ℕ × ℕ)
taking serial = cond serial dequeued_in taken_in

abbrev pub takers_by : {A : Type 0} → Bool → ℕ → List (BoardEntry A) → List ℕ
takers_by serial n es = map (λ (t : ℕ × ℕ). t.1) (filter (λ (t : ℕ × ℕ). t.0 == n) (filter_map (taking serial) es))

takers_either : {A : Type 0} (serial : Bool) (n : ℕ) (es : List (BoardEntry A)) → map (λ (t : ℕ × ℕ). t.1) (filter (λ (t : ℕ × ℕ). t.0 == n) (cond serial (dequeues es) (filter_map taken_in es))) ≡ takers_by serial n es
takers_either true n es = refl
takers_either false n es = refl

pub takers_are : {A : Type 0} (es : List (BoardEntry A)) (maker : ℕ) (shape : Shape) (n : ℕ) → birth es ≡ Some (maker, shape) → takers n es ≡ takers_by (is_serial shape) n es
takers_are es maker shape n b =
    ap (λ o. map (λ (t : ℕ × ℕ). t.1) (filter (λ (t : ℕ × ℕ). t.0 == n) (cond (queue_born o) (dequeues es) (filter_map taken_in es)))) b ∙ takers_either (is_serial shape) n es

pub no_taking : {A : Type 0} (serial : Bool) (e : BoardEntry A) → dequeued_in e ≡ None → taken_in e ≡ None → taking serial e ≡ None
no_taking true e d t = d
no_taking false e d t = t

pub born_still : {A : Type 0} (es : List (BoardEntry A)) (e : BoardEntry A) (maker : ℕ) (shape : Shape) → birth es ≡ Some (maker, shape) → birth (es ++ e ∷ []) ≡ Some (maker, shape)
born_still es e maker shape b = birth_stays es e (ap is_some b) ∙ b

pub takers-same : {A : Type 0} (es : List (BoardEntry A)) (e : BoardEntry A) (maker : ℕ) (shape : Shape) (n : ℕ) → birth es ≡ Some (maker, shape) → taking (is_serial shape) e ≡ None → takers n (es ++ e ∷ []) ≡ takers n es
takers-same es e maker shape n b t =
    takers_are (es ++ e ∷ []) maker shape n (born_still es e maker shape b)
    ∙ (ap (λ ts. map (λ (u : ℕ × ℕ). u.1) (filter (λ (u : ℕ × ℕ). u.0 == n) ts)) (filter_map-none (taking (is_serial shape)) es e t)
    ∙ sym (takers_are es maker shape n b))

-- what stays of the request of a number
pub at_like : {A : Type 0} (es fs : List (BoardEntry A)) (m : ℕ) (p : Option Progress) → takers m fs ≡ takers m es → has m (finished fs) ≡ has m (finished es) → IsAt es m p → IsAt fs m p
at_like es fs m None t f k = (t ∙ k.0, f ∙ k.1)
at_like es fs m (Some Waits) t f k = (t ∙ k.0, f ∙ k.1)
at_like es fs m (Some (Runs caller)) t f k = (t ∙ k.0, f ∙ k.1)
at_like es fs m (Some Ended) t f k = (λ h. k.0 (sym t ∙ h), f ∙ k.1)

-- an entry that says nothing of requests
pub requests_stay : {A : Type 0} (es : List (BoardEntry A)) (e : BoardEntry A) (maker : ℕ) (shape : Shape) (rs : List Progress) → birth es ≡ Some (maker, shape) → accepted_in e ≡ None → taking (is_serial shape) e ≡ None → finished_in e ≡ None → AreRequests es rs → AreRequests (es ++ e ∷ []) rs
requests_stay es e maker shape rs b a t f k = record {
  count = ap length (filter_map-none accepted_in es e a) ∙ k.count;
  each = λ m. at_like es (es ++ e ∷ []) m (slice_get rs m) (takers-same es e maker shape m b t) (ap (has m) (filter_map-none finished_in es e f)) (k.each m);
}

-- an entry by which nobody submits
pub submitters_stay : {A : Type 0} (es : List (BoardEntry A)) (e : BoardEntry A) (noted : List ℕ) → submitter_in e ≡ None → AreSubmitters es noted → AreSubmitters (es ++ e ∷ []) noted
submitters_stay es e noted s k = λ caller. ap (has caller) (filter_map-none submitter_in es e s) ∙ k caller

pub mask_stays : {A : Type 0} (es : List (BoardEntry A)) (e : BoardEntry A) (maker : ℕ) (shape : Shape) → birth es ≡ Some (maker, shape) → masked_in e ≡ None → mask (es ++ e ∷ []) ≡ mask es
mask_stays es e maker shape b n =
    ap (λ o. last_or (2 ^ width_born o - 1) (filter_map masked_in (es ++ e ∷ []))) (birth_stays es e (ap is_some b))
    ∙ ap (last_or (2 ^ width_born (birth es) - 1)) (filter_map-none masked_in es e n)

-- an entry that marks nothing
pub marks_stay : {A : Type 0} (es : List (BoardEntry A)) (e : BoardEntry A) (maker : ℕ) (shape : Shape) (place bits : ℕ) (held shared closed : Bool) → MarksNothing e → IsMarked es maker shape place bits held shared closed → IsMarked (es ++ e ∷ []) maker shape place bits held shared closed
marks_stay es e maker shape place bits held shared closed n k = record {
  born = born_still es e maker shape k.born;
  shaped = k.shaped;
  place = collected-same es e n.collects ∙ k.place;
  masking = mask_stays es e maker shape k.born n.masks ∙ k.masking;
  holding = held-same es e n.holds ∙ k.holding;
  sharing = shared-same es e n.shares ∙ k.sharing;
  closing = closed-same es e n.closes ∙ k.closing;
}
