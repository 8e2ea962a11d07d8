-- A registry's events are checked in order.
use Rattle.std.proofs.Common.{◌≡◌, ℕ, ◌+◌, ◌<◌, ◌^◌, Bool, true, false, List, [], ◌∷◌, length, map, take, get_or, Some, None, refl, sym, ◌∙◌, ap, subst, arith}
use Rattle.std.specs.Prelude.{All, MatchOption}
use Rattle.std.specs.List.{list_all}
use Rattle.std.proofs.lemmas.List.{take_more, length-take, get_or-map, length-map}
use Rattle.std.proofs.lemmas.List.Elements.{All-map}
use Rattle.std.proofs.lemmas.List.Folds.{list_all_at}
use Rattle.std.proofs.lemmas.Bool.{and_parts, and_from}
use Rattle.std.proofs.lemmas.Option.{slice_get-get_or}
use Rattle.alg_registry.specs.declared.row.Row.{Row}
use Rattle.alg_registry.specs.declared.row.Larval.{Larval}
use Rattle.alg_registry.specs.declared.entry.RegEntry.{RegEntry}
use Rattle.alg_registry.specs.Rows.{rows_of}
use Rattle.alg_registry.specs.Legal.{IsRight}
use Rattle.alg_registry.proofs.Fresh.{few-rows_of}
use Rattle.trace_text.specs.Trace.{has_text, fits, is_event}
use Rattle.trace_check.specs.declared.reason.Reason.{Reason}
use Rattle.trace_check.specs.declared.register.Reference.{Reference}
use Rattle.trace_check.specs.declared.register.Entry.{Entry}
use Rattle.trace_check.specs.RegReasons.{IsFirstWrong, IsWrong}
use Rattle.trace_check.specs.Registers.{row_of, unreferred, has_state, has_caller, has_number, has_answer, judged, table_after, larvals_after, references_after}
use Rattle.trace_check.proofs.RegParts.{all_is_right}
use Rattle.trace_check.proofs.RegJudging.{IsRegister, judged_is}
use Rattle.trace_check.proofs.RegStepping.{register_step}
use Rattle.trace_check.specs.Pipes.{reason_of}

none_parts : (a b c d : Bool) → reason_of a b c d ≡ None → (a ≡ true) × (b ≡ true)
none_parts true true c d h = (refl, refl)
none_parts false b c d h = cc
none_parts true false c d h = cc

-- each event has a line
line_at : (h : List RegEntry) (k : ℕ) (d : RegEntry) → k < length h → list_all has_text h ≡ true → has_text (get_or h k d) ≡ true
line_at h k d within t = by_text (has_text (get_or h k d)) refl
  where
    by_text : (b : Bool) → has_text (get_or h k d) ≡ b → has_text (get_or h k d) ≡ true
    by_text true e = e
    by_text false e = absurd (let f : list_all has_text h ≡ false = list_all_at has_text h k d within e in cc)

pub register_goes_on : (h : List RegEntry) (k : ℕ) (e : RegEntry) (table table' : List Row) (larvals larvals' : List Larval) (references references' : List Reference)
    → list_all has_text h ≡ true → k < length h → e ≡ get_or h k e → judged table larvals references e ≡ None
    → table' ≡ table_after table e → larvals' ≡ larvals_after larvals e → references' ≡ references_after references e
    → IsRegister (take k h) table larvals references → IsRegister (take (k + 1) h) table' larvals' references'
register_goes_on h k e table table' larvals larvals' references references' text within here j t l r s =
    let p = none_parts (has_state larvals references e) (has_caller larvals references e) (has_number table larvals e) (has_answer table larvals e) j in
    let right : IsRight (take k h) e = all_is_right (take k h) e (subst (λ x. has_text x ≡ true) (sym here) (line_at h k e within text)) (judged_is (take k h) table larvals references e None s j) in
    rw (take_more h k e within, ← here, t, l, r) (register_step (take k h) table larvals references e right p.0 p.1 s)

pub wrong_entry_at : (h : List RegEntry) (k : ℕ) (e : RegEntry) (r : Reason) (table : List Row) (larvals : List Larval) (references : List Reference)
    → k < length h → e ≡ get_or h k e → judged table larvals references e ≡ Some r → IsRegister (take k h) table larvals references → IsFirstWrong h (Some (k, r))
wrong_entry_at h k e r table larvals references within here j s =
    (s.legal, subst (λ o. MatchOption o ⊥ (λ x. IsWrong (take k h) x r)) (sym (slice_get-get_or h k e within ∙ ap Some (sym here))) (judged_is (take k h) table larvals references e (Some r) s j))

-- No entry has more references than there were events.
few_at : (entries : List Entry) (table : List Row) → map row_of entries ≡ table → All (λ (row : Row). row.taken < 2 ^ 63) table → All (λ (entry : Entry). entry.taken < 2 ^ 63) entries
few_at entries table is all = λ k d within.
    subst (λ (row : Row). row.taken < 2 ^ 63) (get_or-map row_of entries k d (row_of d) within)
    (subst (λ rows. All (λ (row : Row). row.taken < 2 ^ 63) rows) (sym is) all k (row_of d) (let l = length-map entries row_of in omega arith))

pub few_taken : (h : List RegEntry) (k : ℕ) (entries : List Entry) (larvals : List Larval) (references : List Reference) → length h < 2 ^ 63 → IsRegister (take k h) (map row_of entries) larvals references → All (λ entry. entry.taken < 2 ^ 63) entries
few_taken h k entries larvals references short s =
    few_at entries (map unreferred (rows_of (take k h))) s.marks (All-map (λ (row : Row). row.taken < 2 ^ 63) unreferred (rows_of (take k h)) (few-rows_of (2 ^ 63) (take k h) (let l = length-take k h in omega arith)))

-- what has a line and fits has a line
pub events_have_text : (h : List RegEntry) → list_all is_event h ≡ true → list_all has_text h ≡ true
events_have_text [] t = refl
events_have_text (e ∷ h) t = (let p = and_parts (is_event e) (list_all is_event h) t in and_from (has_text e) (list_all has_text h) (and_parts (has_text e) (fits e) p.0).0 (events_have_text h p.1))
