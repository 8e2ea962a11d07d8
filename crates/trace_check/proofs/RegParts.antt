-- A registry's event is right where none of its four parts is missing.
use Rattle.std.proofs.Common.{◌≡◌, ℕ, ◌+◌, ◌*◌, Bool, true, false, cond, ◌&&◌, List, [], ◌∷◌, length, Option, Some, None, is_some, refl, sym, ◌∙◌, ap, subst, arith}
use Rattle.std.specs.Prelude.{◌==◌, nat_le, IsSome}
use Rattle.std.specs.List.{list_all, list_any}
use Rattle.std.proofs.lemmas.Bool.{and_parts, eqb-true, eq-eqb}
use Rattle.kc_base.specs.declared.error_numbers.Errno.TheVariants.{EAGAIN, EEXIST, ENFILE}
use Rattle.alg_registry.specs.declared.spec.Wrap.{Wrap}
use Rattle.alg_registry.specs.declared.spec.Wrap.TheVariants.{Plain, Pcrypt, Cryptd}
use Rattle.alg_registry.specs.declared.spec.Spec.{Spec}
use Rattle.alg_registry.specs.declared.row.Row.{Row}
use Rattle.alg_registry.specs.declared.entry.Looked.{Looked}
use Rattle.alg_registry.specs.declared.entry.Looked.TheVariants.{Found, Pending, Began, Absent}
use Rattle.alg_registry.specs.declared.entry.Enlisted.{Enlisted}
use Rattle.alg_registry.specs.declared.entry.Enlisted.TheVariants.{Made, Exist, NFile}
use Rattle.alg_registry.specs.declared.entry.EndAnswer.{EndAnswer}
use Rattle.alg_registry.specs.declared.entry.EndAnswer.TheVariants.{Built, Joined, Failed, NoMemory}
use Rattle.alg_registry.specs.declared.entry.RegEntry.{RegEntry}
use Rattle.alg_registry.specs.declared.entry.RegEntry.TheVariants.{Enlist, Look, Claim, End, Waited, Unlist, Get, Put, Refs}
use Rattle.alg_registry.specs.declared.entry.RegEntry.TheVariants as reg
use Rattle.alg_registry.specs.Rows.{rows_of, larvals_of, listed_at}
use Rattle.alg_registry.specs.Answers.{look_answer, enlist_answer, built_answer, joined_or_built, driver_place, clashes_with, held_count}
use Rattle.alg_registry.specs.Legal.{claimer, MayEnd, IsRight}
use Rattle.alg_registry.proofs.Existing.{built_id}
use Rattle.trace_check.specs.declared.reason.Reason.{Reason}
use Rattle.trace_check.specs.declared.reason.Reason.TheVariants.{State, Caller, Number, Answer}
use Rattle.trace_text.specs.Trace.{has_text, is_unwrapped, has_words}
use Rattle.trace_check.specs.RegReasons.{HasState, HasCaller, SameFound, SameMade, SameUnlisted, IsEndNumbered, HasNumber, made_word, found_word, builds, IsEndAnswered, HasAnswer, IsWrong}

abbrev pub HasAll : List RegEntry → RegEntry → Type 0
HasAll h e = HasState h e × HasCaller h e × HasNumber h e × HasAnswer h e

-- An answer is known by its word and its number.
made_same : (a : Enlisted) → SameMade a a
made_same (Made id) = refl
made_same Exist = tt
made_same NFile = tt

-- the second and third bytes of a word tell which it is
abbrev pub second : List ℕ → ℕ
second (a ∷ b ∷ c ∷ l) = 256 * b + c
second l = 0

pub apart_at : (v w : List ℕ) → v ≡ w → (second v == second w) ≡ false → ⊥
apart_at v w e f = (let g : (second v == second w) ≡ true = ap (λ u. second u == second w) e ∙ eq-eqb (second w) (second w) refl in cc)

made_known : (a b : Enlisted) → SameMade a b → made_word a ≡ made_word b → a ≡ b
made_known (Made id) (Made right) n w = ap Made n
made_known (Made id) Exist n w = absurd (apart_at _ _ w refl)
made_known (Made id) NFile n w = absurd (apart_at _ _ w refl)
made_known Exist (Made right) n w = absurd (apart_at _ _ w refl)
made_known Exist Exist n w = refl
made_known Exist NFile n w = absurd (apart_at _ _ w refl)
made_known NFile (Made right) n w = absurd (apart_at _ _ w refl)
made_known NFile Exist n w = absurd (apart_at _ _ w refl)
made_known NFile NFile n w = refl

found_same : (a : Looked) → SameFound a a
found_same (Found id) = refl
found_same (Pending larval) = refl
found_same (Began larval) = refl
found_same Absent = tt

unlisted_same : (a : Option ℕ) → SameUnlisted a a
unlisted_same (Some id) = refl
unlisted_same None = tt

unlisted_known : (a b : Option ℕ) → SameUnlisted a b → is_some a ≡ is_some b → a ≡ b
unlisted_known (Some id) (Some right) n w = ap Some n
unlisted_known (Some id) None n w = cc
unlisted_known None (Some right) n w = cc
unlisted_known None None n w = refl

found_known : (a b : Looked) → SameFound a b → found_word a ≡ found_word b → a ≡ b
found_known (Found id) (Found right) n w = ap Found n
found_known (Found id) (Pending right) n w = absurd (apart_at _ _ w refl)
found_known (Found id) (Began right) n w = absurd (apart_at _ _ w refl)
found_known (Found id) Absent n w = absurd (apart_at _ _ w refl)
found_known (Pending larval) (Found right) n w = absurd (apart_at _ _ w refl)
found_known (Pending larval) (Pending right) n w = ap Pending n
found_known (Pending larval) (Began right) n w = absurd (apart_at _ _ w refl)
found_known (Pending larval) Absent n w = absurd (apart_at _ _ w refl)
found_known (Began larval) (Found right) n w = absurd (apart_at _ _ w refl)
found_known (Began larval) (Pending right) n w = absurd (apart_at _ _ w refl)
found_known (Began larval) (Began right) n w = ap Began n
found_known (Began larval) Absent n w = absurd (apart_at _ _ w refl)
found_known Absent (Found right) n w = absurd (apart_at _ _ w refl)
found_known Absent (Pending right) n w = absurd (apart_at _ _ w refl)
found_known Absent (Began right) n w = absurd (apart_at _ _ w refl)
found_known Absent Absent n w = refl

-- where an instance is built, it has the next id
by_place : (rows : List Row) (spec : Spec) (c d : Bool) → builds (cond c (Failed EEXIST) (cond d (Failed ENFILE) (Built (length rows) spec))) ≡ true → cond c (Failed EEXIST) (cond d (Failed ENFILE) (Built (length rows) spec)) ≡ Built (length rows) spec
by_place rows spec true d h = cc
by_place rows spec false true h = cc
by_place rows spec false false h = refl

by_driver : (rows : List Row) (spec : Spec) (o : Option ℕ) → builds (joined_or_built rows spec o) ≡ true → joined_or_built rows spec o ≡ Built (length rows) spec
by_driver rows spec (Some id) h = cc
by_driver rows spec None h = by_place rows spec (list_any (clashes_with spec) rows) (nat_le 4096 (held_count rows)) h

by_children : (rows : List Row) (spec : Spec) (b : Bool) → builds (cond b (joined_or_built rows spec (driver_place rows spec.driver)) (Failed EAGAIN)) ≡ true → cond b (joined_or_built rows spec (driver_place rows spec.driver)) (Failed EAGAIN) ≡ Built (length rows) spec
by_children rows spec true h = by_driver rows spec (driver_place rows spec.driver) h
by_children rows spec false h = cc

pub built_known : (rows : List Row) (spec : Spec) → builds (built_answer rows spec) ≡ true → built_answer rows spec ≡ Built (length rows) spec
built_known rows spec h = by_children rows spec (list_all (listed_at rows) spec.below) h

ends_right : (h : List RegEntry) (answer : EndAnswer) → IsEndNumbered h answer → IsEndAnswered h answer → MayEnd h answer
ends_right h (Built id spec) n a = ap (λ i. Built i spec) n ∙ sym (built_known (rows_of h) spec a)
ends_right h (Joined id below) n a = (a, n)
ends_right h (Failed errno) n a = tt
ends_right h NoMemory n a = tt

end_numbered : (h : List RegEntry) (answer : EndAnswer) → MayEnd h answer → IsEndNumbered h answer
end_numbered h (Built id spec) m = built_id (rows_of h) spec spec id m
end_numbered h (Joined id below) m = m.1
end_numbered h (Failed errno) m = tt
end_numbered h NoMemory m = tt

end_answered : (h : List RegEntry) (answer : EndAnswer) → MayEnd h answer → IsEndAnswered h answer
end_answered h (Built id spec) m = ap builds (sym m)
end_answered h (Joined id below) m = m.0
end_answered h (Failed errno) m = tt
end_answered h NoMemory m = tt

some_claimer : (o : Option ℕ) (caller : ℕ) → o ≡ Some caller → IsSome o
some_claimer o caller e = subst IsSome (sym e) refl

pub no_ids : (ids : List ℕ) → (length ids == 0) ≡ true → ids ≡ []
no_ids [] h = refl
no_ids (id ∷ ids) h = absurd (let e = eqb-true (length (id ∷ ids)) 0 h in omega arith)

pub unwrapped : (wrap : Wrap) → is_unwrapped wrap ≡ true → wrap ≡ Plain
unwrapped Plain h = refl
unwrapped Pcrypt h = cc
unwrapped Cryptd h = cc

-- what is right lacks nothing
pub right_has_all : (h : List RegEntry) (e : RegEntry) → IsRight h e → HasAll h e
right_has_all h (Enlist caller spec answer) r = (tt, r.0, subst (SameMade answer) r.3 (made_same answer), ap made_word r.3)
right_has_all h (Look caller text plain answer) r = (tt, r.0, subst (SameFound answer) r.1 (found_same answer), ap found_word r.1)
right_has_all h (Claim caller larval) r = (r, tt, tt, tt)
right_has_all h (End caller larval answer) r = ((some_claimer (claimer h larval) caller r.0, r.1), r.0, end_numbered h answer r.2, end_answered h answer r.2)
right_has_all h (Waited caller larval) r = (r, tt, tt, tt)
right_has_all h (Unlist caller driver answer) r = (tt, r.0, subst (SameUnlisted answer) r.1 (unlisted_same answer), ap is_some r.1)
right_has_all h (Get caller id ok) r = (tt, r.0, tt, r.1)
right_has_all h (Put caller id) r = ((caller, r.1), r, tt, tt)
right_has_all h (Refs caller driver) r = (tt, r, tt, tt)
right_has_all h (reg.List caller) r = (tt, r, tt, tt)

-- and what lacks nothing is right, where it has a line
pub all_is_right : (h : List RegEntry) (e : RegEntry) → has_text e ≡ true → HasAll h e → IsRight h e
all_is_right h (Enlist caller spec answer) t (s, c, n, a) =
    let p = and_parts (has_words spec && (length spec.below == 0)) (is_unwrapped spec.wrap) t in
    (c, no_ids spec.below (and_parts (has_words spec) (length spec.below == 0) p.0).1, unwrapped spec.wrap p.1, made_known answer (enlist_answer (rows_of h) spec) n a)
all_is_right h (Look caller text plain answer) t (s, c, n, a) = (c, found_known answer (look_answer (rows_of h) (larvals_of h) text plain) n a)
all_is_right h (Claim caller larval) t (s, c, n, a) = s
all_is_right h (End caller larval answer) t (s, c, n, a) = (c, s.1, ends_right h answer n a)
all_is_right h (Waited caller larval) t (s, c, n, a) = s
all_is_right h (Unlist caller driver answer) t (s, c, n, a) = (c, unlisted_known answer (driver_place (rows_of h) driver) n a)
all_is_right h (Get caller id ok) t (s, c, n, a) = (c, a)
all_is_right h (Put caller id) t (s, c, n, a) = c
all_is_right h (Refs caller driver) t (s, c, n, a) = c
all_is_right h (reg.List caller) t (s, c, n, a) = c

-- no event is both
pub wrong_not_right : (h : List RegEntry) (e : RegEntry) (r : Reason) → IsWrong h e r → IsRight h e → ⊥
wrong_not_right h e State w r = w (right_has_all h e r).0
wrong_not_right h e Caller w r = w.1 (right_has_all h e r).1
wrong_not_right h e Number w r = w.2 (right_has_all h e r).2
wrong_not_right h e Answer w r = w.3 (right_has_all h e r).3
