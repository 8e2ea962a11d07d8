-- One entry of building more, in each phase of a look.
use Rattle.std.proofs.Common.{◌≡◌, ◌≢◌, ℕ, zero, suc, ◌+◌, ◌<◌, ◌≤◌, ◌⊎◌, inl, inr, true, false, cond, List, [], ◌∷◌, ◌++◌, length, refl, ap, sym, ◌∙◌, subst, arith, Option, Some, None, Result, Ok, Err}
use Rattle.std.specs.Prelude.{slice_get}
use Rattle.std.specs.List.{cons_option}
use Rattle.std.specs.Option.{option_or, option_and_then}
use Rattle.kc_base.specs.declared.error_numbers.Errno.{Errno}
use Rattle.alg_registry.specs.declared.entry.Ended.{Ended}
use Rattle.alg_registry.specs.declared.entry.Looked.{Looked}
use Rattle.alg_registry.specs.declared.entry.Looked.TheVariants.{Began}
use Rattle.alg_registry.specs.declared.entry.EndAnswer.{EndAnswer}
use Rattle.alg_registry.specs.declared.entry.EndAnswer.TheVariants.{NoMemory}
use Rattle.alg_registry.specs.declared.entry.RegEntry.{RegEntry}
use Rattle.alg_registry.specs.declared.entry.RegEntry.TheVariants.{Enlist, Look, Claim, End, Waited, Unlist, Get, Put, Refs}
use Rattle.alg_registry.specs.declared.entry.RegEntry.TheVariants as entry
use Rattle.alg_registry.specs.Rows.{texts, begun_by, registered_by, ends, end_of}
use Rattle.alg_registry.specs.Legal.{ended_as, LegalReg, IsRight}
use Rattle.alg_registry.specs.Made.{Templates, IsMade, building, last_of, looks_for, look_for, if_of, outcome, outcomes, outcome_of, next_child, next_of, made_answer}
use Rattle.alg_registry.proofs.Steps.{IsQuiet}
use Rattle.alg_registry.proofs.Stack.{texts-push, length-texts, ended-push, ended-stays, ended-new, claimed-there, looks-push, looks-fresh, same, unequal}
use Rattle.templates.proofs.ChildLooks.{get_within}
use Rattle.templates.proofs.Looks.{at_last}
use Rattle.sequential_model.specs.Registry.{PlainRegistry, LookedUp, looked, ended as ended_by}
use Rattle.sequential_model.proofs.Agreeing.{is_building}
use Rattle.sequential_model.proofs.Building.{last_built, pending_open}
use Rattle.sequential_model.proofs.Chains.{Frame, with_child, resumed, finishing, Waits, Chained, Among, AreHeavier, text_stays, unended_stays, outcome_stays, outcomes_stay, looks_stay, chained_stays}
use Rattle.sequential_model.proofs.Knowing.{known_quiet, known_ended}
use Rattle.sequential_model.proofs.Lookups.{added, outcomes_added, with_child_is, finishing_next, finishing_end, ended_comes}
use Rattle.sequential_model.proofs.Phases.{Going, Over, Phase, Goes, Ends}

-- ---- entries

pub no_end : (g : List RegEntry) (e : RegEntry) (n : ℕ) → ended_as (g ++ e ∷ []) n ≡ None → ended_as g n ≡ None
no_end g e n none = by (ended_as g n) refl
  where
    by : (o : Option Ended) → ended_as g n ≡ o → ended_as g n ≡ None
    by None q = q
    by (Some x) q = absurd (let f : None ≡ Some x = sym none ∙ ended-stays g e n x q in cc)

pub no_more : (g : List RegEntry) (e : RegEntry) (n : ℕ) → begun_by e ≡ None → n < length (texts (g ++ e ∷ [])) → n < length (texts g)
no_more g e n none lt = omega (arith, lt, length-texts g e, ap (λ (o : Option (List ℕ)). length (cons_option o [])) none)

pub none_some : {A : Type 0} (o : Option A) (x : A) → o ≡ None → o ≡ Some x → ⊥
none_some o x p q = let f : None ≡ Some x = sym p ∙ q in cc

-- it registers nothing, begins nothing and ends nothing
pub record IsAside (e : RegEntry) : Type 0 where
  pub registers : registered_by e ≡ None
  pub begins : begun_by e ≡ None
  pub quiet : (id : ℕ) → IsQuiet e id
  pub unending : (n : ℕ) → ends n e ≡ None

-- ---- nothing is pending

pub over_aside : (g : List RegEntry) (e : RegEntry) (answer : Looked) (came : LookedUp) → LegalReg g → IsAside e → Over g answer came → Over (g ++ e ∷ []) answer came
over_aside g e answer came legal aside over = record {
  registry = over.registry;
  is = known_quiet over.registry g e over.is legal aside.registers aside.quiet aside.unending;
  result = over.result;
  same = over.same;
  comes = outcome_stays g e answer over.result over.comes;
  none = λ n lt undone. over.none n (no_more g e n aside.begins lt) (no_end g e n undone);
}

-- who builds nothing looks for no child
unbuilding : (t : Templates) (g : List RegEntry) (caller : ℕ) (x : List ℕ) → LegalReg g → ((n : ℕ) → n < length (texts g) → ended_as g n ≡ None → ⊥) → next_child t g caller ≡ Some x → ⊥
unbuilding t g caller x legal none e = by (last_of (building g caller)) refl e
  where
    by : (o : Option ℕ) → last_of (building g caller) ≡ o
        → option_and_then (λ larval. option_and_then (λ text. next_of g (looks_for larval [] g) (t.children text)) (slice_get (texts g) larval)) o ≡ Some x → ⊥
    by None q f = cc
    by (Some m) q f = let b = last_built g caller m legal q in none m (claimed-there g m caller b.claimed) b.unended

pub over_step : (t : Templates) (g : List RegEntry) (e : RegEntry) (answer : Looked) (came : LookedUp) → LegalReg g → IsRight g e → IsMade t g e → is_building e ≡ true → Over g answer came → Over (g ++ e ∷ []) answer came
over_step t g (Look caller x true a) answer came legal right made work over = absurd (unbuilding t g caller x legal over.none made.1)
over_step t g (Look caller x false a) answer came legal right made work over = absurd cc
over_step t g (Claim caller m) answer came legal right made work over = let p = pending_open g m right.0 in absurd (over.none m p.0 p.1)
over_step t g (End caller m a) answer came legal right made work over = absurd (over.none m (claimed-there g m caller right.0) right.1)
over_step t g (Waited caller m) answer came legal right made work over =
    over_aside g (Waited caller m) answer came legal (record { registers = refl; begins = refl; quiet = λ id. record { unlists_not = refl; gets_not = refl; puts_not = refl }; unending = λ n. refl }) over
over_step t g (Enlist caller spec a) answer came legal right made work over = absurd cc
over_step t g (Unlist caller driver a) answer came legal right made work over = absurd cc
over_step t g (Get caller id ok) answer came legal right made work over = absurd cc
over_step t g (Put caller id) answer came legal right made work over = absurd cc
over_step t g (Refs caller driver) answer came legal right made work over = absurd cc
over_step t g (entry.List caller) answer came legal right made work over = absurd cc

-- ---- an entry by which nothing begins or ends

-- its larval's looks came to this, and the plain builder goes on so
going_aside : (t : Templates) (weigh : List ℕ → ℕ) (g : List RegEntry) (e : RegEntry) (first : ℕ) (came : LookedUp) (now : Result (List ℕ) Errno) → LegalReg g → IsAside e → (s : Going t weigh g first came)
    → ((n : ℕ) → n < s.larval → if_of n (look_for g e) ≡ None) → outcomes (g ++ e ∷ []) (looks_for s.larval [] (g ++ e ∷ [])) ≡ Some now
    → finishing t s.levels s.text s.registry s.sofar ≡ finishing t s.levels s.text s.registry now → Going t weigh (g ++ e ∷ []) first came
going_aside t weigh g e first came now legal aside s unlooked comes goes = record {
  registry = s.registry;
  is = known_quiet s.registry g e s.is legal aside.registers aside.quiet aside.unending;
  larval = s.larval;
  text = s.text;
  levels = s.levels;
  sofar = now;
  begun = text_stays g e s.larval s.text s.begun;
  unended = unended_stays g e s.larval (get_within (texts g) s.larval s.text s.begun) s.unended (aside.unending s.larval);
  named = s.named;
  light = s.light;
  comes = comes;
  frames = s.frames;
  chained = chained_stays t weigh g e first s.larval s.frames s.chained (λ n lt. aside.unending n) unlooked;
  heavier = s.heavier;
  only = λ n lt undone. s.only n (no_more g e n aside.begins lt) (no_end g e n undone);
  same = s.same ∙ ap (λ c. resumed t s.frames c) goes;
}

pub going_left : (t : Templates) (weigh : List ℕ → ℕ) (g : List RegEntry) (e : RegEntry) (first : ℕ) (came : LookedUp) → LegalReg g → IsAside e → ((n : ℕ) → if_of n (look_for g e) ≡ None) → Going t weigh g first came → Going t weigh (g ++ e ∷ []) first came
going_left t weigh g e first came legal aside unlooked s =
    going_aside t weigh g e first came s.sofar legal aside s (λ n lt. unlooked n)
    (ap (λ ls. outcomes (g ++ e ∷ []) ls) (looks_stay g e s.larval (unlooked s.larval)) ∙ outcomes_stay g e (looks_for s.larval [] g) s.sofar s.comes) refl

-- ---- the larval ends

-- none waits for it: it was the look's own
ends_last : (t : Templates) (weigh : List ℕ → ℕ) (g : List RegEntry) (caller first : ℕ) (a : EndAnswer) (answer : Looked) (came : LookedUp) → LegalReg g → answer ≡ Began first → (s : Going t weigh g first came) → s.frames ≡ []
    → a ≢ NoMemory → made_answer t g s.larval ≡ Some a → Over (g ++ End caller s.larval a ∷ []) answer came
ends_last t weigh g caller first a answer came legal began s alone memory made =
    let e : RegEntry = End caller s.larval a in
    let lt : s.larval < length (texts g) = get_within (texts g) s.larval s.text s.begun in
    let done : LookedUp = ended_by s.text s.registry a in
    let is_first : s.larval ≡ first = subst (λ fs. Chained t weigh g first s.larval fs) alone s.chained in
    let over_now : ended_as (g ++ e ∷ []) s.larval ≡ Some (end_of a) =
    ended-push g e s.larval lt ∙ (ap (λ o. option_or o (ends s.larval e)) s.unended ∙ ap (λ b. cond b (Some (end_of a)) None) (same s.larval)) in
    record {
      registry = done.0;
      is = known_ended s.registry g caller s.larval s.text a s.is legal lt s.begun s.unended;
      result = done.1;
      same = s.same ∙ (ap (λ fs. resumed t fs (finishing t s.levels s.text s.registry s.sofar)) alone ∙ finishing_end t g s.registry s.larval s.levels s.text s.sofar a s.is s.begun s.comes made);
      comes = ap (λ x. outcome (g ++ e ∷ []) x) (began ∙ ap (λ n. Began n) (sym is_first)) ∙ (ap outcome_of over_now ∙ ended_comes s.text s.registry a memory);
      none = λ n n_lt undone. by n (subst (λ fs. (n ≡ s.larval) ⊎ Among n fs) alone (s.only n (no_more g e n refl n_lt) (no_end g e n undone))) undone over_now;
    }
  where
    by : (n : ℕ) → (n ≡ s.larval) ⊎ ⊥ → ended_as (g ++ End caller s.larval a ∷ []) n ≡ None → ended_as (g ++ End caller s.larval a ∷ []) s.larval ≡ Some (end_of a) → ⊥
    by n (inl q) undone now = none_some (ended_as (g ++ End caller s.larval a ∷ []) s.larval) (end_of a) (ap (λ k. ended_as (g ++ End caller s.larval a ∷ []) k) (sym q) ∙ undone) now
    by n (inr never) undone now = never

-- another waits for it, and goes on
ends_child : (t : Templates) (weigh : List ℕ → ℕ) (g : List RegEntry) (caller first : ℕ) (a : EndAnswer) (came : LookedUp) → LegalReg g → (s : Going t weigh g first came) (f : Frame) (fs : List Frame) → s.frames ≡ f ∷ fs
    → a ≢ NoMemory → made_answer t g s.larval ≡ Some a → Going t weigh (g ++ End caller s.larval a ∷ []) first came
ends_child t weigh g caller first a came legal s f fs are memory made =
    let e : RegEntry = End caller s.larval a in
    let lt : s.larval < length (texts g) = get_within (texts g) s.larval s.text s.begun in
    let done : LookedUp = ended_by s.text s.registry a in
    let chain : Chained t weigh g first s.larval (f ∷ fs) = subst (λ x. Chained t weigh g first s.larval x) are s.chained in
    let w : Waits t weigh g s.larval f = chain.0 in
    let older : f.larval < s.larval = w.older in
    let spared : (n : ℕ) → n < s.larval → ends n e ≡ None = λ n n_lt. ap (λ b. cond b (Some (end_of a)) None) (unequal s.larval n (λ q. absurd (omega (arith, q, n_lt)))) in
    let over_now : ended_as (g ++ e ∷ []) s.larval ≡ Some (end_of a) =
    ended-push g e s.larval lt ∙ (ap (λ o. option_or o (ends s.larval e)) s.unended ∙ ap (λ b. cond b (Some (end_of a)) None) (same s.larval)) in
    record {
      registry = done.0;
      is = known_ended s.registry g caller s.larval s.text a s.is legal lt s.begun s.unended;
      larval = f.larval;
      text = f.text;
      levels = f.levels;
      sofar = added f.ids done.1;
      begun = text_stays g e f.larval f.text w.begun;
      unended = unended_stays g e f.larval (get_within (texts g) f.larval f.text w.begun) w.unended (spared f.larval older);
      named = w.named;
      light = w.light;
      comes = ap (λ ls. outcomes (g ++ e ∷ []) ls) (looks_stay g e f.larval refl ∙ w.looks)
          ∙ outcomes_added (g ++ e ∷ []) w.sofar f.ids (Began s.larval) done.1 (outcomes_stay g e w.sofar (Ok f.ids) w.came) (ap outcome_of over_now ∙ ended_comes s.text s.registry a memory);
      frames = fs;
      chained = chained_stays t weigh g e first f.larval fs chain.2 (λ n n_lt. spared n (omega (arith, n_lt, older))) (λ n n_lt. refl);
      heavier = chain.1;
      only = λ n n_lt undone. by n (subst (λ x. (n ≡ s.larval) ⊎ Among n x) are (s.only n (no_more g e n refl n_lt) (no_end g e n undone))) undone over_now;
      same = s.same
          ∙ (ap (λ x. resumed t x (finishing t s.levels s.text s.registry s.sofar)) are
          ∙ (ap (λ c. resumed t fs (with_child t f c)) (finishing_end t g s.registry s.larval s.levels s.text s.sofar a s.is s.begun s.comes made)
          ∙ ap (λ c. resumed t fs c) (with_child_is t f done.0 done.1 w.children)));
    }
  where
    by : (n : ℕ) → (n ≡ s.larval) ⊎ ((n ≡ f.larval) ⊎ Among n fs) → ended_as (g ++ End caller s.larval a ∷ []) n ≡ None → ended_as (g ++ End caller s.larval a ∷ []) s.larval ≡ Some (end_of a) → (n ≡ f.larval) ⊎ Among n fs
    by n (inl q) undone now = absurd (none_some (ended_as (g ++ End caller s.larval a ∷ []) s.larval) (end_of a) (ap (λ k. ended_as (g ++ End caller s.larval a ∷ []) k) (sym q) ∙ undone) now)
    by n (inr rest) undone now = rest

pub ends_own : (t : Templates) (weigh : List ℕ → ℕ) (g : List RegEntry) (caller first : ℕ) (a : EndAnswer) (answer : Looked) (came : LookedUp) → LegalReg g → answer ≡ Began first → (s : Going t weigh g first came)
    → a ≢ NoMemory → made_answer t g s.larval ≡ Some a → Phase t weigh (g ++ End caller s.larval a ∷ []) answer came
ends_own t weigh g caller first a answer came legal began s memory made = by s.frames refl
  where
    by : (fs : List Frame) → s.frames ≡ fs → Phase t weigh (g ++ End caller s.larval a ∷ []) answer came
    by [] are = Ends (ends_last t weigh g caller first a answer came legal began s are memory made)
    by (f ∷ fs) are = Goes first began (ends_child t weigh g caller first a came legal s f fs are memory made)

-- ---- the larval's builder looks for a child

-- what it asked for so far, and the child that it asks for now
pub record IsNext (t : Templates) (text : List ℕ) (sofar : Result (List ℕ) Errno) (x : List ℕ) : Type 0 where
  pub children : List (List ℕ)
  pub ids : List ℕ
  pub asked : t.children text ≡ Ok children
  pub came : sofar ≡ Ok ids
  pub next : slice_get children (length ids) ≡ Some x

next_at : (g : List RegEntry) (looks : List Looked) (children : List (List ℕ)) (ids : List ℕ) → outcomes g looks ≡ Some (Ok ids) → next_of g looks (Ok children) ≡ slice_get children (length ids)
next_at g looks children ids e = rw e

next_failed : (g : List RegEntry) (looks : List Looked) (children : List (List ℕ)) (errno : Errno) → outcomes g looks ≡ Some (Err errno) → next_of g looks (Ok children) ≡ None
next_failed g looks children errno e = rw e

pub is_next : (t : Templates) (g : List RegEntry) (caller larval : ℕ) (text x : List ℕ) (sofar : Result (List ℕ) Errno) → last_of (building g caller) ≡ Some larval → slice_get (texts g) larval ≡ Some text → outcomes g (looks_for larval [] g) ≡ Some sofar
    → next_child t g caller ≡ Some x → IsNext t text sofar x
is_next t g caller larval text x sofar last begun comes e =
    by (t.children text) refl sofar refl
    (sym (ap (λ o. option_and_then (λ n. option_and_then (λ y. next_of g (looks_for n [] g) (t.children y)) (slice_get (texts g) n)) o) last
    ∙ ap (λ o. option_and_then (λ y. next_of g (looks_for larval [] g) (t.children y)) o) begun) ∙ e)
  where
    by : (c : Result (List (List ℕ)) Errno) → t.children text ≡ c → (s : Result (List ℕ) Errno) → sofar ≡ s → next_of g (looks_for larval [] g) (t.children text) ≡ Some x → IsNext t text sofar x
    by (Err errno) q s p f = absurd (none_some (next_of g (looks_for larval [] g) (Err errno)) x refl (sym (ap (λ c. next_of g (looks_for larval [] g) c) q) ∙ f))
    by (Ok children) q (Err errno) p f =
        absurd (none_some (next_of g (looks_for larval [] g) (Ok children)) x (next_failed g (looks_for larval [] g) children errno (comes ∙ ap (λ (r : Result (List ℕ) Errno). Some r) p)) (sym (ap (λ c. next_of g (looks_for larval [] g) c) q) ∙ f))
    by (Ok children) q (Ok ids) p f = record {
      children = children;
      ids = ids;
      asked = q;
      came = p;
      next = sym (next_at g (looks_for larval [] g) children ids (comes ∙ ap (λ (r : Result (List ℕ) Errno). Some r) p)) ∙ (sym (ap (λ c. next_of g (looks_for larval [] g) c) q) ∙ f);
    }

-- the look is the larval's own
own_look : (g : List RegEntry) (caller larval : ℕ) (x : List ℕ) (a : Looked) → last_of (building g caller) ≡ Some larval → looks_for larval [] (g ++ Look caller x true a ∷ []) ≡ looks_for larval [] g ++ a ∷ []
own_look g caller larval x a last =
    looks-push larval g (Look caller x true a)
    ∙ (ap (λ o. looks_for larval [] g ++ cons_option (if_of larval (option_and_then (λ m. Some (m, a)) o)) []) last
    ∙ ap (λ b. looks_for larval [] g ++ cons_option (cond b (Some a) None) []) (same larval))

other_look : (g : List RegEntry) (caller larval n : ℕ) (x : List ℕ) (a : Looked) → last_of (building g caller) ≡ Some larval → larval ≢ n → if_of n (look_for g (Look caller x true a)) ≡ None
other_look g caller larval n x a last ne = ap (λ o. if_of n (option_and_then (λ m. Some (m, a)) o)) last ∙ ap (λ b. cond b (Some a) None) (unequal larval n ne)

abbrev frame_of : (larval : ℕ) (text : List ℕ) (levels : ℕ) (children : List (List ℕ)) (ids : List ℕ) → Frame
frame_of larval text levels children ids = record { larval = larval; text = text; levels = levels; children = children; ids = ids }

-- the plain builder looks the child up
goes_to : (t : Templates) (larval levels : ℕ) (text x : List ℕ) (registry : PlainRegistry) (sofar : Result (List ℕ) Errno) (n : IsNext t text sofar x)
    → finishing t levels text registry sofar ≡ with_child t (frame_of larval text levels n.children n.ids) (looked t levels true registry x)
goes_to t larval levels text x registry sofar n =
    ap (λ r. finishing t levels text registry r) n.came ∙ finishing_next t (frame_of larval text levels n.children n.ids) registry x n.asked n.next

-- the look is answered at once
pub looks_settled : (t : Templates) (weigh : List ℕ → ℕ) (g : List RegEntry) (caller first : ℕ) (x : List ℕ) (a : Looked) (r : Result ℕ Errno) (came : LookedUp) → LegalReg g → begun_by (Look caller x true a) ≡ None → (s : Going t weigh g first came)
    → last_of (building g caller) ≡ Some s.larval → IsNext t s.text s.sofar x → outcome (g ++ Look caller x true a ∷ []) a ≡ Some r → looked t s.levels true s.registry x ≡ (s.registry, r)
    → Going t weigh (g ++ Look caller x true a ∷ []) first came
looks_settled t weigh g caller first x a r came legal none s last n settled looked_so =
    let e : RegEntry = Look caller x true a in
    let f : Frame = frame_of s.larval s.text s.levels n.children n.ids in
    going_aside t weigh g e first came (added n.ids r) legal (record { registers = refl; begins = none; quiet = λ id. record { unlists_not = refl; gets_not = refl; puts_not = refl }; unending = λ m. refl }) s
    (λ m lt. other_look g caller s.larval m x a last (λ q. absurd (omega (arith, q, lt))))
    (ap (λ ls. outcomes (g ++ e ∷ []) ls) (own_look g caller s.larval x a last)
    ∙ outcomes_added (g ++ e ∷ []) (looks_for s.larval [] g) n.ids a r (outcomes_stay g e (looks_for s.larval [] g) (Ok n.ids) (s.comes ∙ ap (λ (q : Result (List ℕ) Errno). Some q) n.came)) settled)
    (goes_to t s.larval s.levels s.text x s.registry s.sofar n ∙ (ap (λ c. with_child t f c) looked_so ∙ with_child_is t f s.registry r n.asked))

pub level_below : (w levels : ℕ) → w < levels → (l : ℕ) × (levels ≡ suc l) × (w ≤ l)
level_below w zero lt = absurd (omega (arith, lt))
level_below w (suc l) lt = (l, refl, omega (arith, lt))

heavier_than : (weigh : List ℕ → ℕ) (v w : ℕ) (fs : List Frame) → v < w → AreHeavier weigh w fs → AreHeavier weigh v fs
heavier_than weigh v w [] lt all = tt
heavier_than weigh v w (f ∷ fs) lt all = (omega (arith, lt, all.0), heavier_than weigh v w fs lt all.1)

by_side : (n k : ℕ) → n < k + 1 → (n < k) ⊎ (n ≡ k)
by_side zero zero lt = inr refl
by_side zero (suc k) lt = inl (omega arith)
by_side (suc n) zero lt = absurd (omega (arith, lt))
by_side (suc n) (suc k) lt = up (by_side n k (omega (arith, lt)))
  where
    up : (n < k) ⊎ (n ≡ k) → (suc n < suc k) ⊎ (suc n ≡ suc k)
    up (inl q) = inl (omega (arith, q))
    up (inr q) = inr (ap suc q)

-- the look begins a larval
pub looks_began : (t : Templates) (weigh : List ℕ → ℕ) (g : List RegEntry) (caller first k l : ℕ) (x : List ℕ) (came : LookedUp) → LegalReg g → k ≡ length (texts g) → (s : Going t weigh g first came)
    → last_of (building g caller) ≡ Some s.larval → IsNext t s.text s.sofar x → t.is_name x ≡ true → weigh x < weigh s.text → s.levels ≡ suc l → weigh x ≤ l → looked t (suc l) true s.registry x ≡ finishing t l x s.registry (Ok [])
    → Going t weigh (g ++ Look caller x true (Began k) ∷ []) first came
looks_began t weigh g caller first k l x came legal new s last n named lighter levels light looked_so =
    let e : RegEntry = Look caller x true (Began k) in
    let f : Frame = frame_of s.larval s.text s.levels n.children n.ids in
    let lt : s.larval < length (texts g) = get_within (texts g) s.larval s.text s.begun in
    let texts_now : texts (g ++ e ∷ []) ≡ texts g ++ x ∷ [] = texts-push g e in
    let many : length (texts (g ++ e ∷ [])) ≡ length (texts g) + 1 = length-texts g e in
    record {
      registry = s.registry;
      is = known_quiet s.registry g e s.is legal refl (λ id. record { unlists_not = refl; gets_not = refl; puts_not = refl }) (λ m. refl);
      larval = k;
      text = x;
      levels = l;
      sofar = Ok [];
      begun = ap (λ ts. slice_get ts k) texts_now ∙ at_last (texts g) k x new;
      unended = ended-new g e k legal (omega (arith, new)) (omega (arith, new, many)) refl;
      named = named;
      light = light;
      comes = ap (λ ls. outcomes (g ++ e ∷ []) ls)
          (looks-push k g e
          ∙ (ap (λ ls. ls ++ cons_option (if_of k (look_for g e)) []) (looks-fresh g k legal (omega (arith, new)))
          ∙ ap (λ o. cons_option o []) (other_look g caller s.larval k x (Began k) last (λ q. absurd (omega (arith, q, lt, new))))));
      frames = f ∷ s.frames;
      chained = (
        record {
          older = omega (arith, lt, new);
          named = s.named;
          light = s.light;
          begun = text_stays g e s.larval s.text s.begun;
          unended = unended_stays g e s.larval lt s.unended refl;
          children = n.asked;
          sofar = looks_for s.larval [] g;
          looks = own_look g caller s.larval x (Began k) last;
          came = outcomes_stay g e (looks_for s.larval [] g) (Ok n.ids) (s.comes ∙ ap (λ (q : Result (List ℕ) Errno). Some q) n.came);
        },
        s.heavier,
        chained_stays t weigh g e first s.larval s.frames s.chained (λ m m_lt. refl) (λ m m_lt. other_look g caller s.larval m x (Began k) last (λ q. absurd (omega (arith, q, m_lt)))),
      );
      heavier = (lighter, heavier_than weigh (weigh x) (weigh s.text) s.frames lighter s.heavier);
      only = λ m m_lt undone. place m (by_side m (length (texts g)) (omega (arith, m_lt, many))) (no_end g e m undone);
      same = s.same
          ∙ (ap (λ c. resumed t s.frames c) (goes_to t s.larval s.levels s.text x s.registry s.sofar n)
          ∙ (ap (λ j. resumed t s.frames (with_child t f (looked t j true s.registry x))) levels ∙ ap (λ c. resumed t s.frames (with_child t f c)) looked_so));
    }
  where
    place : (m : ℕ) → (m < length (texts g)) ⊎ (m ≡ length (texts g)) → ended_as g m ≡ None → (m ≡ k) ⊎ ((m ≡ s.larval) ⊎ Among m s.frames)
    place m (inl m_lt) undone = inr (s.only m m_lt undone)
    place m (inr q) undone = inl (q ∙ sym new)
