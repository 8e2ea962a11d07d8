-- Larvals that wait for one another, and what the plain builder has still to do for them.
use Rattle.std.proofs.Common.{◌≡◌, ℕ, ◌+◌, ◌<◌, ◌≤◌, ◌⊎◌, inl, inr, true, List, [], ◌∷◌, ◌++◌, length, drop, refl, ap, sym, ◌∙◌, arith, Option, Some, None, Result, Ok, Err}
use Rattle.std.specs.Prelude.{slice_get}
use Rattle.std.specs.List.{cons_option}
use Rattle.std.specs.Option.{option_or, option_and_then}
use Rattle.std.proofs.lemmas.List.{append-nil}
use Rattle.kc_base.specs.declared.error_numbers.Errno.{Errno}
use Rattle.alg_registry.specs.declared.entry.Ended.{Ended}
use Rattle.alg_registry.specs.declared.entry.Ended.TheVariants as ended
use Rattle.alg_registry.specs.declared.entry.Looked.{Looked}
use Rattle.alg_registry.specs.declared.entry.Looked.TheVariants.{Found, Pending, Began, Absent}
use Rattle.alg_registry.specs.declared.entry.RegEntry.{RegEntry}
use Rattle.alg_registry.specs.Rows.{texts, begun_by, ends}
use Rattle.alg_registry.specs.Legal.{ended_as}
use Rattle.alg_registry.specs.Made.{Templates, building, last_of, looks_for, look_for, if_of, outcome, outcomes, outcome_of, all_outcomes, next_child, next_of, made_answer, by_children, by_outcomes}
use Rattle.alg_registry.proofs.Stack.{texts-push, ended-push, ended-stays, looks-push}
use Rattle.alg_registry.proofs.Histories.{get_more}
use Rattle.templates.proofs.ChildLooks.{get_within}
use Rattle.sequential_model.specs.Registry.{PlainRegistry, LookedUp, and_then, with_children, looked}

-- ---- what the plain builder has still to do

-- where the looks for the children came to this
abbrev pub on_children : Templates → ℕ → List ℕ → PlainRegistry → Result (List ℕ) Errno → Result (List (List ℕ)) Errno → LookedUp
on_children t levels text registry r (Err errno) = (registry, Err errno)
on_children t levels text registry (Err errno) (Ok children) = (registry, Err errno)
on_children t levels text registry (Ok ids) (Ok children) = with_children t (λ now child. looked t levels true now child) text (drop (length ids) children) ids registry

abbrev pub finishing : Templates → ℕ → List ℕ → PlainRegistry → Result (List ℕ) Errno → LookedUp
finishing t levels text registry r = on_children t levels text registry r (t.children text)

-- a larval whose next child is being built
pub record Frame : Type 0 where
  pub larval : ℕ
  pub text : List ℕ
  pub levels : ℕ
  pub children : List (List ℕ)
  pub ids : List ℕ

abbrev pub with_child : Templates → Frame → LookedUp → LookedUp
with_child t f came = and_then came (λ id now. with_children t (λ now' child. looked t f.levels true now' child) f.text (drop (length f.ids + 1) f.children) (f.ids ++ id ∷ []) now)

abbrev pub resumed : Templates → List Frame → LookedUp → LookedUp
resumed t [] came = came
resumed t (f ∷ fs) came = resumed t fs (with_child t f came)

-- ---- who waits for whom

-- the larval's last look began the child, and those before came to entries
pub record Waits (t : Templates) (weigh : List ℕ → ℕ) (g : List RegEntry) (child : ℕ) (f : Frame) : Type 0 where
  pub older : f.larval < child
  pub named : t.is_name f.text ≡ true
  pub light : weigh f.text ≤ f.levels
  pub begun : slice_get (texts g) f.larval ≡ Some f.text
  pub unended : ended_as g f.larval ≡ None
  pub children : t.children f.text ≡ Ok f.children
  pub sofar : List Looked
  pub looks : looks_for f.larval [] g ≡ sofar ++ Began child ∷ []
  pub came : outcomes g sofar ≡ Some (Ok f.ids)

-- each of them builds a heavier text
abbrev pub AreHeavier : (List ℕ → ℕ) → ℕ → List Frame → Type 0
AreHeavier weigh w [] = Unit {0}
AreHeavier weigh w (f ∷ fs) = (w < weigh f.text) × AreHeavier weigh w fs

-- each waits for the one before, and the last is the first larval
abbrev pub Chained : Templates → (List ℕ → ℕ) → List RegEntry → ℕ → ℕ → List Frame → Type 0
Chained t weigh g first child [] = child ≡ first
Chained t weigh g first child (f ∷ fs) = Waits t weigh g child f × AreHeavier weigh (weigh f.text) fs × Chained t weigh g first f.larval fs

abbrev pub Among : ℕ → List Frame → Type 0
Among n [] = ⊥
Among n (f ∷ fs) = (n ≡ f.larval) ⊎ Among n fs

-- it will never come to anything
pub data Never (t : Templates) (weigh : List ℕ → ℕ) (g : List RegEntry) : ℕ → Type 0 where
  Wanting : (n : ℕ) → ended_as g n ≡ Some ended.NoMemory → Never t weigh g n
  Behind : (n child : ℕ) (f : Frame) → n ≡ f.larval → Waits t weigh g child f → Never t weigh g child → Never t weigh g n

-- ---- what stays

pub text_stays : (g : List RegEntry) (e : RegEntry) (n : ℕ) (x : List ℕ) → slice_get (texts g) n ≡ Some x → slice_get (texts (g ++ e ∷ [])) n ≡ Some x
text_stays g e n x at = ap (λ ts. slice_get ts n) (texts-push g e) ∙ get_more (texts g) (cons_option (begun_by e) []) n x at

pub unended_stays : (g : List RegEntry) (e : RegEntry) (n : ℕ) → n < length (texts g) → ended_as g n ≡ None → ends n e ≡ None → ended_as (g ++ e ∷ []) n ≡ None
unended_stays g e n lt undone none = ended-push g e n lt ∙ (ap (λ o. option_or o (ends n e)) undone ∙ none)

end_stays : (g : List RegEntry) (e : RegEntry) (n : ℕ) (r : Result ℕ Errno) → outcome_of (ended_as g n) ≡ Some r → outcome_of (ended_as (g ++ e ∷ []) n) ≡ Some r
end_stays g e n r is = by (ended_as g n) refl is
  where
    by : (o : Option Ended) → ended_as g n ≡ o → outcome_of o ≡ Some r → outcome_of (ended_as (g ++ e ∷ []) n) ≡ Some r
    by None q f = absurd cc
    by (Some x) q f = ap outcome_of (ended-stays g e n x q) ∙ f

pub outcome_stays : (g : List RegEntry) (e : RegEntry) (a : Looked) (r : Result ℕ Errno) → outcome g a ≡ Some r → outcome (g ++ e ∷ []) a ≡ Some r
outcome_stays g e (Found id) r is = is
outcome_stays g e Absent r is = is
outcome_stays g e (Pending n) r is = end_stays g e n r is
outcome_stays g e (Began n) r is = end_stays g e n r is

pub outcomes_stay : (g : List RegEntry) (e : RegEntry) (looks : List Looked) (r : Result (List ℕ) Errno) → outcomes g looks ≡ Some r → outcomes (g ++ e ∷ []) looks ≡ Some r
outcomes_stay g e [] r is = is
outcomes_stay g e (look ∷ looks) r is = by (outcome g look) (outcomes g looks) refl refl is (λ s q. outcomes_stay g e looks s q)
  where
    by : (o : Option (Result ℕ Errno)) (p : Option (Result (List ℕ) Errno)) → outcome g look ≡ o → outcomes g looks ≡ p → all_outcomes o p ≡ Some r
        → ((s : Result (List ℕ) Errno) → outcomes g looks ≡ Some s → outcomes (g ++ e ∷ []) looks ≡ Some s) → all_outcomes (outcome (g ++ e ∷ []) look) (outcomes (g ++ e ∷ []) looks) ≡ Some r
    by None p x y z later = absurd cc
    by (Some (Err errno)) p x y z later = ap (λ o. all_outcomes o (outcomes (g ++ e ∷ []) looks)) (outcome_stays g e look (Err errno) x) ∙ z
    by (Some (Ok id)) None x y z later = absurd cc
    by (Some (Ok id)) (Some s) x y z later = (λ i. all_outcomes (outcome_stays g e look (Ok id) x i) (later s y i)) ∙ z

pub looks_stay : (g : List RegEntry) (e : RegEntry) (n : ℕ) → if_of n (look_for g e) ≡ None → looks_for n [] (g ++ e ∷ []) ≡ looks_for n [] g
looks_stay g e n none = looks-push n g e ∙ (ap (λ o. looks_for n [] g ++ cons_option o []) none ∙ append-nil (looks_for n [] g))

pub waits_stay : (t : Templates) (weigh : List ℕ → ℕ) (g : List RegEntry) (e : RegEntry) (child : ℕ) (f : Frame) → Waits t weigh g child f → ends f.larval e ≡ None → if_of f.larval (look_for g e) ≡ None → Waits t weigh (g ++ e ∷ []) child f
waits_stay t weigh g e child f w none unlooked = record {
  older = w.older;
  named = w.named;
  light = w.light;
  begun = text_stays g e f.larval f.text w.begun;
  unended = unended_stays g e f.larval (get_within (texts g) f.larval f.text w.begun) w.unended none;
  children = w.children;
  sofar = w.sofar;
  looks = looks_stay g e f.larval unlooked ∙ w.looks;
  came = outcomes_stay g e w.sofar (Ok f.ids) w.came;
}

pub chained_stays : (t : Templates) (weigh : List ℕ → ℕ) (g : List RegEntry) (e : RegEntry) (first child : ℕ) (fs : List Frame) → Chained t weigh g first child fs
    → ((n : ℕ) → n < child → ends n e ≡ None) → ((n : ℕ) → n < child → if_of n (look_for g e) ≡ None) → Chained t weigh (g ++ e ∷ []) first child fs
chained_stays t weigh g e first child [] chain none unlooked = chain
chained_stays t weigh g e first child (f ∷ fs) chain none unlooked =
    let w = chain.0 in (
      waits_stay t weigh g e child f w (none f.larval w.older) (unlooked f.larval w.older),
      chain.1,
      chained_stays t weigh g e first f.larval fs chain.2 (λ n lt. none n (omega (arith, lt, w.older))) (λ n lt. unlooked n (omega (arith, lt, w.older))),
    )

-- ---- who waits does nothing

blocked : (g : List RegEntry) (looks : List Looked) (ids : List ℕ) (last : Looked) → outcomes g looks ≡ Some (Ok ids) → outcome g last ≡ None → outcomes g (looks ++ last ∷ []) ≡ None
blocked g [] ids last sofar none = ap (λ o. all_outcomes o (Some (Ok []))) none
blocked g (look ∷ looks) ids last sofar none = by (outcome g look) (outcomes g looks) refl refl sofar (λ rest q. blocked g looks rest last q none)
  where
    by : (o : Option (Result ℕ Errno)) (p : Option (Result (List ℕ) Errno)) → outcome g look ≡ o → outcomes g looks ≡ p → all_outcomes o p ≡ Some (Ok ids)
        → ((rest : List ℕ) → outcomes g looks ≡ Some (Ok rest) → outcomes g (looks ++ last ∷ []) ≡ None) → all_outcomes (outcome g look) (outcomes g (looks ++ last ∷ [])) ≡ None
    by None p x y z later = absurd cc
    by (Some (Err errno)) p x y z later = absurd cc
    by (Some (Ok first)) None x y z later = absurd cc
    by (Some (Ok first)) (Some (Err errno)) x y z later = absurd cc
    by (Some (Ok first)) (Some (Ok rest)) x y z later = λ i. all_outcomes (x i) (later rest y i)

next_none : (g : List RegEntry) (looks : List Looked) (children : List (List ℕ)) → outcomes g looks ≡ None → next_of g looks (Ok children) ≡ None
next_none g looks children e = rw e

waiting_none : (t : Templates) (weigh : List ℕ → ℕ) (g : List RegEntry) (child : ℕ) (f : Frame) → Waits t weigh g child f → outcome_of (ended_as g child) ≡ None → outcomes g (looks_for f.larval [] g) ≡ None
waiting_none t weigh g child f w none = ap (λ ls. outcomes g ls) w.looks ∙ blocked g w.sofar f.ids (Began child) w.came none

-- it asks for no further child
pub waits_unasked : (t : Templates) (weigh : List ℕ → ℕ) (g : List RegEntry) (child caller : ℕ) (f : Frame) → Waits t weigh g child f → outcome_of (ended_as g child) ≡ None → last_of (building g caller) ≡ Some f.larval → next_child t g caller ≡ None
waits_unasked t weigh g child caller f w none last =
    ap (λ o. option_and_then (λ larval. option_and_then (λ text. next_of g (looks_for larval [] g) (t.children text)) (slice_get (texts g) larval)) o) last
    ∙ (ap (λ o. option_and_then (λ text. next_of g (looks_for f.larval [] g) (t.children text)) o) w.begun
    ∙ (ap (λ c. next_of g (looks_for f.larval [] g) c) w.children ∙ next_none g (looks_for f.larval [] g) f.children (waiting_none t weigh g child f w none)))

-- it doesn't end, but for want of memory
pub waits_unmade : (t : Templates) (weigh : List ℕ → ℕ) (g : List RegEntry) (child : ℕ) (f : Frame) → Waits t weigh g child f → outcome_of (ended_as g child) ≡ None → made_answer t g f.larval ≡ None
waits_unmade t weigh g child f w none =
    ap (λ o. option_and_then (λ text. by_children t g text (looks_for f.larval [] g) (t.children text)) o) w.begun
    ∙ (ap (λ c. by_children t g f.text (looks_for f.larval [] g) c) w.children ∙ ap (λ o. by_outcomes t g f.text f.children o) (waiting_none t weigh g child f w none))

pub chain_unasked : (t : Templates) (weigh : List ℕ → ℕ) (g : List RegEntry) (first child n caller : ℕ) (fs : List Frame) → Chained t weigh g first child fs → ended_as g child ≡ None → Among n fs → last_of (building g caller) ≡ Some n → next_child t g caller ≡ None
chain_unasked t weigh g first child n caller [] chain undone among last = absurd among
chain_unasked t weigh g first child n caller (f ∷ fs) chain undone (inl e) last = waits_unasked t weigh g child caller f chain.0 (ap outcome_of undone) (last ∙ ap (λ (k : ℕ). Some k) e)
chain_unasked t weigh g first child n caller (f ∷ fs) chain undone (inr among) last = let w = chain.0 in chain_unasked t weigh g first f.larval n caller fs chain.2 w.unended among last

pub chain_unmade : (t : Templates) (weigh : List ℕ → ℕ) (g : List RegEntry) (first child n : ℕ) (fs : List Frame) → Chained t weigh g first child fs → ended_as g child ≡ None → Among n fs → made_answer t g n ≡ None
chain_unmade t weigh g first child n [] chain undone among = absurd among
chain_unmade t weigh g first child n (f ∷ fs) chain undone (inl e) = ap (λ k. made_answer t g k) e ∙ waits_unmade t weigh g child f chain.0 (ap outcome_of undone)
chain_unmade t weigh g first child n (f ∷ fs) chain undone (inr among) = let w = chain.0 in chain_unmade t weigh g first f.larval n fs chain.2 w.unended among

-- the first larval has come to nothing yet
pub chain_open : (t : Templates) (weigh : List ℕ → ℕ) (g : List RegEntry) (first child : ℕ) (fs : List Frame) → Chained t weigh g first child fs → ended_as g child ≡ None → outcome g (Began first) ≡ None
chain_open t weigh g first child [] chain undone = ap (λ n. outcome_of (ended_as g n)) (sym chain) ∙ ap outcome_of undone
chain_open t weigh g first child (f ∷ fs) chain undone = let w = chain.0 in chain_open t weigh g first f.larval fs chain.2 w.unended

pub never_none : (t : Templates) (weigh : List ℕ → ℕ) (g : List RegEntry) (n : ℕ) → Never t weigh g n → outcome_of (ended_as g n) ≡ None
never_none t weigh g n (Wanting m e) = ap outcome_of e
never_none t weigh g n (Behind m child f e w later) = ap (λ k. outcome_of (ended_as g k)) e ∙ ap outcome_of w.unended
