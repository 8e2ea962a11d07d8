-- How a look goes on until its larval ends.
use Rattle.std.proofs.Common.{◌≡◌, ◌≢◌, ℕ, ◌<◌, ◌≤◌, ◌⊎◌, inl, inr, Bool, true, false, not, cond, eqb, List, [], ◌∷◌, ◌++◌, length, refl, ap, sym, ◌∙◌, subst, arith, Option, Some, None, Result, Ok}
use Rattle.std.specs.Prelude.{slice_get}
use Rattle.std.specs.Option.{option_or, option_and_then}
use Rattle.std.proofs.lemmas.Bool.Decides.{nat_tests}
use Rattle.kc_base.specs.declared.error_numbers.Errno.{Errno}
use Rattle.alg_registry.specs.declared.entry.Ended.TheVariants as ended
use Rattle.alg_registry.specs.declared.entry.Looked.{Looked}
use Rattle.alg_registry.specs.declared.entry.Looked.TheVariants.{Began}
use Rattle.alg_registry.specs.declared.entry.EndAnswer.{EndAnswer}
use Rattle.alg_registry.specs.declared.entry.EndAnswer.TheVariants.{Built, Joined, Failed, NoMemory}
use Rattle.alg_registry.specs.declared.entry.RegEntry.{RegEntry}
use Rattle.alg_registry.specs.declared.entry.RegEntry.TheVariants.{Enlist, Look, Claim, End, Waited, Unlist, Get, Put, Refs}
use Rattle.alg_registry.specs.declared.entry.RegEntry.TheVariants as entry
use Rattle.alg_registry.specs.Rows.{texts, ends, end_of}
use Rattle.alg_registry.specs.Legal.{ended_as, IsRight}
use Rattle.alg_registry.specs.Made.{Templates, IsMade, building, last_of, looks_for, look_for, if_of, outcome, outcomes, outcome_of, next_child, made_answer}
use Rattle.alg_registry.proofs.Stack.{ended-push, ended-stays, same, unequal}
use Rattle.templates.proofs.ChildLooks.{get_within}
use Rattle.sequential_model.specs.Registry.{PlainRegistry, LookedUp}
use Rattle.sequential_model.proofs.Agreeing.{IsRegistryOf}
use Rattle.sequential_model.proofs.Chains.{Frame, resumed, finishing, Waits, Chained, Among, AreHeavier, Never, Wanting, Behind, waits_stay, waits_unasked, waits_unmade, never_none}

-- what a name asks for is lighter
abbrev pub AreLighter : Templates → (List ℕ → ℕ) → Type 0
AreLighter t weigh =
    (text child : List ℕ) (children : List (List ℕ)) (i : ℕ) → t.is_name text ≡ true → t.children text ≡ Ok children → slice_get children i ≡ Some child → weigh child < weigh text

-- The larval of the look is being built: this larval is the one that nobody waits to see ended before it goes on, its
-- looks came to this, and the others that are pending wait for it, one for the other. What the plain builder gives is
-- what it gives from here on.
pub record Going (t : Templates) (weigh : List ℕ → ℕ) (g : List RegEntry) (first : ℕ) (came : LookedUp) : Type 0 where
  pub registry : PlainRegistry
  pub is : IsRegistryOf registry g
  pub larval : ℕ
  pub text : List ℕ
  pub levels : ℕ
  pub sofar : Result (List ℕ) Errno
  pub begun : slice_get (texts g) larval ≡ Some text
  pub unended : ended_as g larval ≡ None
  pub named : t.is_name text ≡ true
  pub light : weigh text ≤ levels
  pub comes : outcomes g (looks_for larval [] g) ≡ Some sofar
  pub frames : List Frame
  pub chained : Chained t weigh g first larval frames
  pub heavier : AreHeavier weigh (weigh text) frames
  pub only : (n : ℕ) → n < length (texts g) → ended_as g n ≡ None → (n ≡ larval) ⊎ Among n frames
  pub same : came ≡ resumed t frames (finishing t levels text registry sofar)

-- nothing is pending, and the look came to what the plain builder gives
pub record Over (g : List RegEntry) (answer : Looked) (came : LookedUp) : Type 0 where
  pub registry : PlainRegistry
  pub is : IsRegistryOf registry g
  pub result : Result ℕ Errno
  pub same : came ≡ (registry, result)
  pub comes : outcome g answer ≡ Some result
  pub none : (n : ℕ) → n < length (texts g) → ended_as g n ≡ None → ⊥

pub data Phase (t : Templates) (weigh : List ℕ → ℕ) (g : List RegEntry) (answer : Looked) (came : LookedUp) : Type 0 where
  Goes : (first : ℕ) → answer ≡ Began first → Going t weigh g first came → Phase t weigh g answer came
  Ends : Over g answer came → Phase t weigh g answer came
  Fails : (first : ℕ) → answer ≡ Began first → Never t weigh g first → Phase t weigh g answer came

-- ---- entries

if_not : (n m : ℕ) (a : Looked) → m ≢ n → if_of n (Some (m, a)) ≡ None
if_not n m a ne = ap (λ b. cond b (Some a) None) (unequal m n ne)

-- a look for another larval
unlooked : (g : List RegEntry) (n caller : ℕ) (x : List ℕ) (a : Looked) → (last_of (building g caller) ≡ Some n → ⊥) → if_of n (look_for g (Look caller x true a)) ≡ None
unlooked g n caller x a not = by (last_of (building g caller)) refl
  where
    by : (o : Option ℕ) → last_of (building g caller) ≡ o → if_of n (option_and_then (λ larval. Some (larval, a)) o) ≡ None
    by None q = refl
    by (Some m) q = if_not n m a (λ e. absurd (not (q ∙ ap (λ (k : ℕ). Some k) e)))

none_some : {A : Type 0} (o : Option A) (x : A) → o ≡ None → o ≡ Some x → ⊥
none_some o x p q = let f : None ≡ Some x = sym p ∙ q in cc

ends_not : (caller m n : ℕ) (a : EndAnswer) → m ≢ n → ends n (End caller m a) ≡ None
ends_not caller m n a ne = ap (λ b. cond b (Some (end_of a)) None) (unequal m n ne)

ends_now : (g : List RegEntry) (caller m : ℕ) (a : EndAnswer) → m < length (texts g) → ended_as g m ≡ None → ended_as (g ++ End caller m a ∷ []) m ≡ Some (end_of a)
ends_now g caller m a lt none =
    ended-push g (End caller m a) m lt ∙ (ap (λ o. option_or o (ends m (End caller m a))) none ∙ ap (λ b. cond b (Some (end_of a)) None) (same m))

-- ---- what never comes to anything

never_kept : (t : Templates) (weigh : List ℕ → ℕ) (g : List RegEntry) (e : RegEntry) (n child : ℕ) (f : Frame) → n ≡ f.larval → Waits t weigh g child f → Never t weigh (g ++ e ∷ []) child
    → ends f.larval e ≡ None → if_of f.larval (look_for g e) ≡ None → Never t weigh (g ++ e ∷ []) n
never_kept t weigh g e n child f q w later none unlooked' = Behind n child f q (waits_stay t weigh g e child f w none unlooked') later

pub never_step : (t : Templates) (weigh : List ℕ → ℕ) (g : List RegEntry) (e : RegEntry) (n : ℕ) → IsRight g e → IsMade t g e → Never t weigh g n → Never t weigh (g ++ e ∷ []) n
never_step t weigh g e n right made (Wanting m q) = Wanting m (ended-stays g e m ended.NoMemory q)
never_step t weigh g e n right made (Behind m child f q w later) = by_entry e right made (never_step t weigh g e child right made later)
  where
    none : outcome_of (ended_as g child) ≡ None
    none = never_none t weigh g child later

    by_end : (caller k : ℕ) (a : EndAnswer) → ended_as g k ≡ None → IsMade t g (End caller k a) → Never t weigh (g ++ End caller k a ∷ []) child → (b : Bool) → eqb k f.larval ≡ b → Never t weigh (g ++ End caller k a ∷ []) m
    by_end caller k a open' made' later' false r =
        let ne : k ≢ f.larval = λ z. absurd (let s : eqb k f.larval ≡ true = ap (λ j. eqb k j) (sym z) ∙ same k in cc) in
        never_kept t weigh g (End caller k a) m child f q w later' (ends_not caller k f.larval a ne) refl
    by_end caller k NoMemory open' made' later' true r =
        let z : k ≡ f.larval = grind (arith, nat_tests) in
        let lt : f.larval < length (texts g) = get_within (texts g) f.larval f.text w.begun in
        Wanting m (ap (λ j. ended_as (g ++ End caller k NoMemory ∷ []) j) (q ∙ sym z) ∙ ends_now g caller k NoMemory (omega (arith, lt, z)) open')
    by_end caller k (Built id spec) open' made' later' true r =
        let z : k ≡ f.larval = grind (arith, nat_tests) in
        absurd (none_some (made_answer t g k) (Built id spec) (ap (λ j. made_answer t g j) z ∙ waits_unmade t weigh g child f w none) made')
    by_end caller k (Joined id below) open' made' later' true r =
        let z : k ≡ f.larval = grind (arith, nat_tests) in
        absurd (none_some (made_answer t g k) (Joined id below) (ap (λ j. made_answer t g j) z ∙ waits_unmade t weigh g child f w none) made')
    by_end caller k (Failed errno) open' made' later' true r =
        let z : k ≡ f.larval = grind (arith, nat_tests) in
        absurd (none_some (made_answer t g k) (Failed errno) (ap (λ j. made_answer t g j) z ∙ waits_unmade t weigh g child f w none) made')

    by_entry : (x : RegEntry) → IsRight g x → IsMade t g x → Never t weigh (g ++ x ∷ []) child → Never t weigh (g ++ x ∷ []) m
    by_entry (Look caller text true a) right' made' later' =
        never_kept t weigh g (Look caller text true a) m child f q w later' refl
        (unlooked g f.larval caller text a (λ last. none_some (next_child t g caller) text (waits_unasked t weigh g child caller f w none last) made'.1))
    by_entry (Look caller text false a) right' made' later' = never_kept t weigh g (Look caller text false a) m child f q w later' refl refl
    by_entry (End caller k a) right' made' later' = by_end caller k a right'.1 made' later' (eqb k f.larval) refl
    by_entry (Claim caller k) right' made' later' = never_kept t weigh g (Claim caller k) m child f q w later' refl refl
    by_entry (Waited caller k) right' made' later' = never_kept t weigh g (Waited caller k) m child f q w later' refl refl
    by_entry (Enlist caller spec a) right' made' later' = never_kept t weigh g (Enlist caller spec a) m child f q w later' refl refl
    by_entry (Unlist caller driver a) right' made' later' = never_kept t weigh g (Unlist caller driver a) m child f q w later' refl refl
    by_entry (Get caller id ok) right' made' later' = never_kept t weigh g (Get caller id ok) m child f q w later' refl refl
    by_entry (Put caller id) right' made' later' = never_kept t weigh g (Put caller id) m child f q w later' refl refl
    by_entry (Refs caller driver) right' made' later' = never_kept t weigh g (Refs caller driver) m child f q w later' refl refl
    by_entry (entry.List caller) right' made' later' = never_kept t weigh g (entry.List caller) m child f q w later' refl refl

-- a larval that ended for want of memory, and those that wait for it
pub never_up : (t : Templates) (weigh : List ℕ → ℕ) (g : List RegEntry) (caller m first child : ℕ) (a : EndAnswer) (fs : List Frame) → Chained t weigh g first child fs → child ≤ m → Never t weigh (g ++ End caller m a ∷ []) child → Never t weigh (g ++ End caller m a ∷ []) first
never_up t weigh g caller m first child a [] chain le never = subst (λ n. Never t weigh (g ++ End caller m a ∷ []) n) chain never
never_up t weigh g caller m first child a (f ∷ fs) chain le never =
    let w = chain.0 in
    let lt : f.larval < child = w.older in
    never_up t weigh g caller m first f.larval a fs chain.2 (omega (arith, lt, le))
    (Behind f.larval child f refl (waits_stay t weigh g (End caller m a) child f w (ends_not caller m f.larval a (λ e. absurd (omega (arith, e, lt, le)))) refl) never)

pub never_among : (t : Templates) (weigh : List ℕ → ℕ) (g : List RegEntry) (caller m first child : ℕ) (a : EndAnswer) (fs : List Frame) → Chained t weigh g first child fs → Among m fs → ended_as (g ++ End caller m a ∷ []) m ≡ Some ended.NoMemory → Never t weigh (g ++ End caller m a ∷ []) first
never_among t weigh g caller m first child a [] chain among e = absurd among
never_among t weigh g caller m first child a (f ∷ fs) chain (inl q) e =
    never_up t weigh g caller m first f.larval a fs chain.2 (omega (arith, q)) (Wanting f.larval (ap (λ n. ended_as (g ++ End caller m a ∷ []) n) (sym q) ∙ e))
never_among t weigh g caller m first child a (f ∷ fs) chain (inr among) e = never_among t weigh g caller m first f.larval a fs chain.2 among e
