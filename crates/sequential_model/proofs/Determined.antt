-- Whoever builds: a look that came to something came to what the plain builder gives, and left what it leaves.
use Rattle.std.proofs.Common.{◌≡◌, ◌≢◌, ℕ, zero, suc, ◌+◌, ◌<◌, ◌≤◌, ◌⊎◌, inl, inr, Bool, true, false, cond, ◌&&◌, List, [], ◌∷◌, ◌++◌, length, refl, ap, sym, ◌∙◌, subst, arith, Option, Some, None, Result, Ok, Err, IsSome, append_assoc}
use Rattle.std.specs.Prelude.{slice_get, is_none}
use Rattle.std.specs.List.{position_from, list_all}
use Rattle.std.specs.Option.{option_or, option_and_then, option_map}
use Rattle.std.specs.Str.{bytes_eq}
use Rattle.std.proofs.lemmas.List.{append-nil}
use Rattle.std.proofs.lemmas.Slice.Eq.{bytes_eq-Decides}
use Rattle.std.proofs.lemmas.Bool.{and_parts}
use Rattle.kc_base.specs.declared.error_numbers.Errno.{Errno}
use Rattle.kc_base.specs.declared.error_numbers.Errno.TheVariants.{ENOENT}
use Rattle.alg_registry.specs.declared.row.Larval.{Larval}
use Rattle.alg_registry.specs.declared.entry.Ended.{Ended}
use Rattle.alg_registry.specs.declared.entry.Looked.{Looked}
use Rattle.alg_registry.specs.declared.entry.Looked.TheVariants.{Found, Pending, Began, Absent}
use Rattle.alg_registry.specs.declared.entry.EndAnswer.{EndAnswer}
use Rattle.alg_registry.specs.declared.entry.EndAnswer.TheVariants.{Built, Joined, Failed, NoMemory}
use Rattle.alg_registry.specs.declared.entry.RegEntry.{RegEntry}
use Rattle.alg_registry.specs.declared.entry.RegEntry.TheVariants.{Enlist, Look, Claim, End, Waited, Unlist, Get, Put, Refs}
use Rattle.alg_registry.specs.declared.entry.RegEntry.TheVariants as entry
use Rattle.alg_registry.specs.Rows.{texts, begun_by, ends, end_of, larval_at, larvals_of, rows_of}
use Rattle.alg_registry.specs.Answers.{look_answer, is_pending, may_find}
use Rattle.alg_registry.specs.Legal.{ended_as, LegalReg, IsRight, MayFollow}
use Rattle.alg_registry.specs.Made.{Templates, IsMade, MadeAfter, building, last_of, looks_for, outcome, outcomes, next_child, next_of, made_answer}
use Rattle.alg_registry.proofs.Steps.{LegalReg-push}
use Rattle.alg_registry.proofs.Stack.{texts-push, length-texts, ended-push, ended-new, claimed-there, looks-push, looks-fresh, larval_get, same}
use Rattle.templates.specs.LookResults.{NonePending}
use Rattle.templates.proofs.ChildLooks.{get_within}
use Rattle.templates.proofs.Looks.{at_last, pending_driver, position_at}
use Rattle.alg_registry.proofs.Looks.{began_new}
use Rattle.sequential_model.specs.Registry.{PlainRegistry, LookedUp, looked}
use Rattle.sequential_model.proofs.Agreeing.{IsRegistryOf, is_building}
use Rattle.sequential_model.proofs.Building.{last_built}
use Rattle.sequential_model.proofs.Chains.{Frame, Chained, Among, AreHeavier, Wanting, chain_unasked, chain_unmade, chain_open, never_none}
use Rattle.sequential_model.proofs.Finding.{found_by, began_by, absent_by}
use Rattle.sequential_model.proofs.Knowing.{known_quiet}
use Rattle.sequential_model.proofs.Lookups.{looked_found, looked_absent, looked_built}
use Rattle.sequential_model.proofs.Phases.{AreLighter, Going, Phase, Goes, Ends, Fails, never_step, never_up, never_among}
use Rattle.sequential_model.proofs.Going.{IsNext, is_next, none_some, no_end, no_more, over_step, going_left, looks_settled, looks_began, ends_own, level_below}

-- ---- no larval of the text is pending

is_none_none : {A : Type 0} (o : Option A) → is_none o ≡ true → o ≡ None
is_none_none None e = refl
is_none_none (Some a) e = absurd cc

-- a look that answers so saw a larval of its text that hasn't ended
pub pending_larval : (g : List RegEntry) (x : List ℕ) (plain : Bool) (k : ℕ) → look_answer (rows_of g) (larvals_of g) x plain ≡ Pending k → (j : ℕ) × (slice_get (texts g) j ≡ Some x) × (ended_as g j ≡ None)
pending_larval g x plain k e =
    let place = pending_driver (rows_of g) (larvals_of g) x plain k (position_from (λ row. may_find plain row && bytes_eq row.spec.driver x) 0 (rows_of g)) e in
    let found = position_at (is_pending x) 0 k (larvals_of g) place in
    let larval : Larval = found.2 in
    let two = and_parts (is_none larval.ended) (bytes_eq larval.text x) found.4 in
    (found.0, at_text found.0 larval found.3 ((bytes_eq-Decides larval.text x).0 two.1) (slice_get (texts g) found.0) refl, ap (λ o. option_and_then (λ (y : Larval). y.ended) o) found.3 ∙ is_none_none larval.ended two.0)
  where
    at_text : (j : ℕ) (larval : Larval) → slice_get (larvals_of g) j ≡ Some larval → larval.text ≡ x → (o : Option (List ℕ)) → slice_get (texts g) j ≡ o → slice_get (texts g) j ≡ Some x
    at_text j larval at text None q =
        let f : None ≡ Some larval = sym (larval_get g 0 j j (texts g) (omega arith) ∙ ap (λ o. option_map (λ t. larval_at g j t) o) q) ∙ at in
        absurd cc
    at_text j larval at text (Some y) q =
        let f : Some (larval_at g j y) ≡ Some larval = sym (larval_get g 0 j j (texts g) (omega arith) ∙ ap (λ o. option_map (λ t. larval_at g j t) o) q) ∙ at in
        let l : larval_at g j y ≡ larval = cc in
        q ∙ ap (λ (t : List ℕ). Some t) (ap (λ (z : Larval). z.text) l ∙ text)

some_texts : {x y : List ℕ} → Some x ≡ Some y → x ≡ y
some_texts e = cc

among_heavier : (t : Templates) (weigh : List ℕ → ℕ) (g : List RegEntry) (first child n w : ℕ) (x : List ℕ) (fs : List Frame) → Chained t weigh g first child fs → AreHeavier weigh w fs → Among n fs → slice_get (texts g) n ≡ Some x → w < weigh x
among_heavier t weigh g first child n w x [] chain heavier among at = absurd among
among_heavier t weigh g first child n w x (f ∷ fs) chain heavier (inl q) at =
    let u = chain.0 in
    let same_text : f.text ≡ x = some_texts (sym u.begun ∙ (ap (λ k. slice_get (texts g) k) (sym q) ∙ at)) in
    subst (λ y. w < weigh y) same_text heavier.0
among_heavier t weigh g first child n w x (f ∷ fs) chain heavier (inr among) at = among_heavier t weigh g first f.larval n w x fs chain.2 heavier.1 among at

looks_pending : (t : Templates) (weigh : List ℕ → ℕ) (g : List RegEntry) (first k : ℕ) (x : List ℕ) (came : LookedUp) → (s : Going t weigh g first came) → weigh x < weigh s.text → look_answer (rows_of g) (larvals_of g) x true ≡ Pending k → ⊥
looks_pending t weigh g first k x came s lighter e =
    let p = pending_larval g x true k e in
    by p.0 p.1 (s.only p.0 (get_within (texts g) p.0 x p.1) p.2)
  where
    by : (j : ℕ) → slice_get (texts g) j ≡ Some x → (j ≡ s.larval) ⊎ Among j s.frames → ⊥
    by j at (inl q) =
        let same_text : s.text ≡ x = some_texts (sym s.begun ∙ (ap (λ n. slice_get (texts g) n) (sym q) ∙ at)) in
        absurd (omega (arith, lighter, ap weigh same_text))
    by j at (inr among) = let h : weigh s.text < weigh x = among_heavier t weigh g first s.larval j (weigh s.text) x s.frames s.chained s.heavier among at in absurd (omega (arith, lighter, h))

-- ---- one entry of building more

looks_more : (t : Templates) (weigh : List ℕ → ℕ) (g : List RegEntry) (caller first : ℕ) (x : List ℕ) (a : Looked) (came : LookedUp) → LegalReg g → AreLighter t weigh → (s : Going t weigh g first came)
    → last_of (building g caller) ≡ Some s.larval → IsNext t s.text s.sofar x → t.is_name x ≡ true → a ≡ look_answer (rows_of g) (larvals_of g) x true → Going t weigh (g ++ Look caller x true a ∷ []) first came
looks_more t weigh g caller first x a came legal light s last n named right =
    let lt : weigh x < weigh s.text = light s.text x n.children (length n.ids) s.named n.asked n.next in
    let level = level_below (weigh x) s.levels (omega (arith, lt, s.light)) in
    by a (sym right) lt level.0 level.1 level.2
  where
    up : (l : ℕ) → s.levels ≡ suc l → (r : PlainRegistry × Result ℕ Errno) → looked t (suc l) true s.registry x ≡ r → looked t s.levels true s.registry x ≡ r
    up l e r q = ap (λ k. looked t k true s.registry x) e ∙ q

    by : (b : Looked) → look_answer (rows_of g) (larvals_of g) x true ≡ b → weigh x < weigh s.text → (l : ℕ) → s.levels ≡ suc l → weigh x ≤ l → Going t weigh (g ++ Look caller x true b ∷ []) first came
    by (Found id) e lt l levels le =
        looks_settled t weigh g caller first x (Found id) (Ok id) came legal refl s last n refl (up l levels (s.registry, Ok id) (looked_found t l true s.registry x id (found_by s.registry g x true id s.is e)))
    by Absent e lt l levels le =
        let f = absent_by s.registry g x true s.is e in
        looks_settled t weigh g caller first x Absent (Err ENOENT) came legal refl s last n refl (up l levels (s.registry, Err ENOENT) (looked_absent t l true s.registry x f.0 f.1))
    by (Pending k) e lt l levels le = absurd (looks_pending t weigh g first k x came s lt e)
    by (Began k) e lt l levels le =
        let f = began_by s.registry g x true k s.is e in
        looks_began t weigh g caller first k l x came legal (began_new g x true k e) s last n named lt levels le (looked_built t l true s.registry x f.0 f.1)

going_step : (t : Templates) (weigh : List ℕ → ℕ) (g : List RegEntry) (e : RegEntry) (first : ℕ) (answer : Looked) (came : LookedUp) → AreLighter t weigh → LegalReg g → IsRight g e → IsMade t g e → is_building e ≡ true → answer ≡ Began first → Going t weigh g first came → Phase t weigh (g ++ e ∷ []) answer came
going_step t weigh g (Look caller x true a) first answer came light legal right made work began s = by (last_of (building g caller)) refl
  where
    mine : (m : ℕ) → last_of (building g caller) ≡ Some m → (m ≡ s.larval) ⊎ Among m s.frames → Phase t weigh (g ++ Look caller x true a ∷ []) answer came
    mine m q (inl own) =
        let last : last_of (building g caller) ≡ Some s.larval = q ∙ ap (λ (k : ℕ). Some k) own in
        Goes first began (looks_more t weigh g caller first x a came legal light s last (is_next t g caller s.larval s.text x s.sofar last s.begun s.comes made.1) made.0 right.1)
    mine m q (inr among) = absurd (none_some (next_child t g caller) x (chain_unasked t weigh g first s.larval m caller s.frames s.chained s.unended among q) made.1)

    by : (o : Option ℕ) → last_of (building g caller) ≡ o → Phase t weigh (g ++ Look caller x true a ∷ []) answer came
    by None q =
        absurd (none_some (next_child t g caller) x (ap (λ o. option_and_then (λ larval. option_and_then (λ text. next_of g (looks_for larval [] g) (t.children text)) (slice_get (texts g) larval)) o) q) made.1)
    by (Some m) q = let b = last_built g caller m legal q in mine m q (s.only m (claimed-there g m caller b.claimed) b.unended)
going_step t weigh g (Look caller x false a) first answer came light legal right made work began s = absurd cc
going_step t weigh g (Claim caller m) first answer came light legal right made work began s =
    Goes first began (going_left t weigh g (Claim caller m) first came legal (record { registers = refl; begins = refl; quiet = λ id. record { unlists_not = refl; gets_not = refl; puts_not = refl }; unending = λ n. refl }) (λ n. refl) s)
going_step t weigh g (Waited caller m) first answer came light legal right made work began s =
    Goes first began (going_left t weigh g (Waited caller m) first came legal (record { registers = refl; begins = refl; quiet = λ id. record { unlists_not = refl; gets_not = refl; puts_not = refl }; unending = λ n. refl }) (λ n. refl) s)
going_step t weigh g (End caller m a) first answer came light legal right made work began s = by (s.only m (claimed-there g m caller right.0) right.1)
  where
    over_now : (b : EndAnswer) → ended_as (g ++ End caller m b ∷ []) m ≡ Some (end_of b)
    over_now b =
        ended-push g (End caller m b) m (claimed-there g m caller right.0)
        ∙ (ap (λ o. option_or o (ends m (End caller m b))) right.1 ∙ ap (λ c. cond c (Some (end_of b)) None) (same m))

    own : (b : EndAnswer) → m ≡ s.larval → b ≢ NoMemory → made_answer t g m ≡ Some b → Phase t weigh (g ++ End caller m b ∷ []) answer came
    own b q memory is =
        subst (λ k. Phase t weigh (g ++ End caller k b ∷ []) answer came) (sym q)
        (ends_own t weigh g caller first b answer came legal began s memory (ap (λ k. made_answer t g k) (sym q) ∙ is))

    mine : (b : EndAnswer) → IsMade t g (End caller m b) → m ≡ s.larval → Phase t weigh (g ++ End caller m b ∷ []) answer came
    mine (Built id spec) is q = own (Built id spec) q (λ f. absurd cc) is
    mine (Joined id below) is q = own (Joined id below) q (λ f. absurd cc) is
    mine (Failed errno) is q = own (Failed errno) q (λ f. absurd cc) is
    mine NoMemory is q =
        Fails first began (never_up t weigh g caller m first s.larval NoMemory s.frames s.chained (omega (arith, q)) (Wanting s.larval (ap (λ k. ended_as (g ++ End caller m NoMemory ∷ []) k) (sym q) ∙ over_now NoMemory)))

    theirs : (b : EndAnswer) → IsMade t g (End caller m b) → Among m s.frames → Phase t weigh (g ++ End caller m b ∷ []) answer came
    theirs (Built id spec) is among = absurd (none_some (made_answer t g m) (Built id spec) (chain_unmade t weigh g first s.larval m s.frames s.chained s.unended among) is)
    theirs (Joined id below) is among = absurd (none_some (made_answer t g m) (Joined id below) (chain_unmade t weigh g first s.larval m s.frames s.chained s.unended among) is)
    theirs (Failed errno) is among = absurd (none_some (made_answer t g m) (Failed errno) (chain_unmade t weigh g first s.larval m s.frames s.chained s.unended among) is)
    theirs NoMemory is among = Fails first began (never_among t weigh g caller m first s.larval NoMemory s.frames s.chained among (over_now NoMemory))

    by : (m ≡ s.larval) ⊎ Among m s.frames → Phase t weigh (g ++ End caller m a ∷ []) answer came
    by (inl q) = mine a made q
    by (inr among) = theirs a made among
going_step t weigh g (Enlist caller spec a) first answer came light legal right made work began s = absurd cc
going_step t weigh g (Unlist caller driver a) first answer came light legal right made work began s = absurd cc
going_step t weigh g (Get caller id ok) first answer came light legal right made work began s = absurd cc
going_step t weigh g (Put caller id) first answer came light legal right made work began s = absurd cc
going_step t weigh g (Refs caller driver) first answer came light legal right made work began s = absurd cc
going_step t weigh g (entry.List caller) first answer came light legal right made work began s = absurd cc

phase_step : (t : Templates) (weigh : List ℕ → ℕ) (g : List RegEntry) (e : RegEntry) (answer : Looked) (came : LookedUp) → AreLighter t weigh → LegalReg g → IsRight g e → IsMade t g e → is_building e ≡ true → Phase t weigh g answer came → Phase t weigh (g ++ e ∷ []) answer came
phase_step t weigh g e answer came light legal right made work (Goes first began s) = going_step t weigh g e first answer came light legal right made work began s
phase_step t weigh g e answer came light legal right made work (Ends over) = Ends (over_step t g e answer came legal right made work over)
phase_step t weigh g e answer came light legal right made work (Fails first began never) = Fails first began (never_step t weigh g e first right made never)

pub phase_run : (t : Templates) (weigh : List ℕ → ℕ) (g more : List RegEntry) (answer : Looked) (came : LookedUp) → AreLighter t weigh → LegalReg g → MayFollow g more → MadeAfter t g more → list_all is_building more ≡ true → Phase t weigh g answer came → Phase t weigh (g ++ more) answer came
phase_run t weigh g [] answer came light legal follows made work phase = subst (λ x. Phase t weigh x answer came) (sym (append-nil g)) phase
phase_run t weigh g (e ∷ more) answer came light legal follows made work phase =
    let w = and_parts (is_building e) (list_all is_building more) work in
    subst (λ x. Phase t weigh x answer came) (append_assoc g (e ∷ []) more)
    (phase_run t weigh (g ++ e ∷ []) more answer came light (LegalReg-push g e legal follows.0) follows.1 made.1 w.1 (phase_step t weigh g e answer came light legal follows.0 made.0 w.0 phase))

-- ---- from the look on

none_left : (h : List RegEntry) → NonePending h → (n : ℕ) → n < length (texts h) → ended_as h n ≡ None → ⊥
none_left h none n lt undone = absurd (let s : IsSome {T = Ended} None = subst (λ (o : Option Ended). IsSome o) undone (none n lt) in cc)

phase_begins : (t : Templates) (weigh : List ℕ → ℕ) (h : List RegEntry) (registry : PlainRegistry) (caller levels : ℕ) (x : List ℕ) (a : Looked) → LegalReg h → NonePending h → IsRegistryOf registry h → t.is_name x ≡ true → weigh x ≤ levels
    → a ≡ look_answer (rows_of h) (larvals_of h) x false → Phase t weigh (h ++ Look caller x false a ∷ []) a (looked t (suc levels) false registry x)
phase_begins t weigh h registry caller levels x a legal none is named light right = by a (sym right)
  where
    at_once : (b : Looked) (r : Result ℕ Errno) → begun_by (Look caller x false b) ≡ None → outcome (h ++ Look caller x false b ∷ []) b ≡ Some r → looked t (suc levels) false registry x ≡ (registry, r) → Phase t weigh (h ++ Look caller x false b ∷ []) b (looked t (suc levels) false registry x)
    at_once b r unbegun settled looked_so = Ends (record {
      registry = registry;
      is = known_quiet registry h (Look caller x false b) is legal refl (λ id. record { unlists_not = refl; gets_not = refl; puts_not = refl }) (λ n. refl);
      result = r;
      same = looked_so;
      comes = settled;
      none = λ n lt undone. none_left h none n (no_more h (Look caller x false b) n unbegun lt) (no_end h (Look caller x false b) n undone);
    })

    by : (b : Looked) → look_answer (rows_of h) (larvals_of h) x false ≡ b → Phase t weigh (h ++ Look caller x false b ∷ []) b (looked t (suc levels) false registry x)
    by (Found id) e = at_once (Found id) (Ok id) refl refl (looked_found t levels false registry x id (found_by registry h x false id is e))
    by Absent e = let f = absent_by registry h x false is e in at_once Absent (Err ENOENT) refl refl (looked_absent t levels false registry x f.0 f.1)
    by (Pending k) e = let p = pending_larval h x false k e in absurd (none_left h none p.0 (get_within (texts h) p.0 x p.1) p.2)
    by (Began k) e =
        let l : RegEntry = Look caller x false (Began k) in
        let new : k ≡ length (texts h) = began_new h x false k e in
        let many : length (texts (h ++ l ∷ [])) ≡ length (texts h) + 1 = length-texts h l in
        let f = began_by registry h x false k is e in
        Goes k refl (record {
          registry = registry;
          is = known_quiet registry h l is legal refl (λ id. record { unlists_not = refl; gets_not = refl; puts_not = refl }) (λ n. refl);
          larval = k;
          text = x;
          levels = levels;
          sofar = Ok [];
          begun = ap (λ ts. slice_get ts k) (texts-push h l) ∙ at_last (texts h) k x new;
          unended = ended-new h l k legal (omega (arith, new)) (omega (arith, new, many)) refl;
          named = named;
          light = light;
          comes = ap (λ ls. outcomes (h ++ l ∷ []) ls) (looks-push k h l ∙ (append-nil (looks_for k [] h) ∙ looks-fresh h k legal (omega (arith, new))));
          frames = [];
          chained = refl;
          heavier = tt;
          only = λ n lt undone. inl (own n k lt undone new many);
          same = looked_built t levels false registry x f.0 f.1;
        })
      where
        own : (n j : ℕ) → n < length (texts (h ++ Look caller x false (Began j) ∷ [])) → ended_as (h ++ Look caller x false (Began j) ∷ []) n ≡ None → j ≡ length (texts h) → length (texts (h ++ Look caller x false (Began j) ∷ [])) ≡ length (texts h) + 1 → n ≡ j
        own n j lt undone new many = apart n j (less n (length (texts h))) lt undone new many
          where
            less : (m k' : ℕ) → (m < k') ⊎ (k' ≤ m)
            less m zero = inr (omega arith)
            less zero (suc k') = inl (omega arith)
            less (suc m) (suc k') = up (less m k')
              where
                up : (m < k') ⊎ (k' ≤ m) → (suc m < suc k') ⊎ (suc k' ≤ suc m)
                up (inl q) = inl (omega (arith, q))
                up (inr q) = inr (omega (arith, q))

            apart : (m i : ℕ) → (m < length (texts h)) ⊎ (length (texts h) ≤ m) → m < length (texts (h ++ Look caller x false (Began i) ∷ [])) → ended_as (h ++ Look caller x false (Began i) ∷ []) m ≡ None → i ≡ length (texts h) → length (texts (h ++ Look caller x false (Began i) ∷ [])) ≡ length (texts h) + 1 → m ≡ i
            apart m i (inl q) lt' undone' new' many' = absurd (none_left h none m q (no_end h (Look caller x false (Began i)) m undone'))
            apart m i (inr q) lt' undone' new' many' = omega (arith, q, lt', new', many')

-- what a look and the building after it left
pub record Determined (registry : PlainRegistry) (came : LookedUp) (h : List RegEntry) (r : Result ℕ Errno) : Type 0 where
  pub is : IsRegistryOf came.0 h
  pub result : came.1 ≡ r
  pub none : NonePending h

pub phase_ends : (t : Templates) (weigh : List ℕ → ℕ) (g : List RegEntry) (registry : PlainRegistry) (answer : Looked) (came : LookedUp) (r : Result ℕ Errno) → outcome g answer ≡ Some r → Phase t weigh g answer came → Determined registry came g r
phase_ends t weigh g registry answer came r comes (Goes first began s) =
    absurd (none_some (outcome g answer) r (ap (λ a. outcome g a) began ∙ chain_open t weigh g first s.larval s.frames s.chained s.unended) comes)
phase_ends t weigh g registry answer came r comes (Fails first began never) = absurd (none_some (outcome g answer) r (ap (λ a. outcome g a) began ∙ never_none t weigh g first never) comes)
phase_ends t weigh g registry answer came r comes (Ends over) = record {
  is = subst (λ k. IsRegistryOf k g) (sym (ap (λ (c : LookedUp). c.0) over.same)) over.is;
  result = ap (λ (c : LookedUp). c.1) over.same ∙ same_result (sym over.comes ∙ comes);
  none = λ n lt. ended_some (ended_as g n) (over.none n lt);
}
  where
    same_result : {x y : Result ℕ Errno} → Some x ≡ Some y → x ≡ y
    same_result e = cc

    ended_some : (o : Option Ended) → (o ≡ None → ⊥) → IsSome o
    ended_some None f = absurd (f refl)
    ended_some (Some e) f = refl

-- a look in a registry where nothing is pending, and the building after it, whoever builds
pub determined : (t : Templates) (weigh : List ℕ → ℕ) (h work : List RegEntry) (registry : PlainRegistry) (caller levels : ℕ) (x : List ℕ) (a : Looked) (r : Result ℕ Errno) → AreLighter t weigh → weigh x ≤ levels
    → LegalReg h → NonePending h → IsRegistryOf registry h → IsRight h (Look caller x false a) → IsMade t h (Look caller x false a)
    → MayFollow (h ++ Look caller x false a ∷ []) work → MadeAfter t (h ++ Look caller x false a ∷ []) work → list_all is_building work ≡ true
    → outcome ((h ++ Look caller x false a ∷ []) ++ work) a ≡ Some r → Determined registry (looked t (suc levels) false registry x) ((h ++ Look caller x false a ∷ []) ++ work) r
determined t weigh h work registry caller levels x a r lighter light legal none is right made follows made_after all comes =
    phase_ends t weigh ((h ++ Look caller x false a ∷ []) ++ work) registry a (looked t (suc levels) false registry x) r comes
    (phase_run t weigh (h ++ Look caller x false a ∷ []) work a (looked t (suc levels) false registry x) lighter (LegalReg-push h (Look caller x false a) legal right) follows made_after all
    (phase_begins t weigh h registry caller levels x a legal none is made light right.1))
