-- What the answers of a look mean where only heavier larvals are pending.
use Rattle.std.proofs.Common.{◌≡◌, ℕ, zero, suc, ◌+◌, ◌<◌, ◌≤◌, ◌⊎◌, inl, inr, Bool, true, false, cond, eqb, ◌&&◌, if◌then◌else◌, List, [], ◌∷◌, ◌++◌, length, refl, ap, sym, ◌∙◌, subst, arith, Option, Some, None, Result, Ok, Err}
use Rattle.std.specs.Prelude.{slice_get, is_none}
use Rattle.std.specs.List.{cons_option, position_from}
use Rattle.std.specs.Option.{option_or, option_and_then, option_map, option_map_or}
use Rattle.std.specs.Str.{bytes_eq}
use Rattle.std.proofs.lemmas.List.{append-nil}
use Rattle.std.proofs.lemmas.Slice.Eq.{bytes_eq-Decides}
use Rattle.std.proofs.lemmas.Bool.{and_from}
use Rattle.alg_registry.specs.declared.spec.Spec.{Spec}
use Rattle.alg_registry.specs.declared.row.Row.{Row}
use Rattle.alg_registry.specs.declared.row.Larval.{Larval}
use Rattle.alg_registry.specs.declared.entry.Ended.{Ended}
use Rattle.alg_registry.specs.declared.entry.Looked.{Looked}
use Rattle.alg_registry.specs.declared.entry.Looked.TheVariants.{Pending, Began, Absent}
use Rattle.alg_registry.specs.declared.entry.EndAnswer.{EndAnswer}
use Rattle.alg_registry.specs.declared.entry.EndAnswer.TheVariants.{Built, Joined, Failed, NoMemory}
use Rattle.alg_registry.specs.declared.entry.RegEntry.{RegEntry}
use Rattle.alg_registry.specs.declared.entry.RegEntry.TheVariants.{Look, Claim, End}
use Rattle.alg_registry.specs.Rows.{texts, rows_of, larvals_of, larval_at, first_of, ends, claims}
use Rattle.alg_registry.specs.Answers.{look_answer, found_driver, found_best, not_found, is_pending, is_template, may_find, best_from, built_answer}
use Rattle.alg_registry.specs.Calls.{claimed_number, is_unclaimed}
use Rattle.alg_registry.specs.Legal.{ended_as, LegalReg}
use Rattle.alg_registry.specs.Made.{Made, IsMade, building, last_of, looks_for, look_for, if_of, made_answer}
use Rattle.alg_registry.proofs.Fresh.{fresh-from_legal}
use Rattle.alg_registry.proofs.Steps.{first_of-push}
use Rattle.alg_names.specs.Name.{Tree, spelling}
use Rattle.templates.specs.Names.{IsKnown}
use Rattle.templates.specs.declared.build_errors.BuildErr.{BuildErr}
use Rattle.templates.specs.declared.build_errors.BuildErr.TheVariants.{Fault, Memory}
use Rattle.templates.specs.Table.{table}
use Rattle.templates.specs.Resolution.{weight, weight_of, AreAbove, Grows, Within, IsOpen, Builds, Resolves, given_of, result_of, EndsWith}
use Rattle.alg_registry.proofs.Stack.{ended-stays, claimed-stays, claimed-there, texts-push, length-texts, building-push, looks-push, ended-push, claimed-push, ended-new, claimed-new, last-snoc, same, looks-fresh, larval_get, belongs_not, last_below, stack_below}
use Rattle.templates.proofs.Growth.{grows_begun, came_begun, split, none_after}
use Rattle.templates.proofs.ChildLooks.{get_front, get_within}
use Rattle.alg_registry.proofs.Making.{Made-push}
use Rattle.templates.proofs.TableLaws.{weight_of-spelling}

pub position_at : {A : Type 0} (p : A → Bool) (from k : ℕ) (xs : List A) → position_from p from xs ≡ Some k → (j : ℕ) × (k ≡ from + j) × (x : A) × (slice_get xs j ≡ Some x) × (p x ≡ true)
position_at p from k [] e = absurd cc
position_at p from k (x ∷ xs) e = here (p x) refl e (position_at p (from + 1) k xs)
  where
    here : (b : Bool) → p x ≡ b → cond b (Some from) (position_from p (from + 1) xs) ≡ Some k
        → (position_from p (from + 1) xs ≡ Some k → (j : ℕ) × (k ≡ (from + 1) + j) × (y : _) × (slice_get xs j ≡ Some y) × (p y ≡ true))
        → (j : ℕ) × (k ≡ from + j) × (y : _) × (slice_get (x ∷ xs) j ≡ Some y) × (p y ≡ true)
    here true q f later = let g : from ≡ k = cc in (zero, omega (arith, g), x, refl, q)
    here false q f later = let r = later f in (suc r.0, omega (arith, r.1), r.2, r.3, r.4)

pending_answer : (larvals : List Larval) (text : List ℕ) (k : ℕ) (o : Option ℕ) → not_found larvals text o ≡ Pending k → o ≡ Some k
pending_answer larvals text k (Some n) e = let f : n ≡ k = cc in ap (λ (m : ℕ). Some m) f
pending_answer larvals text k None e = absurd (no (is_template text) e)
  where
    no : (b : Bool) → (if b then Began (length larvals) else Absent) ≡ Pending k → ⊥
    no true q = cc
    no false q = cc

pending_best : (larvals : List Larval) (text : List ℕ) (k : ℕ) (o : Option (ℕ × ℕ)) → found_best larvals text o ≡ Pending k → position_from (is_pending text) 0 larvals ≡ Some k
pending_best larvals text k (Some best) e = absurd cc
pending_best larvals text k None e = pending_answer larvals text k (position_from (is_pending text) 0 larvals) e

pub pending_driver : (rows : List Row) (larvals : List Larval) (text : List ℕ) (plain : Bool) (k : ℕ) (o : Option ℕ) → found_driver rows larvals text plain o ≡ Pending k → position_from (is_pending text) 0 larvals ≡ Some k
pending_driver rows larvals text plain k (Some id) e = absurd cc
pending_driver rows larvals text plain k None e = pending_best larvals text k (best_from larvals text plain 0 rows) e

none_of : {A : Type 0} (o : Option A) → is_none o ≡ true → o ≡ None
none_of None e = refl
none_of (Some a) e = absurd cc

left_true : (a b : Bool) → (a && b) ≡ true → a ≡ true
left_true true b e = refl
left_true false b e = absurd cc

right_true : (a b : Bool) → (a && b) ≡ true → b ≡ true
right_true true b e = e
right_true false b e = absurd cc

-- of what is pending nothing has this name
pub pending_not : (h : List RegEntry) (name : Tree) (plain : Bool) (k : ℕ) → IsKnown name → AreAbove h (weight name + 1) → look_answer (rows_of h) (larvals_of h) (spelling name) plain ≡ Pending k → ⊥
pending_not h name plain k allowed above e =
    let place = pending_driver (rows_of h) (larvals_of h) (spelling name) plain k (position_from (λ row. may_find plain row && bytes_eq row.spec.driver (spelling name)) 0 (rows_of h)) e in
    let found = position_at (is_pending (spelling name)) 0 k (larvals_of h) place in
    let x : Larval = found.2 in
    at_text found.0 x found.3 (left_true (is_none x.ended) (bytes_eq x.text (spelling name)) found.4) ((bytes_eq-Decides x.text (spelling name)).0 (right_true (is_none x.ended) (bytes_eq x.text (spelling name)) found.4)) (slice_get (texts h) found.0) refl
  where
    at_text : (j : ℕ) (x : Larval) → slice_get (larvals_of h) j ≡ Some x → is_none x.ended ≡ true → x.text ≡ spelling name → (o : Option (List ℕ)) → slice_get (texts h) j ≡ o → ⊥
    at_text j x at going same_text None g =
        let f : None ≡ Some x = sym (larval_get h 0 j j (texts h) (omega arith) ∙ ap (λ o. option_map (λ text. larval_at h j text) o) g) ∙ at in cc
    at_text j x at going same_text (Some text) g =
        let f : Some (larval_at h j text) ≡ Some x = sym (larval_get h 0 j j (texts h) (omega arith) ∙ ap (λ o. option_map (λ t. larval_at h j t) o) g) ∙ at in
        let l : larval_at h j text ≡ x = cc in
        let t : text ≡ spelling name = ap (λ (y : Larval). y.text) l ∙ same_text in
        let pending : ended_as h j ≡ None = ap (λ o. option_and_then (λ (y : Larval). y.ended) o) at ∙ none_of x.ended going in
        let w : weight name + 1 ≤ weight_of text = above j text g pending in
        absurd (omega (arith, w, ap weight_of t, weight_of-spelling name allowed))

-- the larval that has just begun may be claimed
pub claimable : (h : List RegEntry) (caller : ℕ) (text : List ℕ) (plain : Bool) (k : ℕ) → LegalReg h → k ≡ length (texts h) → claimed_number (larvals_of (h ++ Look caller text plain (Began k) ∷ [])) (Some k) ≡ Some k
claimable h caller text plain k legal new =
    let e : RegEntry = Look caller text plain (Began k) in
    let h1 : List RegEntry = h ++ e ∷ [] in
    let at : slice_get (texts h1) k ≡ Some text = ap (λ ts. slice_get ts k) (texts-push h e) ∙ at_end (texts h) k text new in
    let l : slice_get (larvals_of h1) k ≡ Some (larval_at h1 k text) = larval_get h1 0 k k (texts h1) (omega arith) ∙ ap (λ o. option_map (λ t. larval_at h1 k t) o) at in
    let no_claim : first_of (claims k) h1 ≡ None = first_of-push (claims k) h e ∙ ap (λ o. option_or o None) ((fresh-from_legal h legal).claims_none k (omega (arith, new))) in
    let no_end : first_of (ends k) h1 ≡ None = first_of-push (ends k) h e ∙ ap (λ o. option_or o None) ((fresh-from_legal h legal).ends_none k (omega (arith, new))) in
    ap (λ o. if option_map_or is_unclaimed o false then Some k else None) l
    ∙ (ap (λ (o : Option Ended). if is_none o && is_none (first_of (claims k) h1) then Some k else None) no_end
    ∙ ap (λ (o : Option ℕ). if true && is_none o then Some k else None) no_claim)
  where
    at_end : (ts : List (List ℕ)) (n : ℕ) (t : List ℕ) → n ≡ length ts → slice_get (ts ++ t ∷ []) n ≡ Some t
    at_end [] n t e = ap (λ m. slice_get (t ∷ []) m) e
    at_end (u ∷ ts) n t e = ap (λ m. slice_get (u ∷ (ts ++ t ∷ [])) m) e ∙ at_end ts (length ts) t refl

pub at_last : (ts : List (List ℕ)) (n : ℕ) (t : List ℕ) → n ≡ length ts → slice_get (ts ++ t ∷ []) n ≡ Some t
at_last [] n t e = ap (λ m. slice_get (t ∷ []) m) e
at_last (u ∷ ts) n t e = ap (λ m. slice_get (u ∷ (ts ++ t ∷ [])) m) e ∙ at_last ts (length ts) t refl

pub any_answer : (h : List RegEntry) (caller : ℕ) (text : List ℕ) (plain : Bool) (a b : Looked) → IsMade table h (Look caller text plain a) → IsMade table h (Look caller text plain b)
any_answer h caller text true a b m = m
any_answer h caller text false a b m = m

-- after the caller's claim the larval is open
pub opened : (h : List RegEntry) (caller : ℕ) (name : Tree) (plain : Bool) (k : ℕ) → LegalReg h → Made table h → IsMade table h (Look caller (spelling name) plain (Began k)) → AreAbove h (weight name + 1) → IsKnown name → k ≡ length (texts h)
    → IsOpen caller k name ((h ++ Look caller (spelling name) plain (Began k) ∷ []) ++ Claim caller k ∷ [])
opened h caller name plain k legal made next above allowed new =
    let l : RegEntry = Look caller (spelling name) plain (Began k) in
    let c : RegEntry = Claim caller k in
    let h1 : List RegEntry = h ++ l ∷ [] in
    let h2 : List RegEntry = h1 ++ c ∷ [] in
    let t1 : length (texts h1) ≡ length (texts h) + 1 = length-texts h l in
    let t2 : length (texts h2) ≡ length (texts h1) + 0 = length-texts h1 c in
    let texts2 : texts h2 ≡ texts h ++ spelling name ∷ [] = texts-push h1 c ∙ (append-nil (texts h1) ∙ texts-push h l) in
    let unended : ended_as h2 k ≡ None =
    ended-push h1 c k (omega (arith, new, t1)) ∙ ap (λ o. option_or o None) (ended-new h l k legal (omega (arith, new)) (omega (arith, new, t1)) refl) in
    record {
      begun = ap (λ ts. slice_get ts k) texts2 ∙ at_last (texts h) k (spelling name) new;
      claimed = claimed-push h1 c k (omega (arith, new, t1))
          ∙ (ap (λ o. option_or o (claims k c)) (claimed-new h l k legal (omega (arith, new)) (omega (arith, new, t1)) refl)
          ∙ ap (λ b. if b then Some caller else None) (same k));
      unended = unended;
      last = ap last_of (building-push h1 c caller ∙ ap (λ b. if b then building h1 caller ++ k ∷ [] else building h1 caller) (same caller)) ∙ last-snoc (building h1 caller) k;
      no_looks = looks-push k h1 c ∙ (append-nil (looks_for k [] h1) ∙ (looks-push k h l ∙ own_none (looks-fresh h k legal (omega (arith, new))) plain));
      above = λ n text at pending. by_place n text at pending (split n (length (texts h)));
      made = Made-push table h1 c (Made-push table h l made next) tt;
    }
  where
    own_none : looks_for k [] h ≡ [] → (p : Bool) → looks_for k [] h ++ cons_option (if_of k (look_for h (Look caller (spelling name) p (Began k)))) [] ≡ []
    own_none e true = ap (λ ls. ls ++ cons_option (if_of k (look_for h (Look caller (spelling name) true (Began k)))) []) e ∙ ap (λ o. cons_option o []) (belongs_not k (last_of (building h caller)) (Began k) (λ m q. let lt : m < length (texts h) = last_below (length (texts h)) m (building h caller) (stack_below h legal caller) q in omega (arith, lt, new)))
    own_none e false = ap (λ ls. ls ++ []) e

    by_place : (n : ℕ) (text : List ℕ) → slice_get (texts ((h ++ Look caller (spelling name) plain (Began k) ∷ []) ++ Claim caller k ∷ [])) n ≡ Some text → ended_as ((h ++ Look caller (spelling name) plain (Began k) ∷ []) ++ Claim caller k ∷ []) n ≡ None → (n < length (texts h)) ⊎ (length (texts h) ≤ n) → weight name ≤ weight_of text
    by_place n text at pending (inl early) =
        let l : RegEntry = Look caller (spelling name) plain (Began k) in
        let c : RegEntry = Claim caller k in
        let h1 : List RegEntry = h ++ l ∷ [] in
        let t1 : length (texts h1) ≡ length (texts h) + 1 = length-texts h l in
        let texts2 : texts (h1 ++ c ∷ []) ≡ texts h ++ spelling name ∷ [] = texts-push h1 c ∙ (append-nil (texts h1) ∙ texts-push h l) in
        let older : slice_get (texts h) n ≡ Some text = sym (ap (λ ts. slice_get ts n) texts2 ∙ get_front (texts h) (spelling name ∷ []) n early) ∙ at in
        let open_still : ended_as h n ≡ None = sym (none_after _ _ _ (ended-push h1 c n (omega (arith, early, t1))) refl ∙ none_after _ _ _ (ended-push h l n early) refl) ∙ pending in
        let w : weight name + 1 ≤ weight_of text = above n text older open_still in
        omega (arith, w)
    by_place n text at pending (inr late) =
        let l : RegEntry = Look caller (spelling name) plain (Began k) in
        let c : RegEntry = Claim caller k in
        let h1 : List RegEntry = h ++ l ∷ [] in
        let h2 : List RegEntry = h1 ++ c ∷ [] in
        let t1 : length (texts h1) ≡ length (texts h) + 1 = length-texts h l in
        let t2 : length (texts h2) ≡ length (texts h1) + 0 = length-texts h1 c in
        let texts2 : texts h2 ≡ texts h ++ spelling name ∷ [] = texts-push h1 c ∙ (append-nil (texts h1) ∙ texts-push h l) in
        let lt : n < length (texts h2) = get_within (texts h2) n text at in
        let n_is : n ≡ length (texts h) = omega (arith, lt, late, t1, t2) in
        let own : Some (spelling name) ≡ Some text = sym (ap (λ ts. slice_get ts n) texts2 ∙ at_last (texts h) n (spelling name) n_is) ∙ at in
        let text_is : spelling name ≡ text = cc in
        omega (arith, ap weight_of text_is, weight_of-spelling name allowed)

pub grows_of_builds : (caller k : ℕ) (h h' : List RegEntry) (built : Result Spec BuildErr) → Builds caller k h h' built → Grows caller h h'
grows_of_builds caller k h h' (Ok spec) b = b.within.grows
grows_of_builds caller k h h' (Err (Fault errno)) b = b.within.grows
grows_of_builds caller k h h' (Err Memory) b = b

-- the end of the larval is what the look comes to
ends_so : (caller k : ℕ) (h h3 : List RegEntry) (text : List ℕ) (plain : Bool) (answer : EndAnswer) → LegalReg h → Made table h → IsMade table h (Look caller text plain (Began k)) → k ≡ length (texts h)
    → Within caller k ((h ++ Look caller text plain (Began k) ∷ []) ++ Claim caller k ∷ []) h3 → made_answer table h3 k ≡ Some answer
    → Resolves caller text plain h (h3 ++ End caller k answer ∷ []) (result_of answer)
ends_so caller k h h3 text plain (Built id spec) legal made next new w e = came_begun caller h h3 text plain k (Built id spec) (Ok id) legal made next new w e refl
ends_so caller k h h3 text plain (Joined id below) legal made next new w e = came_begun caller h h3 text plain k (Joined id below) (Ok id) legal made next new w e refl
ends_so caller k h h3 text plain (Failed errno) legal made next new w e = came_begun caller h h3 text plain k (Failed errno) (Err errno) legal made next new w e refl
ends_so caller k h h3 text plain NoMemory legal made next new w e = grows_begun caller h h3 text plain k NoMemory legal new w.grows tt

pub finished : (caller k : ℕ) (h h3 : List RegEntry) (text : List ℕ) (plain : Bool) (built : Result Spec BuildErr) (answer : EndAnswer) → LegalReg h → Made table h → IsMade table h (Look caller text plain (Began k)) → k ≡ length (texts h)
    → Builds caller k ((h ++ Look caller text plain (Began k) ∷ []) ++ Claim caller k ∷ []) h3 built → (answer ≡ NoMemory) ⊎ (answer ≡ given_of h3 built)
    → Resolves caller text plain h (h3 ++ End caller k answer ∷ []) (result_of answer)
finished caller k h h3 text plain built answer legal made next new b (inl e) =
    subst (λ (a : EndAnswer). Resolves caller text plain h (h3 ++ End caller k a ∷ []) (result_of a)) (sym e)
    (grows_begun caller h h3 text plain k NoMemory legal new (grows_of_builds caller k _ h3 built b) tt)
finished caller k h h3 text plain (Ok spec) answer legal made next new b (inr e) =
    subst (λ (a : EndAnswer). Resolves caller text plain h (h3 ++ End caller k a ∷ []) (result_of a)) (sym e)
    (ends_so caller k h h3 text plain (built_answer (rows_of h3) spec) legal made next new b.within b.answered)
finished caller k h h3 text plain (Err (Fault errno)) answer legal made next new b (inr e) =
    subst (λ (a : EndAnswer). Resolves caller text plain h (h3 ++ End caller k a ∷ []) (result_of a)) (sym e)
    (ends_so caller k h h3 text plain (Failed errno) legal made next new b.within b.answered)
finished caller k h h3 text plain (Err Memory) answer legal made next new b (inr e) =
    subst (λ (a : EndAnswer). Resolves caller text plain h (h3 ++ End caller k a ∷ []) (result_of a)) (sym e)
    (grows_begun caller h h3 text plain k NoMemory legal new b tt)

-- the same with what the calls say
pub resolved : (caller k : ℕ) (h h1 h2 h3 h4 : List RegEntry) (text : List ℕ) (plain : Bool) (built : Result Spec BuildErr) (r : Result ℕ BuildErr) → LegalReg h → Made table h → IsMade table h (Look caller text plain (Began k)) → k ≡ length (texts h)
    → h1 ≡ h ++ Look caller text plain (Began k) ∷ [] → h2 ≡ h1 ++ Claim caller k ∷ [] → Builds caller k h2 h3 built → EndsWith caller k h3 h4 built r
    → Resolves caller text plain h h4 r
resolved caller k h h1 h2 h3 h4 text plain built r legal made next new e1 e2 b f =
    let b' : Builds caller k ((h ++ Look caller text plain (Began k) ∷ []) ++ Claim caller k ∷ []) h3 built = subst (λ x. Builds caller k x h3 built) (e2 ∙ ap (λ x. x ++ Claim caller k ∷ []) e1) b in
    let d : Resolves caller text plain h (h3 ++ End caller k f.answer ∷ []) (result_of f.answer) = finished caller k h h3 text plain built f.answer legal made next new b' f.answer_is in
    subst (λ x. Resolves caller text plain h x r) (sym f.history) (subst (λ x. Resolves caller text plain h (h3 ++ End caller k f.answer ∷ []) x) (sym f.result_is) d)

-- a look alone is no harm where memory runs out before the claim
pub grows_look : (caller k : ℕ) (h : List RegEntry) (text : List ℕ) (plain : Bool) → Made table h → IsMade table h (Look caller text plain (Began k)) → Grows caller h (h ++ Look caller text plain (Began k) ∷ [])
grows_look caller k h text plain made next =
    let l : RegEntry = Look caller text plain (Began k) in
    record {
      more = l ∷ [];
      history = refl;
      own = and_from (eqb caller caller) true (same caller) refl;
      made = Made-push table h l made next;
      stack = building-push h l caller;
      ends_stay = λ n x q. ended-stays h l n x q;
      own_kept = λ n q. (claimed-stays h l n caller q, none_after _ _ _ (ended-push h l n (claimed-there h n caller q)) refl);
    }
