-- How the plain registry goes on with a history.
use Rattle.std.proofs.Common.{◌≡◌, ◌≢◌, ℕ, zero, suc, ◌+◌, ◌<◌, ◌≤◌, Bool, true, false, cond, eqb, ◌&&◌, ◌||◌, List, [], ◌∷◌, ◌++◌, length, refl, ap, sym, ◌∙◌, arith, Option, Some, None}
use Rattle.std.specs.Prelude.{slice_get}
use Rattle.std.specs.List.{cons_option, list_any}
use Rattle.std.specs.Option.{option_or}
use Rattle.std.specs.Str.{bytes_eq}
use Rattle.std.proofs.lemmas.List.{append-nil}
use Rattle.alg_registry.specs.declared.entry.Ended.{Ended}
use Rattle.alg_registry.specs.declared.entry.EndAnswer.{EndAnswer}
use Rattle.alg_registry.specs.declared.entry.EndAnswer.TheVariants.{Built, Joined, Failed, NoMemory}
use Rattle.alg_registry.specs.declared.entry.RegEntry.{RegEntry}
use Rattle.alg_registry.specs.declared.entry.RegEntry.TheVariants.{End}
use Rattle.alg_registry.specs.Rows.{texts, begun_by, ends, end_of, first_of, larvals_from, larvals_of, registered_by, rows_of}
use Rattle.alg_registry.specs.Answers.{is_end_at, ended_with}
use Rattle.alg_registry.specs.Legal.{ended_as, LegalReg}
use Rattle.alg_registry.proofs.Fresh.{fresh-from_legal}
use Rattle.alg_registry.proofs.Registering.{rows_of-registered}
use Rattle.alg_registry.proofs.Steps.{IsQuiet, rows_of-quiet, first_of-push, or_none}
use Rattle.alg_registry.proofs.Stack.{texts-push, ended-within, same, unequal}
use Rattle.sequential_model.specs.Registry.{PlainRegistry, ids_for, ended}
use Rattle.sequential_model.proofs.Agreeing.{IsRegistryOf, is_among}

-- ---- bits

or_false : (a : Bool) → (a || false) ≡ a
or_false true = refl
or_false false = refl

and_false : (a : Bool) → (a && false) ≡ false
and_false true = refl
and_false false = refl

swap : (a b c : Bool) → (a || (b || c)) ≡ (b || (a || c))
swap true true c = refl
swap true false c = refl
swap false b c = refl

-- ---- the larvals that ended with an entry

any_same : (text : List ℕ) (id : ℕ) (h h' : List RegEntry) (first : ℕ) (ts : List (List ℕ)) → ((n : ℕ) → first ≤ n → first_of (ends n) h' ≡ first_of (ends n) h)
    → list_any (ended_with text id) (larvals_from h' first ts) ≡ list_any (ended_with text id) (larvals_from h first ts)
any_same text id h h' first [] same = refl
any_same text id h h' first (t ∷ ts) same =
    let rest = any_same text id h h' (first + 1) ts (λ n le. same n (omega (arith, le))) in
    λ i. (bytes_eq t text && is_end_at id (same first (omega arith) i)) || rest i

-- a larval that hasn't ended adds nothing
any_more : (text : List ℕ) (id : ℕ) (h : List RegEntry) (first last : ℕ) (ts : List (List ℕ)) (t : List ℕ) → last ≡ first + length ts → first_of (ends last) h ≡ None
    → list_any (ended_with text id) (larvals_from h first (ts ++ t ∷ [])) ≡ list_any (ended_with text id) (larvals_from h first ts)
any_more text id h first last [] t at none =
    let here : first ≡ last = omega (arith, at) in
    (λ i. (bytes_eq t text && is_end_at id (first_of (ends (here i)) h)) || false)
    ∙ ((λ i. (bytes_eq t text && is_end_at id (none i)) || false) ∙ (or_false (bytes_eq t text && false) ∙ and_false (bytes_eq t text)))
any_more text id h first last (u ∷ ts) t at none = ap (λ b. (bytes_eq u text && is_end_at id (first_of (ends first) h)) || b) (any_more text id h (first + 1) last ts t (omega (arith, at)) none)

-- the larval of the number ends
any_ended : (text : List ℕ) (id : ℕ) (h h' : List RegEntry) (e : Ended) (m first k : ℕ) (ts : List (List ℕ)) (x : List ℕ)
    → slice_get ts k ≡ Some x → m ≡ first + k → first_of (ends m) h ≡ None → first_of (ends m) h' ≡ Some e → ((n : ℕ) → n ≢ m → first_of (ends n) h' ≡ first_of (ends n) h)
    → list_any (ended_with text id) (larvals_from h' first ts) ≡ ((bytes_eq x text && is_end_at id (Some e)) || list_any (ended_with text id) (larvals_from h first ts))
any_ended text id h h' e m first k [] x at is none now others = absurd cc
any_ended text id h h' e m first zero (t ∷ ts) x at is none now others =
    let here : first ≡ m = omega (arith, is) in
    let t_is : t ≡ x = cc in
    let at_end : first_of (ends first) h' ≡ Some e = ap (λ n. first_of (ends n) h') here ∙ now in
    let before : first_of (ends first) h ≡ None = ap (λ n. first_of (ends n) h) here ∙ none in
    let rest = any_same text id h h' (first + 1) ts (λ n le. others n (λ q. absurd (omega (arith, le, q, here)))) in
    (λ i. (bytes_eq (t_is i) text && is_end_at id (at_end i)) || rest i)
    ∙ ap (λ b. (bytes_eq x text && is_end_at id (Some e)) || b) (sym ((λ i. (bytes_eq t text && is_end_at id (before i)) || list_any (ended_with text id) (larvals_from h (first + 1) ts)) ∙ ap (λ b. b || list_any (ended_with text id) (larvals_from h (first + 1) ts)) (and_false (bytes_eq t text))))
any_ended text id h h' e m first (suc k) (t ∷ ts) x at is none now others =
    let other : first_of (ends first) h' ≡ first_of (ends first) h = others first (λ q. absurd (omega (arith, q, is))) in
    let rest = any_ended text id h h' e m (first + 1) k ts x at (omega (arith, is)) none now others in
    (λ i. (bytes_eq t text && is_end_at id (other i)) || rest i)
    ∙ swap (bytes_eq t text && is_end_at id (first_of (ends first) h)) (bytes_eq x text && is_end_at id (Some e)) (list_any (ended_with text id) (larvals_from h (first + 1) ts))

-- ---- one more entry

-- an entry by which nothing ends leaves the texts for which entries were built or joined
pub built_stays : (registry : PlainRegistry) (h : List RegEntry) (e : RegEntry) → IsRegistryOf registry h → LegalReg h → ((n : ℕ) → ends n e ≡ None) → (text : List ℕ) (id : ℕ) → is_among id (ids_for text registry.built) ≡ list_any (ended_with text id) (larvals_of (h ++ e ∷ []))
built_stays registry h e is legal unended text id =
    is.built text id
    ∙ (sym (by_begun (begun_by e))
    ∙ (sym (any_same text id h (h ++ e ∷ []) 0 (texts h ++ cons_option (begun_by e) []) (λ n le. first_of-push (ends n) h e ∙ (ap (λ o. option_or (first_of (ends n) h) o) (unended n) ∙ or_none (first_of (ends n) h))))
    ∙ ap (λ ts. list_any (ended_with text id) (larvals_from (h ++ e ∷ []) 0 ts)) (sym (texts-push h e))))
  where
    by_begun : (o : Option (List ℕ)) → list_any (ended_with text id) (larvals_from h 0 (texts h ++ cons_option o [])) ≡ list_any (ended_with text id) (larvals_of h)
    by_begun None = ap (λ ts. list_any (ended_with text id) (larvals_from h 0 ts)) (append-nil (texts h))
    by_begun (Some t) = any_more text id h 0 (length (texts h)) (texts h) t (omega arith) ((fresh-from_legal h legal).ends_none (length (texts h)) (omega arith))

-- an entry by which nothing is registered, changed or ended
pub known_quiet : (registry : PlainRegistry) (h : List RegEntry) (e : RegEntry) → IsRegistryOf registry h → LegalReg h → registered_by e ≡ None → ((id : ℕ) → IsQuiet e id) → ((n : ℕ) → ends n e ≡ None) → IsRegistryOf registry (h ++ e ∷ [])
known_quiet registry h e is legal none quiet unended = record {
  rows = is.rows ∙ sym (rows_of-quiet h e none quiet);
  built = built_stays registry h e is legal unended;
}

-- which entries were built or joined for a text, after one more end
among_ended : (text x : List ℕ) (id made : ℕ) (registry : PlainRegistry) → is_among id (ids_for text ((x, made) ∷ registry.built)) ≡ ((bytes_eq x text && eqb made id) || is_among id (ids_for text registry.built))
among_ended text x id made registry = by (bytes_eq x text)
  where
    by : (b : Bool) → is_among id (cons_option (cond b (Some made) None) (ids_for text registry.built)) ≡ ((b && eqb made id) || is_among id (ids_for text registry.built))
    by true = refl
    by false = refl

-- a larval of the text ends
pub known_ended : (registry : PlainRegistry) (h : List RegEntry) (caller m : ℕ) (x : List ℕ) (answer : EndAnswer) → IsRegistryOf registry h → LegalReg h → m < length (texts h) → slice_get (texts h) m ≡ Some x → ended_as h m ≡ None
    → IsRegistryOf (ended x registry answer).0 (h ++ End caller m answer ∷ [])
known_ended registry h caller m x answer is legal lt at none = by_answer answer
  where
    before : first_of (ends m) h ≡ None
    before = sym (ended-within h m lt) ∙ none

    -- the larvals at_end
    at_end : (a : EndAnswer) (text : List ℕ) (id : ℕ) → list_any (ended_with text id) (larvals_of (h ++ End caller m a ∷ [])) ≡ ((bytes_eq x text && is_end_at id (Some (end_of a))) || is_among id (ids_for text registry.built))
    at_end a text id =
        let e : RegEntry = End caller m a in
        ap (λ ts. list_any (ended_with text id) (larvals_from (h ++ e ∷ []) 0 ts)) (texts-push h e ∙ append-nil (texts h))
        ∙ (any_ended text id h (h ++ e ∷ []) (end_of a) m 0 m (texts h) x at (omega arith) before
        (first_of-push (ends m) h e ∙ (ap (λ o. option_or o (ends m e)) before ∙ ap (λ b. cond b (Some (end_of a)) None) (same m)))
        (λ n ne. first_of-push (ends n) h e ∙ (ap (λ b. option_or (first_of (ends n) h) (cond b (Some (end_of a)) None)) (unequal m n (λ q. ne (sym q))) ∙ or_none (first_of (ends n) h)))
        ∙ ap (λ b. (bytes_eq x text && is_end_at id (Some (end_of a))) || b) (sym (is.built text id)))

    still : (a : EndAnswer) → registered_by (End caller m a) ≡ None → registry.rows ≡ rows_of (h ++ End caller m a ∷ [])
    still a none' = is.rows ∙ sym (rows_of-quiet h (End caller m a) none' (λ id. record { unlists_not = refl; gets_not = refl; puts_not = refl }))

    by_answer : (a : EndAnswer) → IsRegistryOf (ended x registry a).0 (h ++ End caller m a ∷ [])
    by_answer (Built made spec) = record {
      rows = rows_of-registered h (End caller m (Built made spec)) registry.rows spec legal is.rows refl (λ id. record { unlists_not = refl; gets_not = refl; puts_not = refl });
      built = λ text id. among_ended text x id made registry ∙ sym (at_end (Built made spec) text id);
    }
    by_answer (Joined made below) = record {
      rows = still (Joined made below) refl;
      built = λ text id. among_ended text x id made registry ∙ sym (at_end (Joined made below) text id);
    }
    by_answer (Failed errno) = record {
      rows = still (Failed errno) refl;
      built = λ text id. sym (at_end (Failed errno) text id ∙ ap (λ b. b || is_among id (ids_for text registry.built)) (and_false (bytes_eq x text)));
    }
    by_answer NoMemory = record {
      rows = still NoMemory refl;
      built = λ text id. sym (at_end NoMemory text id ∙ ap (λ b. b || is_among id (ids_for text registry.built)) (and_false (bytes_eq x text)));
    }
