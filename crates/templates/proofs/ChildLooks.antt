-- Looking for the children of a larval, one after the other.
use Rattle.std.proofs.Common.{◌≡◌, ℕ, zero, suc, ◌+◌, ◌<◌, ◌≤◌, ◌⊎◌, inl, inr, Bool, true, eqb, if◌then◌else◌, List, [], ◌∷◌, ◌++◌, length, get_or, refl, ap, sym, ◌∙◌, subst, arith, Option, Some, None, Result, Ok, Err, IsSome, map}
use Rattle.std.specs.Prelude.{slice_get}
use Rattle.std.specs.List.{filter_map, cons_option, list_all}
use Rattle.std.specs.Option.{option_and_then}
use Rattle.std.proofs.lemmas.List.{append-nil}
use Rattle.std.proofs.lemmas.List.Elements.{filter_map-append}
use Rattle.std.proofs.lemmas.Bool.{and_from}
use Rattle.kc_base.specs.declared.error_numbers.Errno.{Errno}
use Rattle.alg_registry.specs.declared.spec.Spec.{Spec}
use Rattle.alg_registry.specs.declared.entry.Ended.{Ended}
use Rattle.alg_registry.specs.declared.entry.Looked.{Looked}
use Rattle.alg_registry.specs.declared.entry.Looked.TheVariants.{Found, Pending, Began, Absent}
use Rattle.alg_registry.specs.declared.entry.EndAnswer.{EndAnswer}
use Rattle.alg_registry.specs.declared.entry.EndAnswer.TheVariants.{Failed}
use Rattle.alg_registry.specs.declared.entry.RegEntry.{RegEntry}
use Rattle.alg_registry.specs.declared.entry.RegEntry.TheVariants.{Look}
use Rattle.alg_registry.specs.Rows.{texts, begun_by, registered}
use Rattle.alg_registry.specs.Legal.{ended_as}
use Rattle.alg_registry.specs.Made.{IsMade, building, last_of, looks_for, if_of, outcome, outcomes, outcome_of, all_outcomes, next_child, next_of, made_answer, by_children, by_outcomes, by_spec, with_spec}
use Rattle.alg_names.specs.Name.{Tree, spelling}
use Rattle.templates.specs.Names.{IsKnown}
use Rattle.templates.specs.declared.build_errors.BuildErr.{BuildErr}
use Rattle.templates.specs.declared.build_errors.BuildErr.TheVariants.{Fault, Memory}
use Rattle.templates.specs.Nesting.{is_nested_well}
use Rattle.templates.specs.Table.{table, children_of, derived_of, spellings, FaultIs}
use Rattle.templates.specs.Resolution.{weight, weight_of, AreAbove, Grows, CameTo, Within, AllEnded, is_work, IsOpen, LooksCome, ChildFailed, Builds, Resolves}
use Rattle.alg_registry.proofs.Stack.{same, unequal}
use Rattle.templates.proofs.Growth.{grows_none, grows_on, within_none, within_on, split}
use Rattle.templates.proofs.TableLaws.{table-children, table-derived, table-name}
use Rattle.templates.proofs.Shapes.{lighter, nested_child}

pub get_front : (xs ys : List (List ℕ)) (n : ℕ) → n < length xs → slice_get (xs ++ ys) n ≡ slice_get xs n
get_front [] ys n lt = absurd (omega (arith, lt))
get_front (x ∷ xs) ys zero lt = refl
get_front (x ∷ xs) ys (suc n) lt = get_front xs ys n (omega (arith, lt))

pub get_within : {A : Type 0} (xs : List A) (n : ℕ) (x : A) → slice_get xs n ≡ Some x → n < length xs
get_within [] n x e = absurd cc
get_within (y ∷ xs) zero x e = omega arith
get_within (y ∷ xs) (suc n) x e = let r : n < length xs = get_within xs n x e in omega (arith, r)

-- a text stays that of its larval
pub text_kept : (caller : ℕ) (h h' : List RegEntry) (n : ℕ) → Grows caller h h' → n < length (texts h) → slice_get (texts h') n ≡ slice_get (texts h) n
text_kept caller h h' n g lt = ap (λ x. slice_get (texts x) n) g.history ∙ (ap (λ ts. slice_get ts n) (filter_map-append begun_by h g.more) ∙ get_front (texts h) (texts g.more) n lt)

was_pending : (caller : ℕ) (h h' : List RegEntry) (n : ℕ) → Grows caller h h' → ended_as h' n ≡ None → ended_as h n ≡ None
was_pending caller h h' n g pending = by_end (ended_as h n) refl
  where
    by_end : (o : Option Ended) → ended_as h n ≡ o → ended_as h n ≡ None
    by_end None q = q
    by_end (Some e) q = absurd (let f : None ≡ Some e = sym pending ∙ g.ends_stay n e q in cc)

pub above_on : (caller larval w : ℕ) (h h' : List RegEntry) → AreAbove h w → Grows caller h h' → AllEnded h h' → AreAbove h' w
above_on caller larval w h h' above g ended n text at pending = by_side (split n (length (texts h)))
  where
    by_side : (n < length (texts h)) ⊎ (length (texts h) ≤ n) → w ≤ weight_of text
    by_side (inl early) = above n text (sym (text_kept caller h h' n g early) ∙ at) (was_pending caller h h' n g pending)
    by_side (inr late) = absurd (let s : IsSome (ended_as h' n) = ended n late (get_within (texts h') n text at) in let t : IsSome {T = Ended} None = subst (λ (o : Option Ended). IsSome o) pending s in cc)

pub above_less : (v w : ℕ) (h : List RegEntry) → v ≤ w → AreAbove h w → AreAbove h v
above_less v w h le above n text at pending = omega (arith, le, above n text at pending)

is_ended : (caller : ℕ) (h h' : List RegEntry) (n : ℕ) (r : Result ℕ Errno) → Grows caller h h' → outcome_of (ended_as h n) ≡ Some r → outcome_of (ended_as h' n) ≡ Some r
is_ended caller h h' n r g e = by_end (ended_as h n) refl e
  where
    by_end : (o : Option Ended) → ended_as h n ≡ o → outcome_of o ≡ Some r → outcome_of (ended_as h' n) ≡ Some r
    by_end None q f = absurd cc
    by_end (Some x) q f = ap outcome_of (g.ends_stay n x q) ∙ f

-- what a look came to, it keeps
pub outcome_kept : (caller : ℕ) (h h' : List RegEntry) (answer : Looked) (r : Result ℕ Errno) → Grows caller h h' → outcome h answer ≡ Some r → outcome h' answer ≡ Some r
outcome_kept caller h h' (Found id) r g e = e
outcome_kept caller h h' Absent r g e = e
outcome_kept caller h h' (Pending n) r g e = is_ended caller h h' n r g e
outcome_kept caller h h' (Began n) r g e = is_ended caller h h' n r g e

-- one more look after those that came to entries
outcomes_more : (caller : ℕ) (h h' : List RegEntry) (looks : List Looked) (ids : List ℕ) (answer : Looked) (id : ℕ)
    → Grows caller h h' → outcomes h looks ≡ Some (Ok ids) → outcome h' answer ≡ Some (Ok id) → outcomes h' (looks ++ answer ∷ []) ≡ Some (Ok (ids ++ id ∷ []))
outcomes_more caller h h' [] ids answer id g sofar e =
    let f : [] ≡ ids = cc in
    ap (λ o. all_outcomes o (Some (Ok []))) e ∙ ap (λ is. Some (Ok (is ++ id ∷ []))) f
outcomes_more caller h h' (look ∷ looks) ids answer id g sofar e = here (outcome h look) (outcomes h looks) refl refl sofar (λ rest q. outcomes_more caller h h' looks rest answer id g q e)
  where
    here : (o : Option (Result ℕ Errno)) (p : Option (Result (List ℕ) Errno)) → outcome h look ≡ o → outcomes h looks ≡ p → all_outcomes o p ≡ Some (Ok ids) → ((rest : List ℕ) → outcomes h looks ≡ Some (Ok rest) → outcomes h' (looks ++ answer ∷ []) ≡ Some (Ok (rest ++ id ∷ []))) → all_outcomes (outcome h' look) (outcomes h' (looks ++ answer ∷ [])) ≡ Some (Ok (ids ++ id ∷ []))
    here None p x y z more = absurd cc
    here (Some (Err errno)) p x y z more = absurd cc
    here (Some (Ok first)) None x y z more = absurd cc
    here (Some (Ok first)) (Some (Err errno)) x y z more = absurd cc
    here (Some (Ok first)) (Some (Ok rest)) x y z more =
        let f : first ∷ rest ≡ ids = cc in
        ap (λ o. all_outcomes o (outcomes h' (looks ++ answer ∷ []))) (outcome_kept caller h h' look (Ok first) g x)
        ∙ (ap (λ o. all_outcomes (Some (Ok first)) o) (more rest y) ∙ ap (λ is. Some (Ok (is ++ id ∷ []))) f)

outcomes_fail : (caller : ℕ) (h h' : List RegEntry) (looks : List Looked) (ids : List ℕ) (answer : Looked) (errno : Errno)
    → Grows caller h h' → outcomes h looks ≡ Some (Ok ids) → outcome h' answer ≡ Some (Err errno) → outcomes h' (looks ++ answer ∷ []) ≡ Some (Err errno)
outcomes_fail caller h h' [] ids answer errno g sofar e = ap (λ o. all_outcomes o (Some (Ok []))) e
outcomes_fail caller h h' (look ∷ looks) ids answer errno g sofar e = here (outcome h look) (outcomes h looks) refl refl sofar (λ rest q. outcomes_fail caller h h' looks rest answer errno g q e)
  where
    here : (o : Option (Result ℕ Errno)) (p : Option (Result (List ℕ) Errno)) → outcome h look ≡ o → outcomes h looks ≡ p → all_outcomes o p ≡ Some (Ok ids) → ((rest : List ℕ) → outcomes h looks ≡ Some (Ok rest) → outcomes h' (looks ++ answer ∷ []) ≡ Some (Err errno)) → all_outcomes (outcome h' look) (outcomes h' (looks ++ answer ∷ [])) ≡ Some (Err errno)
    here None p x y z more = absurd cc
    here (Some (Err errno')) p x y z more = absurd cc
    here (Some (Ok first)) None x y z more = absurd cc
    here (Some (Ok first)) (Some (Err errno')) x y z more = absurd cc
    here (Some (Ok first)) (Some (Ok rest)) x y z more =
        ap (λ o. all_outcomes o (outcomes h' (looks ++ answer ∷ []))) (outcome_kept caller h h' look (Ok first) g x) ∙ ap (λ o. all_outcomes (Some (Ok first)) o) (more rest y)

-- the look for a child is one of the larval that is built
pub child_within : (caller larval : ℕ) (text : List ℕ) (r : Result ℕ Errno) (h h' : List RegEntry) → last_of (building h caller) ≡ Some larval → CameTo caller text true r h h' → Within caller larval h h'
child_within caller larval text r h h' last came = record {
  grows = came.grows;
  work = Look caller text true came.answer ∷ came.work;
  went = came.history;
  all_work = and_from (eqb caller caller) (list_all (is_work caller) came.work) (same caller) came.all_work;
  all_ended = came.all_ended;
  others = λ n lt ne.
      came.looks n lt
      ∙ (ap (λ o. looks_for n [] h ++ cons_option (if_of n (option_and_then (λ m. Some (m, came.answer)) o)) []) last
      ∙ (ap (λ b. looks_for n [] h ++ cons_option (if b then Some came.answer else None) []) (unequal larval n (λ q. ne (sym q))) ∙ append-nil (looks_for n [] h)));
}

child_look : (caller larval : ℕ) (text : List ℕ) (r : Result ℕ Errno) (h h' : List RegEntry) → last_of (building h caller) ≡ Some larval → larval < length (texts h) → (came : CameTo caller text true r h h') → looks_for larval [] h' ≡ looks_for larval [] h ++ came.answer ∷ []
child_look caller larval text r h h' last lt came =
    came.looks larval lt
    ∙ (ap (λ o. looks_for larval [] h ++ cons_option (if_of larval (option_and_then (λ m. Some (m, came.answer)) o)) []) last
    ∙ ap (λ b. looks_for larval [] h ++ cons_option (if b then Some came.answer else None) []) (same larval))

pub open_last : (caller larval : ℕ) (name : Tree) (h0 h : List RegEntry) → IsOpen caller larval name h0 → Grows caller h0 h → last_of (building h caller) ≡ Some larval
open_last caller larval name h0 h o g = ap last_of g.stack ∙ o.last

pub open_text : (caller larval : ℕ) (name : Tree) (h0 h : List RegEntry) → IsOpen caller larval name h0 → Grows caller h0 h → slice_get (texts h) larval ≡ Some (spelling name)
open_text caller larval name h0 h o g = text_kept caller h0 h larval g (get_within (texts h0) larval (spelling name) o.begun) ∙ o.begun

-- a further child came to an entry, or to a failure
pub child_entry : (caller larval id : ℕ) (name : Tree) (text : List ℕ) (ids : List ℕ) (h0 h h' : List RegEntry) → IsOpen caller larval name h0 → LooksCome caller larval (Ok ids) h0 h → CameTo caller text true (Ok id) h h' → LooksCome caller larval (Ok (ids ++ id ∷ [])) h0 h'
child_entry caller larval id name text ids h0 h h' o sofar came =
    let last = open_last caller larval name h0 h o sofar.within.grows in
    record {
      within = within_on caller larval h0 h h' sofar.within (child_within caller larval text (Ok id) h h' last came);
      come = ap (λ ls. outcomes h' ls) (child_look caller larval text (Ok id) h h' last (get_within (texts h) larval (spelling name) (open_text caller larval name h0 h o sofar.within.grows)) came)
          ∙ outcomes_more caller h h' (looks_for larval [] h) ids came.answer id came.grows sofar.come came.comes;
    }

pub child_failure : (caller larval : ℕ) (errno : Errno) (name : Tree) (text : List ℕ) (ids : List ℕ) (h0 h h' : List RegEntry) → IsOpen caller larval name h0 → LooksCome caller larval (Ok ids) h0 h → CameTo caller text true (Err errno) h h' → LooksCome caller larval (Err errno) h0 h'
child_failure caller larval errno name text ids h0 h h' o sofar came =
    let last = open_last caller larval name h0 h o sofar.within.grows in
    record {
      within = within_on caller larval h0 h h' sofar.within (child_within caller larval text (Err errno) h h' last came);
      come = ap (λ ls. outcomes h' ls) (child_look caller larval text (Err errno) h h' last (get_within (texts h) larval (spelling name) (open_text caller larval name h0 h o sofar.within.grows)) came)
          ∙ outcomes_fail caller h h' (looks_for larval [] h) ids came.answer errno came.grows sofar.come came.comes;
    }

pub stopped : (caller larval : ℕ) (text : List ℕ) (ids : List ℕ) (name : Tree) (h0 h h' : List RegEntry) (e : BuildErr) → IsOpen caller larval name h0 → LooksCome caller larval (Ok ids) h0 h → Resolves caller text true h h' (Err e) → ChildFailed caller larval h0 h' e
stopped caller larval text ids name h0 h h' (Fault errno) o sofar r = child_failure caller larval errno name text ids h0 h h' o sofar r
stopped caller larval text ids name h0 h h' Memory o sofar r = grows_on caller h0 h h' sofar.within.grows r

get_map : (names : List Tree) (i : ℕ) (u : Tree) → i < length names → u ≡ get_or names i u → slice_get (map spelling names) i ≡ Some (spelling u)
get_map [] i u lt is = absurd (omega (arith, lt))
get_map (x ∷ xs) zero u lt is = ap (λ (v : Tree). Some (spelling v)) (sym is)
get_map (x ∷ xs) (suc i) u lt is = get_map xs i u (omega (arith, lt)) is

next_is : (h : List RegEntry) (looks : List Looked) (children : List (List ℕ)) (ids : List ℕ) → outcomes h looks ≡ Some (Ok ids) → next_of h looks (Ok children) ≡ slice_get children (length ids)
next_is h looks children ids e = rw e

pub child_next : (caller larval : ℕ) (name u : Tree) (names : List Tree) (ids : List ℕ) (h0 h : List RegEntry) → IsOpen caller larval name h0 → IsKnown name → children_of name ≡ Ok names → LooksCome caller larval (Ok ids) h0 h
    → length ids < length names → u ≡ get_or names (length ids) u → next_child table h caller ≡ Some (spelling u)
child_next caller larval name u names ids h0 h o allowed asked sofar lt is =
    ap (λ l. option_and_then (λ m. option_and_then (λ text. next_of h (looks_for m [] h) (table.children text)) (slice_get (texts h) m)) l) (open_last caller larval name h0 h o sofar.within.grows)
    ∙ (ap (λ t. option_and_then (λ text. next_of h (looks_for larval [] h) (table.children text)) t) (open_text caller larval name h0 h o sofar.within.grows)
    ∙ (ap (λ c. next_of h (looks_for larval [] h) c) (table-children name allowed ∙ ap spellings asked)
    ∙ (next_is h (looks_for larval [] h) (map spelling names) ids sofar.come ∙ get_map names (length ids) u lt is)))

pub child_made : (caller larval : ℕ) (name u : Tree) (names : List Tree) (ids : List ℕ) (h0 h : List RegEntry) → IsOpen caller larval name h0 → IsKnown name → IsKnown u → is_nested_well name ≡ true → children_of name ≡ Ok names → LooksCome caller larval (Ok ids) h0 h
    → length ids < length names → u ≡ get_or names (length ids) u → IsMade table h (Look caller (spelling u) true Absent)
child_made caller larval name u names ids h0 h o allowed allowed' nested asked sofar lt is =
    (table-name u allowed' (nested_child name names (length ids) u asked lt is nested), child_next caller larval name u names ids h0 h o allowed asked sofar lt is)

pub child_above : (caller larval : ℕ) (name u : Tree) (names : List Tree) (ids : List ℕ) (h0 h : List RegEntry) → IsOpen caller larval name h0 → children_of name ≡ Ok names → LooksCome caller larval (Ok ids) h0 h
    → length ids < length names → u ≡ get_or names (length ids) u → AreAbove h (weight u + 1)
child_above caller larval name u names ids h0 h o asked sofar lt is =
    above_less (weight u + 1) (weight name) h (omega (arith, lighter name names (length ids) u asked lt is)) (above_on caller larval (weight name) h0 h o.above sofar.within.grows sofar.within.all_ended)

-- how the larval has to end
made_as : (caller larval : ℕ) (name : Tree) (h0 h : List RegEntry) (answer : EndAnswer) → IsOpen caller larval name h0 → IsKnown name → Within caller larval h0 h
    → by_children table h (spelling name) (looks_for larval [] h) (spellings (children_of name)) ≡ Some answer → made_answer table h larval ≡ Some answer
made_as caller larval name h0 h answer o allowed w e =
    ap (λ t. option_and_then (λ text. by_children table h text (looks_for larval [] h) (table.children text)) t) (open_text caller larval name h0 h o w.grows)
    ∙ (ap (λ c. by_children table h (spelling name) (looks_for larval [] h) c) (table-children name allowed) ∙ e)

pub no_children : (caller larval : ℕ) (name : Tree) (h : List RegEntry) (e : BuildErr) → IsOpen caller larval name h → IsKnown name → FaultIs e (children_of name) → Builds caller larval h h (Err e)
no_children caller larval name h (Fault errno) o allowed f =
    let w = within_none caller larval h o.made in
    record { within = w; answered = made_as caller larval name h h (Failed errno) o allowed w (ap (λ c. by_children table h (spelling name) (looks_for larval [] h) (spellings c)) f) }
no_children caller larval name h Memory o allowed f = grows_none caller h o.made

pub child_failed : (caller larval : ℕ) (name : Tree) (names : List Tree) (h h' : List RegEntry) (e : BuildErr) → IsOpen caller larval name h → IsKnown name → children_of name ≡ Ok names → ChildFailed caller larval h h' e → Builds caller larval h h' (Err e)
child_failed caller larval name names h h' (Fault errno) o allowed asked f =
    record { within = f.within; answered = made_as caller larval name h h' (Failed errno) o allowed f.within (ap (λ c. by_children table h' (spelling name) (looks_for larval [] h') (spellings c)) asked ∙ ap (λ p. by_outcomes table h' (spelling name) (map spelling names) p) f.come) }
child_failed caller larval name names h h' Memory o allowed asked f = f

length_map : (names : List Tree) → length (map spelling names) ≡ length names
length_map [] = refl
length_map (x ∷ xs) = ap suc (length_map xs)

derived_as : (caller larval : ℕ) (name : Tree) (names : List Tree) (ids : List ℕ) (below : List (ℕ × Spec)) (h h' : List RegEntry) (r : Result Spec Errno) → IsOpen caller larval name h → IsKnown name → children_of name ≡ Ok names
    → LooksCome caller larval (Ok ids) h h' → length ids ≡ length names → below ≡ filter_map (with_spec (registered h')) ids → derived_of name below ≡ r → made_answer table h' larval ≡ Some (by_spec h' r)
derived_as caller larval name names ids below h h' r o allowed asked come same_length is derived =
    made_as caller larval name h h' (by_spec h' r) o allowed come.within
    (ap (λ c. by_children table h' (spelling name) (looks_for larval [] h') (spellings c)) asked
    ∙ (ap (λ p. by_outcomes table h' (spelling name) (map spelling names) p) come.come
    ∙ (ap (λ (b : Bool). if b then Some (by_spec h' (table.derived (spelling name) (filter_map (with_spec (registered h')) ids))) else None) (equal (length ids) (length (map spelling names)) (same_length ∙ sym (length_map names)))
    ∙ ap (λ d. Some (by_spec h' d)) (table-derived name (filter_map (with_spec (registered h')) ids) allowed ∙ (ap (λ b. derived_of name b) (sym is) ∙ derived)))))
  where
    equal : (a b : ℕ) → a ≡ b → eqb a b ≡ true
    equal a b e = ap (λ c. eqb a c) (sym e) ∙ same a

pub derives : (caller larval : ℕ) (name : Tree) (names : List Tree) (ids : List ℕ) (below : List (ℕ × Spec)) (h h' : List RegEntry) (spec : Spec) → IsOpen caller larval name h → IsKnown name → children_of name ≡ Ok names
    → LooksCome caller larval (Ok ids) h h' → length ids ≡ length names → below ≡ filter_map (with_spec (registered h')) ids → derived_of name below ≡ Ok spec → Builds caller larval h h' (Ok spec)
derives caller larval name names ids below h h' spec o allowed asked come same_length is derived =
    record { within = come.within; answered = derived_as caller larval name names ids below h h' (Ok spec) o allowed asked come same_length is derived }

pub derives_not : (caller larval : ℕ) (name : Tree) (names : List Tree) (ids : List ℕ) (below : List (ℕ × Spec)) (h h' : List RegEntry) (e : BuildErr) → IsOpen caller larval name h → IsKnown name → children_of name ≡ Ok names
    → LooksCome caller larval (Ok ids) h h' → length ids ≡ length names → below ≡ filter_map (with_spec (registered h')) ids → FaultIs e (derived_of name below) → Builds caller larval h h' (Err e)
derives_not caller larval name names ids below h h' (Fault errno) o allowed asked come same_length is derived =
    record { within = come.within; answered = derived_as caller larval name names ids below h h' (Err errno) o allowed asked come same_length is derived }
derives_not caller larval name names ids below h h' Memory o allowed asked come same_length is derived = come.within.grows
