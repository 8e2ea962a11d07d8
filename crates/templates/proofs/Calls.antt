-- What the calls say, for the answers of `resolve`.
use Rattle.std.proofs.Common.{◌≡◌, ℕ, ◌+◌, ◌<◌, Bool, List, [], ◌∷◌, ◌++◌, length, get_or, take, refl, ap, sym, ◌∙◌, subst, Some, None, Result, Ok, Err}
use Rattle.std.specs.List.{filter_map, cons_option}
use Rattle.std.proofs.lemmas.List.{take_more}
use Rattle.std.proofs.lemmas.List.Elements.{filter_map-append}
use Rattle.alg_registry.specs.declared.spec.Spec.{Spec}
use Rattle.kc_base.specs.declared.error_numbers.Errno.TheVariants.{ENOENT}
use Rattle.alg_registry.specs.declared.entry.Looked.{Looked}
use Rattle.alg_registry.specs.declared.entry.Looked.TheVariants.{Found, Began, Absent}
use Rattle.alg_registry.specs.declared.entry.RegEntry.{RegEntry}
use Rattle.alg_registry.specs.declared.entry.RegEntry.TheVariants.{Look, Claim}
use Rattle.alg_registry.specs.Rows.{rows_of, larvals_of, registered}
use Rattle.alg_registry.specs.Answers.{look_answer}
use Rattle.alg_registry.specs.Calls.{claimed_number}
use Rattle.alg_registry.specs.Legal.{LegalReg, claimer, ended_as}
use Rattle.alg_registry.specs.Made.{Made, IsMade, with_spec}
use Rattle.alg_names.specs.Name.{Tree, spelling}
use Rattle.templates.specs.Names.{IsKnown}
use Rattle.templates.specs.Table.{table, children_of, derived_of, FaultIs}
use Rattle.templates.specs.Resolution.{weight, AreAbove, Grows, CameTo, IsOpen, LooksCome, Builds, EndsWith, Resolves}
use Rattle.templates.proofs.Growth.{came_now}
use Rattle.alg_registry.proofs.Looks.{began_new}
use Rattle.templates.proofs.Looks.{any_answer, claimable, opened, resolved, grows_look, grows_of_builds}
use Rattle.templates.proofs.ChildLooks.{derives, derives_not}
use Rattle.templates.specs.declared.build_errors.BuildErr.{BuildErr}
use Rattle.std.specs.Prelude.{IfOk, IfErr}

pub found_came : (caller id : ℕ) (h h1 : List RegEntry) (text : List ℕ) (plain : Bool) (a : Looked) → Made table h → IsMade table h (Look caller text plain Absent) → h1 ≡ h ++ Look caller text plain a ∷ [] → a ≡ Found id → CameTo caller text plain (Ok id) h h1
found_came caller id h h1 text plain a made next e q =
    subst (λ x. CameTo caller text plain (Ok id) h x) (sym (e ∙ ap (λ b. h ++ Look caller text plain b ∷ []) q))
    (came_now caller h text plain (Found id) (Ok id) made (any_answer h caller text plain Absent (Found id) next) refl refl)

pub absent_came : (caller : ℕ) (h h1 : List RegEntry) (text : List ℕ) (plain : Bool) (a : Looked) → Made table h → IsMade table h (Look caller text plain Absent) → h1 ≡ h ++ Look caller text plain a ∷ [] → a ≡ Absent → CameTo caller text plain (Err ENOENT) h h1
absent_came caller h h1 text plain a made next e q =
    subst (λ x. CameTo caller text plain (Err ENOENT) h x) (sym (e ∙ ap (λ b. h ++ Look caller text plain b ∷ []) q))
    (came_now caller h text plain Absent (Err ENOENT) made next refl refl)

pub claimable_at : (h h1 : List RegEntry) (caller : ℕ) (text : List ℕ) (plain : Bool) (k : ℕ) (a : Looked) → LegalReg h → look_answer (rows_of h) (larvals_of h) text plain ≡ a → h1 ≡ h ++ Look caller text plain a ∷ [] → a ≡ Began k → claimed_number (larvals_of h1) (Some k) ≡ Some k
claimable_at h h1 caller text plain k a legal f e q =
    subst (λ x. claimed_number (larvals_of x) (Some k) ≡ Some k) (sym (e ∙ ap (λ b. h ++ Look caller text plain b ∷ []) q))
    (claimable h caller text plain k legal (began_new h text plain k (f ∙ q)))

-- one more entry with its id, if there is one
pub one_more : (specs : List Spec) (below after : List (ℕ × Spec)) (ids : List ℕ) (i : ℕ) → i < length ids → below ≡ filter_map (with_spec specs) (take i ids) → after ≡ below ++ cons_option (with_spec specs (get_or ids i 0)) [] → after ≡ filter_map (with_spec specs) (take (i + 1) ids)
one_more specs below after ids i lt b e =
    e ∙ (ap (λ x. x ++ cons_option (with_spec specs (get_or ids i 0)) []) b
    ∙ sym (ap (λ x. filter_map (with_spec specs) x) (take_more ids i 0 lt) ∙ filter_map-append (with_spec specs) (take i ids) (get_or ids i 0 ∷ [])))

pub opened_at : (h h1 h2 : List RegEntry) (caller : ℕ) (name : Tree) (plain : Bool) (k : ℕ) (a : Looked) → LegalReg h → Made table h → IsMade table h (Look caller (spelling name) plain Absent) → AreAbove h (weight name + 1) → IsKnown name
    → look_answer (rows_of h) (larvals_of h) (spelling name) plain ≡ a → h1 ≡ h ++ Look caller (spelling name) plain a ∷ [] → a ≡ Began k → h2 ≡ h1 ++ Claim caller k ∷ [] → IsOpen caller k name h2
opened_at h h1 h2 caller name plain k a legal made next above allowed f e1 q e2 =
    subst (λ x. IsOpen caller k name x) (sym (e2 ∙ ap (λ x. x ++ Claim caller k ∷ []) (e1 ∙ ap (λ b. h ++ Look caller (spelling name) plain b ∷ []) q)))
    (opened h caller name plain k legal made (any_answer h caller (spelling name) plain Absent (Began k) next) above allowed (began_new h (spelling name) plain k (f ∙ q)))

pub still_claimed : (caller k : ℕ) (name : Tree) (h2 h3 : List RegEntry) (built : Result Spec BuildErr) → IsOpen caller k name h2 → Builds caller k h2 h3 built → claimer h3 k ≡ Some caller
still_claimed caller k name h2 h3 built o b = ((grows_of_builds caller k h2 h3 built b).own_kept k o.claimed).0

pub still_unended : (caller k : ℕ) (name : Tree) (h2 h3 : List RegEntry) (built : Result Spec BuildErr) → IsOpen caller k name h2 → Builds caller k h2 h3 built → ended_as h3 k ≡ None
still_unended caller k name h2 h3 built o b = ((grows_of_builds caller k h2 h3 built b).own_kept k o.claimed).1 ∙ o.unended

pub resolved_at : (h h1 h2 h3 h4 : List RegEntry) (caller : ℕ) (text : List ℕ) (plain : Bool) (k : ℕ) (a : Looked) (built : Result Spec BuildErr) (r : Result ℕ BuildErr) → LegalReg h → Made table h → IsMade table h (Look caller text plain Absent)
    → look_answer (rows_of h) (larvals_of h) text plain ≡ a → h1 ≡ h ++ Look caller text plain a ∷ [] → a ≡ Began k → h2 ≡ h1 ++ Claim caller k ∷ [] → Builds caller k h2 h3 built → EndsWith caller k h3 h4 built r → Resolves caller text plain h h4 r
resolved_at h h1 h2 h3 h4 caller text plain k a built r legal made next f e1 q e2 b g =
    resolved caller k h h1 h2 h3 h4 text plain built r legal made (any_answer h caller text plain Absent (Began k) next) (began_new h text plain k (f ∙ q)) (e1 ∙ ap (λ b'. h ++ Look caller text plain b' ∷ []) q) e2 b g

pub grows_at : (h h1 h2 : List RegEntry) (caller : ℕ) (text : List ℕ) (plain : Bool) (k : ℕ) (a : Looked) → Made table h → IsMade table h (Look caller text plain Absent) → h1 ≡ h ++ Look caller text plain a ∷ [] → a ≡ Began k → h2 ≡ h1 → Grows caller h h2
grows_at h h1 h2 caller text plain k a made next e1 q e2 =
    subst (λ x. Grows caller h x) (sym (e2 ∙ (e1 ∙ ap (λ b. h ++ Look caller text plain b ∷ []) q))) (grows_look caller k h text plain made (any_answer h caller text plain Absent (Began k) next))

pub derives_so : (caller larval : ℕ) (name : Tree) (names : List Tree) (ids : List ℕ) (below : List (ℕ × Spec)) (h h' : List RegEntry) (r : Result Spec BuildErr) → IsOpen caller larval name h → IsKnown name → children_of name ≡ Ok names
    → LooksCome caller larval (Ok ids) h h' → length ids ≡ length names → below ≡ filter_map (with_spec (registered h')) ids
    → IfOk r (λ s. derived_of name below ≡ Ok s) → IfErr r (λ e. FaultIs e (derived_of name below)) → Builds caller larval h h' r
derives_so caller larval name names ids below h h' (Ok spec) o allowed asked come l b ok err = derives caller larval name names ids below h h' spec o allowed asked come l b ok
derives_so caller larval name names ids below h h' (Err e) o allowed asked come l b ok err = derives_not caller larval name names ids below h h' e o allowed asked come l b err
